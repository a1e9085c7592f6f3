-- The rows of a stored table, as a cursor gives their cells one after another.
use Rattle.std.proofs.Common.{◌≡◌, ◌∙◌, ◌⊎◌, ◌+◌, ◌<◌, ℕ, arith, IsTrue, All, List, [], ◌∷◌, ◌++◌, drop, Option, None, Some, Ok, refl, sym, ap, append-nil, append_assoc, subst, ⊎_elim}
use Rattle.std.specs.List.{AllZip}
use Rattle.std.proofs.lemmas.List.Elements.{All-head, All-tail}
use Rattle.values.specs.declared.fault.Fault.{Fault}
use Rattle.values.specs.declared.fault.Fault.TheVariants.{BadDepth, BadOrder, BadPage, Finished, NoMemory, ReadFailed}
use Rattle.values.specs.Row.{Row}
use Rattle.pager.specs.PagerState.{PagerState}
use Rattle.pager.specs.Calls.{AsksChainsOnly, IsReadFault, ReadsTreePages, SameImage}
use Rattle.pager.proofs.CallLemmas.{SameImage-trans}
use Rattle.btree.specs.image.Cell.{CellData}
use Rattle.btree.specs.image.Pages.{pages_seen, Pages, WhereSteady, pages_in}
use Rattle.btree.specs.declared.image.kind.TreeKind.TheVariants.{Table}
use Rattle.btree.specs.image.Shape.{places_under, size_under}
use Rattle.btree.specs.image.Tree.{Place}
use Rattle.btree.proofs.lemmas.image.CellLemmas.{one_cell}
use Rattle.btree_cursor.specs.declared.cursor.cursor.Cursor.{Cursor}
use Rattle.btree_cursor.specs.cursor.Calls.{HasFailed, HasStepped, IsCursorFault, IsStepFault}
use Rattle.btree_cursor.specs.cursor.Left.{all_left, steps_left}
use Rattle.btree_cursor.specs.cursor.Listing.{IsAt, IsEntry}
use Rattle.schema_tables.specs.TableData.{TableData}
use Rattle.integrity_trees.specs.declared.tree_walk.counts.TreeCounts.{TreeCounts}
use Rattle.integrity_trees.specs.table_walk.Checked.{IsCheckedTree, IsStoredTable}
use Rattle.records_tables.specs.stored_rows.RowFaults.{IsCellFault, IsRowFault}
use Rattle.records_tables.specs.stored_rows.Stored.{Fits, HoldsRows, IsRowOf, StoresRow}
use Rattle.integrity_trees.specs.table_walk.Walked.{IsWalkFault}
use Rattle.integrity_trees.proofs.lemmas.table_walk.CheckedLemmas.{stored_table}
use Rattle.records_tables.proofs.lemmas.stored_rows.OneLemmas.{one_row, unbroken_cell}

-- the cells of a stored table hold its rows
pub holds_rows : (pages : Pages) (table : TableData) (stored : IsStoredTable pages table) → HoldsRows pages table stored.rows
holds_rows pages table stored = record {
  places = places_under pages Table stored.levels table.root;
  cells = stored.stored.cells;
  rows_are = stored.stored.rows_are;
}

-- a cell is the first of these rows, and the others stand at these places
pub record BeginsRows (pages : Pages) (table : TableData) (cell : CellData) (rest : List Row) (others : List Place) : Type 0 where
  pub row : Row
  pub more : List Row
  pub is : IsRowOf pages table cell row
  pub rest_is : rest ≡ row ∷ more
  pub stored : AllZip (StoresRow pages table) others more

pub first_cell : (pages : Pages) (table : TableData) (cell : CellData) (places : List Place) (rest : List Row)
    → AllZip (StoresRow pages table) places rest → IsEntry pages Table places (Some cell) → BeginsRows pages table cell rest (drop 1 places)
first_cell pages table cell [] rest stored entry = absurd cc
first_cell pages table cell (place ∷ places) [] stored entry = absurd stored
first_cell pages table cell (place ∷ places) (row ∷ more) stored entry = record {
  row = row;
  more = more;
  is = subst (λ (c : CellData). IsRowOf pages table c row) (one_cell pages place stored.0.cell cell stored.0.at entry) stored.0.is;
  rest_is = refl;
  stored = stored.1;
}

pub no_cell : (pages : Pages) (table : TableData) (places : List Place) (rest : List Row)
    → AllZip (StoresRow pages table) places rest → IsEntry pages Table places None → rest ≡ []
no_cell pages table [] [] stored entry = refl
no_cell pages table [] (row ∷ rest) stored entry = absurd stored
no_cell pages table (place ∷ places) rest stored entry = absurd entry

-- what the cursor says of the cell that it stands at
abbrev pub IsEntryOf : Cursor → Option CellData → Type 0
IsEntryOf cursor cell = (pages : Pages) (levels : ℕ) (places : List Place) (asked budget : ℕ) → IsAt pages Table levels cursor places asked budget → IsEntry pages Table places cell

pub seen_same : (start now : PagerState) → SameImage start now → pages_seen now ≡ pages_seen start
seen_same start now stays = λ k. pages_in (stays.header k) (stays.bytes k)

-- some of the rows were read, and a cursor stands before the cells of the others
pub record Gathered (pages : Pages) (table : TableData) (rows : List Row) (cursor : Cursor) (asked budget : ℕ) (given : List Row) : Type 0 where
  pub rest : List Row
  pub places : List Place
  pub levels : ℕ
  pub whole : given ++ rest ≡ rows
  pub at : IsAt pages Table levels cursor places asked budget
  pub stored : AllZip (StoresRow pages table) places rest
  pub fit : All (Fits table) rest

-- what the loop keeps
pub record Gathering (start now : PagerState) (table : TableData) (cursor : Cursor) (given : List Row) : Type 0 where
  pub stays : SameImage start now
  pub failures : now.source.failures ≡ start.source.failures
  pub rows : WhereSteady start (λ pages. (stored : IsStoredTable pages table)
      → Gathered pages table stored.rows cursor now.asked (start.asked + size_under pages stored.levels table.root) given)

-- the fault of a row is one of a walk
pub row_fault : (fault : Fault) → IsRowFault fault → IsWalkFault fault
row_fault (BadPage n) is = tt
row_fault (BadOrder n) is = tt
row_fault (BadDepth n) is = tt
row_fault fault is = is

-- and so is that of a cursor
pub cursor_fault : (root : ℕ) (fault : Fault) → IsCursorFault root fault → IsWalkFault fault
cursor_fault root ReadFailed is = tt
cursor_fault root NoMemory is = tt
cursor_fault root (BadPage n) is = tt
cursor_fault root (BadDepth n) is = tt
cursor_fault root fault is = absurd is

-- and that of one that hasn't ended
pub step_fault : (cursor : Cursor) (fault : Fault) → 0 < steps_left cursor → IsStepFault cursor fault → IsWalkFault fault
step_fault cursor Finished left is = let none = ap (λ here. all_left cursor.frames.items here) is in omega (arith, left, none)
step_fault cursor ReadFailed left is = tt
step_fault cursor NoMemory left is = tt
step_fault cursor (BadPage n) left is = tt
step_fault cursor (BadDepth n) left is = tt
step_fault cursor fault left is = absurd is

fit_tail : (table : TableData) (rows more : List Row) (row : Row) → rows ≡ row ∷ more → All (Fits table) rows → All (Fits table) more
fit_tail table rows more row is all = All-tail (Fits table) row more (subst (λ (l : List Row). All (Fits table) l) is all)

fit_head : (table : TableData) (rows more : List Row) (row : Row) → rows ≡ row ∷ more → All (Fits table) rows → Fits table row
fit_head table rows more row is all = All-head (Fits table) row more (subst (λ (l : List Row). All (Fits table) l) is all)

module _ (start now : PagerState) (table : TableData) (cursor : Cursor) (given : List Row) (s : Gathering start now table cursor given) where
  is_steady : IsTrue start.source.steady → IsTrue now.source.steady
  is_steady steady = rw s.stays.steady steady

  module _ (steady : IsTrue start.source.steady) (stored : IsStoredTable (pages_seen start) table) where
    abbrev budget : ℕ
    budget = start.asked + size_under (pages_seen start) stored.levels table.root

    here : Gathered (pages_seen start) table stored.rows cursor now.asked budget given
    here = s.rows steady stored

    pub Gathering-done : IsEntryOf cursor None → given ≡ stored.rows
    Gathering-done entry =
        let none = no_cell (pages_seen start) table here.places here.rest here.stored (entry _ _ _ _ _ here.at) in
        sym (append-nil given) ∙ ap (λ t. given ++ t) (sym none) ∙ here.whole

    -- the cursor has a cell or an end
    pub Gathering-never : ((pages : Pages) (levels : ℕ) (places : List Place) (asked budget : ℕ) → IsAt pages Table levels cursor places asked budget → ⊥) → ⊥
    Gathering-never never = never _ _ _ _ _ here.at

    first_row : (cell : CellData) → IsEntryOf cursor (Some cell) → BeginsRows (pages_seen start) table cell here.rest (drop 1 here.places)
    first_row cell entry = first_cell (pages_seen start) table cell here.places here.rest here.stored (entry _ _ _ _ _ here.at)

    -- a cell of the table has no fault
    pub Gathering-cut : (cell : CellData) (n : ℕ) (e : Fault) → IsEntryOf cursor (Some cell)
        → WhereSteady now (λ pages. IsReadFault e ⊎ IsCellFault pages table n cell e) → IsReadFault e
    Gathering-cut cell n e entry told =
        let first = first_row cell entry in
        let fits = fit_head table here.rest first.more first.row first.rest_is here.fit in
        ⊎_elim (λ read. read)
        (λ broken. absurd (unbroken_cell (pages_seen start) table cell n first.row e first.is fits
        (subst (λ (p : Pages). IsCellFault p table n cell e) (seen_same start now s.stays) broken)))
        (told (is_steady steady))

    -- the cursor stands where it stood, once overflow pages were read
    still_at : (read : PagerState) → AsksChainsOnly now read → IsAt (pages_seen read) Table here.levels cursor here.places read.asked budget
    still_at read chained =
        subst (λ (a : ℕ). IsAt (pages_seen read) Table here.levels cursor here.places a budget) (sym chained.unasked)
        (subst (λ (p : Pages). IsAt p Table here.levels cursor here.places now.asked budget)
        (sym (seen_same start read (SameImage-trans start now read s.stays chained.image))) here.at)

    read_steady : (read : PagerState) → AsksChainsOnly now read → IsTrue read.source.steady
    read_steady read chained = rw chained.image.steady (is_steady steady)

    pub Gathering-stopped : (read : PagerState) (next : Cursor) (e : Fault) → AsksChainsOnly now read → HasFailed read cursor next e → IsReadFault e
    Gathering-stopped read next e chained failed =
        failed.sound (read_steady read chained) Table here.levels here.places _ (still_at read chained)

  pub Gathering-next : (read then : PagerState) (cell : CellData) (row : Row) (next : Cursor) (more : List Row) → IsEntryOf cursor (Some cell)
      → AsksChainsOnly now read → read.source.failures ≡ now.source.failures
      → WhereSteady now (λ pages. IsRowOf pages table cell row)
      → HasStepped read then cursor next → ReadsTreePages {T = Unit {0}} (Ok tt) read then → more ≡ given ++ row ∷ []
      → Gathering start then table next more
  Gathering-next read then cell row next more entry chained kept is_row stepped reads is = record {
    stays = SameImage-trans start read then (SameImage-trans start now read s.stays chained.image) reads.image;
    failures = reads.failures ∙ kept ∙ s.failures;
    rows = λ steady stored.
        let was = here steady stored in
        let first = first_row steady stored cell entry in
        let most = budget steady stored in
        let same : row ≡ first.row = one_row (pages_seen start) table cell row first.row
        (subst (λ (p : Pages). IsRowOf p table cell row) (seen_same start now s.stays) (is_row (is_steady steady))) first.is in
        let stands : IsAt (pages_seen start) Table was.levels next (drop 1 was.places) then.asked most =
        subst (λ (p : Pages). IsAt p Table was.levels next (drop 1 was.places) then.asked most) (seen_same start read (SameImage-trans start now read s.stays chained.image))
        (stepped.lists (read_steady steady stored read chained) Table was.levels was.places most (still_at steady stored read chained)).0 in
        record {
          rest = first.more;
          places = drop 1 was.places;
          levels = was.levels;
          whole = ap (λ l. l ++ first.more) is ∙ append_assoc given (row ∷ []) first.more
              ∙ ap (λ (r : Row). given ++ r ∷ first.more) same ∙ ap (λ t. given ++ t) (sym first.rest_is) ∙ was.whole;
          at = stands;
          stored = first.stored;
          fit = fit_tail table was.rest first.more first.row first.rest_is was.fit;
        };
  }

-- a tree that was checked is stored, whatever was read since
pub still_stored : (was now : PagerState) → SameImage was now → (table : TableData) (counts : TreeCounts)
    → IsCheckedTree (pages_seen was) table counts → IsStoredTable (pages_seen now) table
still_stored was now stays table counts tree =
    subst (λ (p : Pages). IsStoredTable p table) (sym (seen_same was now stays)) (stored_table (pages_seen was) table counts tree)

pub rows_held : (was now : PagerState) (stays : SameImage was now) (table : TableData) (counts : TreeCounts)
    (tree : IsCheckedTree (pages_seen was) table counts) (rows : List Row) → rows ≡ (still_stored was now stays table counts tree).rows
    → HoldsRows (pages_seen was) table rows
rows_held was now stays table counts tree rows are =
    subst (λ (p : Pages). HoldsRows p table rows) (seen_same was now stays)
    (subst (λ (l : List Row). HoldsRows (pages_seen now) table l) (sym are)
    (holds_rows (pages_seen now) table (still_stored was now stays table counts tree)))
