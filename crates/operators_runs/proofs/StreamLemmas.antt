-- Rows that are written one after another.
use Rattle.std.proofs.Common.{◌≡◌, ◌≢◌, ◌∙◌, inl, inr, ◌+◌, ◌-◌, ◌^◌, min, arith, ℕ, suc, IsTrue, All, List, [], ◌∷◌, ◌++◌, drop, length, map, Option, None, Some, Result, Ok, Err, MatchResult, IfErr, refl, sym, ap, append-nil, append_assoc, subst}
use Rattle.std.proofs.lemmas.Grind.{common_steps}
use Rattle.std.specs.List.{AllZip}
use Rattle.std.proofs.lemmas.List.Elements.{All-head, All-tail}
use Rattle.std.specs.Io.KnownBytes.{Appends}
use Rattle.values.specs.Sink.{SinkFacts, Writes}
use Rattle.values.specs.declared.fault.Fault.{Fault}
use Rattle.values.specs.declared.fault.Fault.TheVariants.{WriteFailed}
use Rattle.values.proofs.SinkLemmas.{Appends-none, Appends-then}
use Rattle.pager.specs.PagerState.{IsPageNumber, PagerState}
use Rattle.pager.specs.Calls.{AsksChainsOnly, IsReadFault, ReadsTreePages, SameImage}
use Rattle.pager.proofs.CallLemmas.{SameImage-trans}
use Rattle.btree.specs.image.Cell.{CellData}
use Rattle.btree.specs.image.Pages.{pages_seen, Pages, WhereSteady, pages_in}
use Rattle.btree.specs.declared.image.kind.TreeKind.{TreeKind}
use Rattle.btree.specs.image.Shape.{places_under}
use Rattle.btree.specs.image.Tree.{Place}
use Rattle.btree_cursor.specs.declared.cursor.cursor.Cursor.{Cursor}
use Rattle.btree_cursor.specs.cursor.Calls.{HasFailed, HasStepped, IsOpenedAt}
use Rattle.btree_cursor.specs.cursor.Listing.{IsAt, IsEntry}
use Rattle.btree_cursor.proofs.lemmas.cursor.RestLemmas.{standing_asked}
use Rattle.values.specs.Row.{Row}
use Rattle.schema_tables.specs.TableData.{TableData}
use Rattle.records_tables.specs.Tables.{IsAnyRow, IsAnyStored, StoresAnyRow, kind_of}
use Rattle.records_tables.proofs.TableLemmas.{stored_rows, stored_shape}
use Rattle.explain.specs.Text.{row_text, rows_text}
use Rattle.semantics.specs.OneTable.{shown}
use Rattle.operators_scan.specs.scan.Coming.{AreUnchained, IsUnchained, size_of}
use Rattle.operators_runs.specs.Stream.{AsksFew, Streams, StreamsUntil}
use Rattle.btree.proofs.KindLemmas.{one_entry}

-- at a fault of reading nothing is written of the rows
pub not_write : (e : Fault) → IsReadFault e → e ≢ WriteFailed
not_write e (inl is) same = cc
not_write e (inr is) same = cc

pub nothing_given : (e : Fault) (columns : List ℕ) (rows : List Row) (old : SinkFacts) → IsReadFault e → StreamsUntil e columns rows old old
nothing_given e columns rows old read = record {
  given = [];
  rest = rows;
  whole = refl;
  prints = record { cut = λ is. absurd (not_write e read is); whole = λ _. Appends-none old.written };
  outside = inl read;
}

-- one row is written
pub row_written : (columns : List ℕ) (row : Row) (result : Result (Unit {0}) Fault) (old new : SinkFacts)
    → Writes (row_text (shown columns row)) result old new → IfErr result (λ e. e ≡ WriteFailed)
    → MatchResult result (λ _. Appends old.written new.written (row_text (shown columns row)))
    (λ e. StreamsUntil e columns (row ∷ []) old new)
row_written columns row (Ok done) old new writes only = writes.written
row_written columns row (Err e) old new writes only = record {
  given = row ∷ [];
  rest = [];
  whole = refl;
  prints = record {
    cut = λ _. record {
      done = writes.written.done;
      rest = writes.written.rest;
      whole = writes.written.whole ∙ sym (append-nil (row_text (shown columns row)));
      written = writes.written.written;
    };
    whole = λ other. absurd (other only);
  };
  outside = inr only;
}

-- the text of the columns of rows
abbrev pub shown_text : List ℕ → List Row → List ℕ
shown_text columns rows = rows_text (map (shown columns) rows)

shown_text-append : (columns : List ℕ) (xs ys : List Row)
    → shown_text columns (xs ++ ys) ≡ shown_text columns xs ++ shown_text columns ys
shown_text-append columns [] ys = refl
shown_text-append columns (x ∷ xs) ys =
    ap (λ t. row_text (shown columns x) ++ t) (shown_text-append columns xs ys)
    ∙ sym (append_assoc (row_text (shown columns x)) (shown_text columns xs) (shown_text columns ys))

pub shown_text-push : (columns : List ℕ) (given : List Row) (row : Row)
    → shown_text columns (given ++ (row ∷ [])) ≡ shown_text columns given ++ row_text (shown columns row)
shown_text-push columns given row =
    shown_text-append columns given (row ∷ [])
    ∙ ap (λ t. shown_text columns given ++ t) (append-nil (row_text (shown columns row)))

pub length-shown : (columns : List ℕ) (rows : List Row) → length (map (shown columns) rows) ≡ length rows
length-shown columns [] = refl
length-shown columns (row ∷ rows) = ap suc (length-shown columns rows)

-- a fault among the later rows, after the first were written whole
pub until_behind : (e : Fault) (columns : List ℕ) (given some more : List Row) (old mid new : SinkFacts)
    → Appends old.written mid.written (shown_text columns given) → StreamsUntil e columns some mid new
    → StreamsUntil e columns (given ++ (some ++ more)) old new
until_behind e columns given some more old mid new before until = record {
  given = given ++ until.given;
  rest = until.rest ++ more;
  whole = append_assoc given until.given (until.rest ++ more)
      ∙ ap (λ t. given ++ t) (sym (append_assoc until.given until.rest more) ∙ ap (λ t. t ++ more) until.whole);
  prints = record {
    cut = λ is.
        let front = until.prints.cut is in
        record {
          done = shown_text columns given ++ front.done;
          rest = front.rest;
          whole = append_assoc (shown_text columns given) front.done front.rest
              ∙ ap (λ t. shown_text columns given ++ t) front.whole
              ∙ sym (shown_text-append columns given until.given);
          written = Appends-then _ _ _ (shown_text columns given) front.done before front.written;
        };
    whole = λ other.
        rw (shown_text-append columns given until.given)
        (Appends-then _ _ _ (shown_text columns given) (shown_text columns until.given) before (until.prints.whole other));
  };
  outside = until.outside;
}

-- Some of the rows of these cells are written and counted, and a cursor stands before the cells of the others.
pub record Given (pages : Pages) (table : TableData) (columns : List ℕ) (rows : List Row) (all : List Place) (cursor : Cursor) (asked budget n : ℕ) (old new : SinkFacts) : Type 0 where
  pub given : List Row
  pub rest : List Row
  pub places : List Place
  pub whole : given ++ rest ≡ rows
  pub local : All (IsUnchained pages (kind_of table.key)) all → All (IsUnchained pages (kind_of table.key)) places
  pub levels : ℕ
  pub at : IsAt pages (kind_of table.key) levels cursor places asked budget
  pub stored : AllZip (StoresAnyRow pages table) places rest
  pub written : Appends old.written new.written (shown_text columns given)
  pub counted : n ≡ min (length given) (2 ^ 64 - 1)

-- a cell is the first of these rows, and the others stand at these places
record BeginsRows (pages : Pages) (table : TableData) (cell : CellData) (rest : List Row) (others : List Place) : Type 0 where
  row : Row
  more : List Row
  is : IsAnyRow pages table cell row
  rest_is : rest ≡ row ∷ more
  stored : AllZip (StoresAnyRow pages table) others more

first_cell : (pages : Pages) (table : TableData) (cell : CellData) (places : List Place) (rest : List Row)
    → AllZip (StoresAnyRow pages table) places rest → IsEntry pages (kind_of table.key) places (Some cell) → BeginsRows pages table cell rest (drop 1 places)
first_cell pages table cell [] rest stored entry = absurd cc
first_cell pages table cell (place ∷ places) [] stored entry = absurd stored
first_cell pages table cell (place ∷ places) (row ∷ more) stored entry = record {
  row = row;
  more = more;
  is = subst (λ (c : CellData). IsAnyRow pages table c row) (one_entry pages (kind_of table.key) place stored.0.cell cell stored.0.at entry) stored.0.is;
  rest_is = refl;
  stored = stored.1;
}

no_cell : (pages : Pages) (table : TableData) (places : List Place) (rest : List Row)
    → AllZip (StoresAnyRow pages table) places rest → IsEntry pages (kind_of table.key) places None → rest ≡ []
no_cell pages table [] [] stored entry = refl
no_cell pages table [] (row ∷ rest) stored entry = absurd stored
no_cell pages table (place ∷ places) rest stored entry = absurd entry

first_local : (pages : Pages) (kind : TreeKind) (cell : CellData) (places : List Place) → IsEntry pages kind places (Some cell) → All (IsUnchained pages kind) places
    → cell.payload.overflow ≡ None
first_local pages kind cell [] entry all = absurd cc
first_local pages kind cell (place ∷ places) entry all = All-head (IsUnchained pages kind) place places all cell entry

all_drop : (P : Place → Type 0) (places : List Place) → All P places → All P (drop 1 places)
all_drop P [] all = all
all_drop P (place ∷ places) all = All-tail P place places all

module _ (pages : Pages) (table : TableData) (columns : List ℕ) (rows : List Row) (all : List Place) (cursor : Cursor) (asked budget n : ℕ) (old mid : SinkFacts)
    (g : Given pages table columns rows all cursor asked budget n old mid) where
  -- a fault after the rows that are given
  until_given : (e : Fault) (rest : List Row) (new : SinkFacts) (first : List Row) → g.rest ≡ first ++ rest
      → StreamsUntil e columns first mid new → StreamsUntil e columns rows old new
  until_given e rest new first is until =
      subst (λ (all : List Row). StreamsUntil e columns all old new) (ap (λ t. g.given ++ t) (sym is) ∙ g.whole)
      (until_behind e columns g.given first rest old mid new g.written until)

  Given-all : g.rest ≡ [] → Streams columns rows n old mid
  Given-all none =
      let whole : g.given ≡ rows = sym (append-nil g.given) ∙ ap (λ t. g.given ++ t) (sym none) ∙ g.whole in
      record {
        written = rw (← whole) g.written;
        counted_is = g.counted ∙ ap (λ k. min k (2 ^ 64 - 1)) (ap length whole ∙ sym (length-shown columns rows));
      }

  module _ (cell : CellData) (first : BeginsRows pages table cell g.rest (drop 1 g.places)) where
    Given-next : (next : Cursor) (asked' n' : ℕ) (new : SinkFacts) → IsAt pages (kind_of table.key) g.levels next (drop 1 g.places) asked' budget
        → Appends mid.written new.written (row_text (shown columns first.row)) → n' ≡ min (n + 1) (2 ^ 64 - 1)
        → Given pages table columns rows all next asked' budget n' old new
    Given-next next asked' n' new at written is = record {
      given = g.given ++ (first.row ∷ []);
      rest = first.more;
      places = drop 1 g.places;
      levels = g.levels;
      whole = append_assoc g.given (first.row ∷ []) first.more ∙ ap (λ t. g.given ++ t) (sym first.rest_is) ∙ g.whole;
      local = λ every. all_drop (IsUnchained pages (kind_of table.key)) g.places (g.local every);
      at = at;
      stored = first.stored;
      written = rw (shown_text-push columns g.given first.row) (Appends-then _ _ _ _ _ g.written written);
      counted = let long = g.counted in grind (arith, common_steps);
    }

    -- a fault behind this row
    until_next : (e : Fault) (new : SinkFacts) → Appends mid.written new.written (row_text (shown columns first.row))
        → IsReadFault e → StreamsUntil e columns rows old new
    until_next e new written read =
        until_given e first.more new (first.row ∷ []) first.rest_is (record {
          given = first.row ∷ [];
          rest = [];
          whole = refl;
          prints = record {
            cut = λ is. absurd (not_write e read is);
            whole = λ _. rw (append-nil (row_text (shown columns first.row))) written;
          };
          outside = inl read;
        })

-- what the loop keeps
pub record Streaming (start now : PagerState) (table : TableData) (columns : List ℕ) (cursor : Cursor) (n : ℕ) (old new : SinkFacts) : Type 0 where
  pub stays : SameImage start now
  pub reads : now.source.failures ≡ start.source.failures
  pub writes : new.failures ≡ old.failures
  pub rows : WhereSteady start (λ pages. (stored : IsAnyStored pages table)
      → Given pages table columns stored.rows (places_under pages (kind_of table.key) stored.levels table.root) cursor now.asked (start.asked + size_of pages table stored.levels) n old new)
  pub unchained : WhereSteady start (λ pages. (stored : IsAnyStored pages table) → AreUnchained pages table stored.levels → now.chained ≡ start.chained)

seen_same : (start now : PagerState) → SameImage start now → pages_seen now ≡ pages_seen start
seen_same start now stays = λ k. pages_in (stays.header k) (stays.bytes k)

pub Streaming-start : (start now : PagerState) (table : TableData) (columns : List ℕ) (cursor : Cursor) (n : ℕ) (old : SinkFacts)
    → ReadsTreePages {T = Cursor} (Ok cursor) start now → IsPageNumber start table.root → IsOpenedAt start now (kind_of table.key) table.root cursor
    → n ≡ 0 → Streaming start now table columns cursor n old old
Streaming-start start now table columns cursor n old reads root opened is = record {
  stays = reads.image;
  reads = reads.failures;
  writes = refl;
  rows = λ steady stored. record {
    given = [];
    rest = stored.rows;
    places = places_under (pages_seen start) (kind_of table.key) stored.levels table.root;
    whole = refl;
    local = λ every. every;
    levels = stored.levels;
    at = opened.lists steady stored.levels (record { few = stored.few; number = root; shape = stored_shape (pages_seen start) table stored });
    stored = stored_rows (pages_seen start) table stored;
    written = Appends-none old.written;
    counted = omega arith;
  };
  unchained = λ steady stored local. reads.unchained;
}

-- what the cursor says of the cell that it stands at
abbrev pub IsEntryOf : Cursor → Option CellData → Type 0
IsEntryOf cursor cell = (pages : Pages) (kind : TreeKind) (levels : ℕ) (places : List Place) (asked budget : ℕ) → IsAt pages kind levels cursor places asked budget
    → IsEntry pages kind places cell

-- what is said of the cell that the cursor stands at, as these pages have it
abbrev pub Says : PagerState → TableData → CellData → (Row → Type 0) → Type 0
Says now table cell Then = IsTrue now.source.steady → (row : Row) → IsAnyRow (pages_seen now) table cell row → Then row

module _ (start now : PagerState) (table : TableData) (columns : List ℕ) (cursor : Cursor) (n : ℕ) (old mid : SinkFacts)
    (s : Streaming start now table columns cursor n old mid) where
  is_steady : IsTrue start.source.steady → IsTrue now.source.steady
  is_steady steady = rw s.stays.steady steady

  module _ (steady : IsTrue start.source.steady) (stored : IsAnyStored (pages_seen start) table) where
    abbrev budget : ℕ
    budget = start.asked + size_of (pages_seen start) table stored.levels

    now_given : Given (pages_seen start) table columns stored.rows (places_under (pages_seen start) (kind_of table.key) stored.levels table.root) cursor now.asked budget n old mid
    now_given = s.rows steady stored

    pub Streaming-done : IsEntryOf cursor None → Streams columns stored.rows n old mid
    Streaming-done entry =
        Given-all _ _ _ _ _ _ _ _ _ _ _ now_given
        (no_cell (pages_seen start) table now_given.places now_given.rest now_given.stored (entry _ _ _ _ _ _ now_given.at))

    -- the cursor has a cell or an end
    pub Streaming-never : ((pages : Pages) (kind : TreeKind) (levels : ℕ) (places : List Place) (asked budget : ℕ) → IsAt pages kind levels cursor places asked budget → ⊥) → ⊥
    Streaming-never never = never _ _ _ _ _ _ now_given.at

    pub asked_few : AsksFew (pages_seen start) table stored.levels start now
    asked_few = record {
      asked = standing_asked _ _ _ _ _ _ _ _ now_given.at.stands;
      unchained = s.unchained steady stored;
    }

    now_first : (cell : CellData) → IsEntryOf cursor (Some cell)
        → BeginsRows (pages_seen start) table cell now_given.rest (drop 1 now_given.places)
    now_first cell entry = first_cell (pages_seen start) table cell now_given.places now_given.rest now_given.stored (entry _ _ _ _ _ _ now_given.at)

    -- what was said of the cell
    said : (cell : CellData) (Then : Row → Type 0) → Says now table cell Then → (entry : IsEntryOf cursor (Some cell)) → Then (now_first cell entry).row
    said cell Then says entry =
        says (is_steady steady) (now_first cell entry).row
        (subst (λ (p : Pages). IsAnyRow p table cell (now_first cell entry).row) (sym (seen_same start now s.stays)) (now_first cell entry).is)

    pub Streaming-cut : (cell : CellData) (e : Fault) (new : SinkFacts) → IsEntryOf cursor (Some cell)
        → Says now table cell (λ row. StreamsUntil e columns (row ∷ []) mid new)
        → StreamsUntil e columns stored.rows old new
    Streaming-cut cell e new entry written =
        let first = now_first cell entry in
        until_given _ _ _ _ _ _ _ _ _ _ _ now_given e first.more new (first.row ∷ []) first.rest_is
        (said cell (λ row. StreamsUntil e columns (row ∷ []) mid new) written entry)

    -- the cursor stands where it stood, once overflow pages were read
    still_at : (wrote : PagerState) → AsksChainsOnly now wrote
        → IsAt (pages_seen wrote) (kind_of table.key) now_given.levels cursor now_given.places wrote.asked budget
    still_at wrote chained =
        subst (λ (a : ℕ). IsAt (pages_seen wrote) (kind_of table.key) now_given.levels cursor now_given.places a budget) (sym chained.unasked)
        (subst (λ (p : Pages). IsAt p (kind_of table.key) now_given.levels cursor now_given.places now.asked budget)
        (sym (seen_same start wrote (SameImage-trans start now wrote s.stays chained.image))) now_given.at)

    wrote_steady : (wrote : PagerState) → AsksChainsOnly now wrote → IsTrue wrote.source.steady
    wrote_steady wrote chained = rw chained.image.steady (is_steady steady)

    pub Streaming-stopped : (wrote : PagerState) (next : Cursor) (cell : CellData) (e : Fault) (new : SinkFacts) → IsEntryOf cursor (Some cell)
        → AsksChainsOnly now wrote → Says now table cell (λ row. Appends mid.written new.written (row_text (shown columns row)))
        → HasFailed wrote cursor next e → StreamsUntil e columns stored.rows old new
    Streaming-stopped wrote next cell e new entry chained written failed =
        let first = now_first cell entry in
        until_next _ _ _ _ _ _ _ _ _ _ _ now_given cell first e new
        (said cell (λ row. Appends mid.written new.written (row_text (shown columns row))) written entry)
        (failed.sound (wrote_steady wrote chained) (kind_of table.key) now_given.levels now_given.places _ (still_at wrote chained))

    now_local : (cell : CellData) → IsEntryOf cursor (Some cell) → AreUnchained (pages_seen start) table stored.levels → cell.payload.overflow ≡ None
    now_local cell entry every =
        first_local (pages_seen start) (kind_of table.key) cell now_given.places (entry _ _ _ _ _ _ now_given.at) (now_given.local every)

  pub Streaming-next : (wrote then : PagerState) (cell : CellData) (next : Cursor) (n' : ℕ) (new : SinkFacts) → IsEntryOf cursor (Some cell)
      → AsksChainsOnly now wrote → wrote.source.failures ≡ now.source.failures → (cell.payload.overflow ≡ None → wrote ≡ now)
      → Says now table cell (λ row. Appends mid.written new.written (row_text (shown columns row)))
      → HasStepped wrote then cursor next → ReadsTreePages {T = Unit {0}} (Ok tt) wrote then → new.failures ≡ mid.failures
      → n' ≡ min (n + 1) (2 ^ 64 - 1)
      → Streaming start then table columns next n' old new
  Streaming-next wrote then cell next n' new entry chained kept unread written stepped reads writes is = record {
    stays = SameImage-trans start wrote then (SameImage-trans start now wrote s.stays chained.image) reads.image;
    reads = reads.failures ∙ kept ∙ s.reads;
    writes = writes ∙ s.writes;
    rows = λ steady stored.
        let first = now_first steady stored cell entry in
        let here = now_given steady stored in
        let most = budget steady stored in
        let stands : IsAt (pages_seen start) (kind_of table.key) here.levels next (drop 1 here.places) then.asked most =
        subst (λ (p : Pages). IsAt p (kind_of table.key) here.levels next (drop 1 here.places) then.asked most) (seen_same start wrote (SameImage-trans start now wrote s.stays chained.image))
        (stepped.lists (wrote_steady steady stored wrote chained) (kind_of table.key) here.levels here.places most (still_at steady stored wrote chained)).0 in
        Given-next _ _ _ _ _ _ _ _ _ _ _ here cell first next then.asked n' new stands
        (said steady stored cell (λ row. Appends mid.written new.written (row_text (shown columns row))) written entry) is;
    unchained = λ steady stored every.
        reads.unchained ∙ ap (λ (p : PagerState). p.chained) (unread (now_local steady stored cell entry every))
        ∙ s.unchained steady stored every;
  }
