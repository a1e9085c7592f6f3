-- An index held against the rows of its table, a batch at a time: some rows were read, and a cursor stands before the cells of
-- the others.
use Rattle.std.proofs.Common.{◌≡◌, ◌≢◌, ◌⊎◌, ◌∙◌, ◌+◌, ◌-◌, ◌^◌, ◌<ℤ◌, ◌≤ℤ◌, ℕ, ℤ, Bool, Contains, IsTrue, List, [], ◌∷◌, None, Option, Some, drop, length, min, refl, sym, ap, subst, ⊎_elim, arith}
use Rattle.std.specs.List.{AllZip}
use Rattle.std.proofs.lemmas.Int.{ints}
use Rattle.std.proofs.lemmas.List.{length-map}
use Rattle.std.proofs.lemmas.List.Sorted.{Contains-permutation}
use Rattle.values.specs.Row.{Row}
use Rattle.values.specs.declared.fault.Fault.{Fault}
use Rattle.pager.specs.PagerState.{PagerState}
use Rattle.pager.specs.Calls.{IsReadFault, SameImage}
use Rattle.pager.proofs.CallLemmas.{SameImage-trans}
use Rattle.btree.specs.declared.image.kind.TreeKind.{TreeKind}
use Rattle.btree.specs.declared.image.kind.TreeKind.TheVariants as kind
use Rattle.btree.specs.image.Cell.{CellData}
use Rattle.btree.specs.image.Pages.{IsNumber, Pages, WhereSteady, pages_seen}
use Rattle.btree.specs.image.Shape.{IsTreeAt, places_under}
use Rattle.btree.specs.image.Tree.{ArePlacesOf, Place}
use Rattle.btree.proofs.lemmas.image.ListLemmas.{get_contains, in_head, in_none}
use Rattle.btree.proofs.SeenLemmas.{same_pages, still_steady}
use Rattle.expr.specs.Term.{Term}
use Rattle.values.specs.Bounds.{IsAbove, counted}
use Rattle.integrity_trees.specs.wanted_entries.Bags.{Coded, IsOnce}
use Rattle.integrity_trees.specs.wanted_entries.Wanted.{KeyedRow, wanted}
use Rattle.integrity_trees.proofs.lemmas.wanted_entries.OrderLemmas.{once}
use Rattle.integrity_indexes.specs.entry_batches.Batches.{ComeBefore}
use Rattle.integrity_indexes.specs.index_batches.Trees.{AllPlaced, AreTreeValues, HasAstray, TellsAll}
use Rattle.integrity_trees.specs.index_walk.Widths.{exactly}
use Rattle.integrity_trees.proofs.lemmas.entry_prefixes.EntryLemmas.{searchable, stand, values}
use Rattle.btree_cursor.specs.declared.cursor.cursor.Cursor.{Cursor}
use Rattle.btree_cursor.specs.cursor.Calls.{HasFailed, HasStepped, IsOpenedAt}
use Rattle.btree_cursor.specs.cursor.Listing.{IsAt, IsEntry}
use Rattle.btree_cursor.specs.cursor.Search.{IsSearchableIndex}
use Rattle.schema_tables.specs.TableData.{IsKeyWithin, RowKeyData, TableData}
use Rattle.records_tables.specs.stored_rows.Stored.{IsRowOf}
use Rattle.integrity_indexes.specs.declared.index_rows.index.TableIndex.{TableIndex}
use Rattle.integrity_indexes.specs.index_rows.Checked.{IsCheckedTable, IsCheckedTableIndex}
use Rattle.integrity_indexes.specs.index_rows.Compared.{IsDifferentIndex, IsIndexOf}
use Rattle.integrity_indexes.specs.index_rows.Entries.{indexed_by, width_by}
use Rattle.integrity_indexes.specs.index_rows.Kept.{condition_of, keeps_row}
use Rattle.integrity_indexes.specs.index_rows.Rows.{HoldsTableRows}
use Rattle.records_tables.specs.Tables.{kind_of}
use Rattle.integrity_indexes.proofs.lemmas.index_rows.CompareLemmas.{BeginsKeyed, TellsCell, begins_keyed, entries_of_index, holds_of_index, its_rows, its_tree, kept_rows, other_count, places_are, places_of_index}
use Rattle.integrity_indexes.proofs.lemmas.index_rows.LookLemmas.{as_row}
use Rattle.integrity_indexes.proofs.lemmas.index_rows.RowLemmas.{StoresBy}
use Rattle.integrity_indexes.proofs.lemmas.index_rows.StandLemmas.{at_now}
use Rattle.integrity_indexes.specs.declared.row_batches.runs.Run.{Run}
use Rattle.integrity_indexes.specs.row_batches.Runs.{IsAdded, IsRunAstray, IsTurned, TellsTurn}
use Rattle.integrity_indexes.proofs.lemmas.row_batches.GatherLemmas.{Gathers, all_counted, all_same, astray, none_gathered, one_gathered, turned}
use Rattle.integrity_indexes.proofs.lemmas.row_batches.KeptLemmas.{has_rowid, kept_in, rows_rise}

-- the rows that are to come, and a cursor before them
pub record StandsBefore (pages : Pages) (table : TableData) (index : TableIndex) (keyed : List KeyedRow) (entries : List Row) (levels : ℕ) (cursor : Cursor)
    (asked kept : ℕ) (run : Run) : Type 0 where
  pub rest : List KeyedRow
  pub places : List Place
  pub budget : ℕ
  pub at : IsAt pages (kind_of table.key) levels cursor places asked budget
  pub stored_are : AllZip (StoresBy table.key pages table) places rest
  pub gathers : Gathers (indexed_by index) (condition_of index) keyed entries rest run kept

-- what the loop keeps
pub record Batching (start now : PagerState) (table : TableData) (index : TableIndex) (m : ℕ) (cursor : Cursor) (kept : ℕ) (run : Run) : Type 0 where
  pub stays : SameImage start now
  pub failures : now.source.failures ≡ start.source.failures
  pub within : IsKeyWithin table.key (length table.columns)
  pub batches : WhereSteady start (λ pages. (place : Option ℕ) → table.key ≡ RowKeyData.Rowid place → (one : IsCheckedTable pages table)
      → (other : IsCheckedTableIndex pages table index m)
      → StandsBefore pages table index (its_rows pages table within one).rows (entries_of_index pages table index m other) one.counts.levels cursor now.asked kept run)

-- a cursor at the first cell
pub opened : (start now : PagerState) (table : TableData) (index : TableIndex) (m : ℕ) (cursor : Cursor) (run : Run) → SameImage start now
    → now.source.failures ≡ start.source.failures → IsKeyWithin table.key (length table.columns)
    → IsOpenedAt start now kind.Table table.root cursor → run.batch ≡ [] → run.above ≡ None → run.last ≡ None → Batching start now table index m cursor 0 run
opened start now table index m cursor run stays failures within is empty low last = record {
  stays = stays;
  failures = failures;
  within = within;
  batches = λ steady place key one other.
      let rows = its_rows (pages_seen start) table within one in
      let kind_is : kind.Table ≡ kind_of table.key = sym (ap kind_of key) in
      let holds = subst (λ (k : RowKeyData). HoldsTableRows k (pages_seen start) table rows.rows) key rows.holds in
      record {
        rest = rows.rows;
        places = places_under (pages_seen start) (kind_of table.key) one.counts.levels table.root;
        budget = _;
        at = (subst (λ (k : TreeKind). IsOpenedAt start now k table.root cursor) kind_is is).lists steady one.counts.levels (its_tree (pages_seen start) table one);
        stored_are = rows.stored;
        gathers = none_gathered (indexed_by index) (condition_of index) rows.rows _ run empty low last
            (rows_rise (pages_seen start) table rows.rows holds) (has_rowid (pages_seen start) table rows.rows holds);
      };
}

module _ (start now : PagerState) (table : TableData) (index : TableIndex) (m : ℕ) (cursor : Cursor) (kept : ℕ) (run : Run)
    (s : Batching start now table index m cursor kept run) where
  -- the index as it is read since
  module _ (steady : IsTrue start.source.steady) (other : IsCheckedTableIndex (pages_seen start) table index m) where
    abbrev pub its_values : Place → Row
    its_values = values (pages_seen start) (exactly (width_by table.key (indexed_by index))) index.descends.now index.root other.counts other.number other.tree

    searched : IsSearchableIndex (pages_seen now) index.descends.now its_values other.counts.levels index.root
    searched = subst (λ (p : Pages). IsSearchableIndex p index.descends.now its_values other.counts.levels index.root) (sym (same_pages _ _ s.stays))
        (searchable (pages_seen start) (exactly (width_by table.key (indexed_by index))) index.descends.now index.root other.counts other.number other.tree)

    pub tree_now : IsTreeAt (pages_seen now) kind.Index other.counts.levels index.root
    tree_now = searched.tree

    pub values_now : AreTreeValues (pages_seen now) its_values index.root
    values_now = searched.entries

    abbrev pub its_places : List Place
    its_places = places_of_index (pages_seen start) table index m other

    -- the places are the same
    pub told_now : (b : List Coded) (low high : Option ℤ) (told : Bool)
        → TellsAll b low high (length index.places.now) its_values (places_under (pages_seen now) kind.Index other.counts.levels index.root) told
        → TellsAll b low high (length index.places.now) its_values its_places told
    told_now b low high told h = subst (λ (p : Pages). TellsAll b low high (length index.places.now) its_values (places_under p kind.Index other.counts.levels index.root) told)
        (same_pages _ _ s.stays) h

    pub turn_now : (next : Run) (told : Bool)
        → TellsTurn run next (length index.places.now) its_values (places_under (pages_seen now) kind.Index other.counts.levels index.root) told
        → TellsTurn run next (length index.places.now) its_values its_places told
    turn_now next told h = subst (λ (p : Pages). TellsTurn run next (length index.places.now) its_values (places_under p kind.Index other.counts.levels index.root) told)
        (same_pages _ _ s.stays) h

    module _ (place : Option ℕ) (key : table.key ≡ RowKeyData.Rowid place) (one : IsCheckedTable (pages_seen start) table) where
      abbrev condition : Option Term
      condition = condition_of index

      abbrev keyed : List KeyedRow
      keyed = (its_rows (pages_seen start) table s.within one).rows

      abbrev entries : List Row
      entries = entries_of_index (pages_seen start) table index m other

      abbrev here : StandsBefore (pages_seen start) table index keyed entries one.counts.levels cursor now.asked kept run
      here = s.batches steady place key one other

      holds : HoldsTableRows table.key (pages_seen start) table keyed
      holds = (its_rows (pages_seen start) table s.within one).holds

      -- an entry that isn't wanted
      differs : (entry : Row) → Contains entries entry → (¬ Contains (wanted (indexed_by index) (keeps_row condition) keyed) entry)
          → IsDifferentIndex (pages_seen start) table (indexed_by index) condition index.root
      differs entry among none = record {
        rows = keyed;
        entries = entries;
        rows_are = holds;
        entries_are = holds_of_index (pages_seen start) table index m other;
        differ = λ bag. none (Contains-permutation entries (wanted (indexed_by index) (keeps_row condition) keyed) entry bag among);
      }

      pub turn_differs : IsRunAstray run (length index.places.now) its_values its_places → IsDifferentIndex (pages_seen start) table (indexed_by index) condition index.root
      turn_differs out =
          let g = here.gathers in
          let e = astray (indexed_by index) condition keyed entries here.rest run kept g its_values its_places refl (Some out.last) out.has
          (λ k p h is most.
          let low : out.last <ℤ p = subst (λ (o : Option ℤ). IsAbove o p) out.last_is (g.later k p (kept_in (λ (r : KeyedRow). keeps_row condition r.row) here.rest k h) is) in
          let high : p ≤ℤ out.last = most in
          omega (arith, ints)) in
          differs e.0 e.1 e.2

      pub turn_gathers : (next : Run) → (next ≡ run) ⊎ IsTurned run next (length index.places.now) its_values its_places
          → Gathers (indexed_by index) condition keyed entries here.rest next kept
      turn_gathers next told = ⊎_elim
          (λ (same : next ≡ run). subst (λ (r : Run). Gathers (indexed_by index) condition keyed entries here.rest r kept) (sym same) here.gathers)
          (λ (gone : IsTurned run next (length index.places.now) its_values its_places).
          turned (indexed_by index) condition keyed entries here.rest run kept here.gathers its_values its_places refl gone.last gone.last_is gone.placed next gone.batch gone.above gone.same)
          told

-- the cursor stands where it stood, once an index was read
pub turned_on : (start now : PagerState) (table : TableData) (index : TableIndex) (m : ℕ) (cursor : Cursor) (kept : ℕ) (run : Run)
    (s : Batching start now table index m cursor kept run) (read : PagerState) (reads : SameImage now read) → read.source.failures ≡ now.source.failures → (next : Run)
    → ((steady : IsTrue start.source.steady) (other : IsCheckedTableIndex (pages_seen start) table index m)
    → (next ≡ run) ⊎ IsTurned run next (length index.places.now) (its_values start now table index m cursor kept run s steady other)
    (its_places start now table index m cursor kept run s steady other))
    → Batching start read table index m cursor kept next
turned_on start now table index m cursor kept run s read reads failures next told = record {
  stays = SameImage-trans _ _ _ s.stays reads;
  failures = failures ∙ s.failures;
  within = s.within;
  batches = λ steady place key one other.
      let here = s.batches steady place key one other in
      record {
        rest = here.rest;
        places = here.places;
        budget = read.asked + here.budget;
        at = at_now (pages_seen start) (kind_of table.key) one.counts.levels cursor here.places now.asked here.budget read.asked here.at;
        stored_are = here.stored_are;
        gathers = turn_gathers start now table index m cursor kept run s steady other place key one next (told steady other);
      };
}

-- where the cursor has no cell no row is to come
no_rows : (key : RowKeyData) (pages : Pages) (table : TableData) (places : List Place) (rest : List KeyedRow)
    → AllZip (StoresBy key pages table) places rest → IsEntry pages (kind_of key) places None → rest ≡ []
no_rows key pages table [] [] stored_are entry = refl
no_rows key pages table [] (row ∷ rest) stored_are entry = absurd stored_are
no_rows key pages table (place ∷ places) rest stored_are entry = absurd entry

module _ (start now : PagerState) (table : TableData) (index : TableIndex) (m : ℕ) (cursor : Cursor) (kept : ℕ) (run : Run)
    (s : Batching start now table index m cursor kept run) (steady : IsTrue start.source.steady) (place : Option ℕ) (key : table.key ≡ RowKeyData.Rowid place)
    (one : IsCheckedTable (pages_seen start) table) (other : IsCheckedTableIndex (pages_seen start) table index m) where
  abbrev pub rows_here : List KeyedRow
  rows_here = (its_rows (pages_seen start) table s.within one).rows

  abbrev pub entries_here : List Row
  entries_here = entries_of_index (pages_seen start) table index m other

  abbrev stands_here : StandsBefore (pages_seen start) table index rows_here entries_here one.counts.levels cursor now.asked kept run
  stands_here = s.batches steady place key one other

  -- the cursor has a cell or an end
  pub never_ends : ((pages : Pages) (levels : ℕ) (places : List Place) (asked budget : ℕ) → IsAt pages (kind_of table.key) levels cursor places asked budget → ⊥) → ⊥
  never_ends none = none _ _ _ _ _ stands_here.at

  -- ---- the end

  module _ (told : TellsCell table.key cursor None) where
    at_end : Gathers (indexed_by index) (condition_of index) rows_here entries_here [] run kept
    at_end = subst (λ (rest : List KeyedRow). Gathers (indexed_by index) (condition_of index) rows_here entries_here rest run kept)
        (no_rows table.key (pages_seen start) table stands_here.places stands_here.rest stands_here.stored_are (told _ _ _ _ _ stands_here.at)) stands_here.gathers

    pub end_differs : HasAstray run.batch run.above None (length index.places.now) (its_values start now table index m cursor kept run s steady other)
        (its_places start now table index m cursor kept run s steady other)
        → IsDifferentIndex (pages_seen start) table (indexed_by index) (condition_of index) index.root
    end_differs out =
        let e = astray (indexed_by index) (condition_of index) rows_here entries_here [] run kept at_end (its_values start now table index m cursor kept run s steady other)
        (its_places start now table index m cursor kept run s steady other) refl None out (λ k p h is most. absurd (in_none k h)) in
        differs start now table index m cursor kept run s steady other place key one e.0 e.1 e.2

    pub kept_counted : kept ≡ counted (length (kept_rows (condition_of index) rows_here))
    kept_counted = all_counted (indexed_by index) (condition_of index) rows_here entries_here run kept at_end (its_values start now table index m cursor kept run s steady other)
        (its_places start now table index m cursor kept run s steady other) refl

    -- the index's entries differ from one another
    once_here : IsOnce entries_here
    once_here = once index.descends.now entries_here
        (stand (pages_seen start) (exactly (width_by table.key (indexed_by index))) index.descends.now index.root other.counts other.number other.tree)

    pub end_same : AllPlaced run.batch run.above None (length index.places.now) (its_values start now table index m cursor kept run s steady other)
        (its_places start now table index m cursor kept run s steady other)
        → length (kept_rows (condition_of index) rows_here) ≡ length (its_places start now table index m cursor kept run s steady other)
        → IsIndexOf (pages_seen start) table (indexed_by index) (condition_of index) index.root
    end_same all as_many = record {
      rows = rows_here;
      entries = entries_here;
      rows_are = (its_rows (pages_seen start) table s.within one).holds;
      entries_are = holds_of_index (pages_seen start) table index m other;
      same = all_same (indexed_by index) (condition_of index) rows_here entries_here run kept at_end (its_values start now table index m cursor kept run s steady other)
          (its_places start now table index m cursor kept run s steady other) refl once_here all as_many;
    }

    pub end_other : length (kept_rows (condition_of index) rows_here) ≢ length (its_places start now table index m cursor kept run s steady other)
        → IsDifferentIndex (pages_seen start) table (indexed_by index) (condition_of index) index.root
    end_other differ =
        let long = length-map (its_places start now table index m cursor kept run s steady other) (its_values start now table index m cursor kept run s steady other) in
        other_count (pages_seen start) table (indexed_by index) (condition_of index) index.root rows_here entries_here (its_rows (pages_seen start) table s.within one).holds
        (holds_of_index (pages_seen start) table index m other) (λ e. differ (e ∙ long))

  -- what the index's cells are, by pages that were read since
  module _ (read : PagerState) (reads : SameImage now read) where
    pub number_read : IsNumber (pages_seen read) index.root
    number_read = subst (λ (p : Pages). IsNumber p index.root) (sym (same_pages _ _ (SameImage-trans _ _ _ s.stays reads))) other.number

    pub places_read : ArePlacesOf (pages_seen read) kind.Index index.root (its_places start now table index m cursor kept run s steady other)
    places_read = subst (λ (p : Pages). ArePlacesOf p kind.Index index.root (its_places start now table index m cursor kept run s steady other))
        (sym (same_pages _ _ (SameImage-trans _ _ _ s.stays reads))) (places_are (pages_seen start) table index m other)

  -- ---- a row more

  module _ (cell : CellData) (told : TellsCell table.key cursor (Some cell)) where
    abbrev pub first : BeginsKeyed table.key (pages_seen start) table cell stands_here.rest (drop 1 stands_here.places)
    first = begins_keyed table.key (pages_seen start) table cell stands_here.places stands_here.rest stands_here.stored_are (told _ _ _ _ _ stands_here.at)

    first_in : Contains stands_here.rest first.keyed
    first_in = subst (λ (l : List KeyedRow). Contains l first.keyed) (sym first.rest_is) (in_head first.keyed first.more)

    row_of_cell : IsRowOf (pages_seen start) table cell first.keyed.row × (first.keyed.rowid ≡ cell.rowid)
    row_of_cell = as_row table.key place (pages_seen start) table cell first.keyed (sym key) first.is

    pub row_now : IsRowOf (pages_seen now) table cell first.keyed.row
    row_now = subst (λ (p : Pages). IsRowOf p table cell first.keyed.row) (sym (same_pages _ _ s.stays)) row_of_cell.0

    rowid_of_first : (p : ℤ) × (first.keyed.rowid ≡ Some p)
    rowid_of_first = stands_here.gathers.rowids first.keyed (stands_here.gathers.all_in first.keyed first_in)

    pub its_rowid : ℤ
    its_rowid = rowid_of_first.0

    pub rowid_is : cell.rowid ≡ Some its_rowid
    unfolding its_rowid
    rowid_is = sym row_of_cell.1 ∙ rowid_of_first.1

    pub comes_behind : ComeBefore its_rowid run.batch
    unfolding its_rowid
    comes_behind at entry here = stands_here.gathers.over first.keyed rowid_of_first.0 first_in rowid_of_first.1 entry (get_contains run.batch at entry here)

    -- the cursor stands where it stood, once the row was read
    module _ (read : PagerState) (reads : SameImage now read) where
      still_there : IsAt (pages_seen read) (kind_of table.key) one.counts.levels cursor stands_here.places read.asked (read.asked + stands_here.budget)
      still_there = subst (λ (p : Pages). IsAt p (kind_of table.key) one.counts.levels cursor stands_here.places read.asked (read.asked + stands_here.budget))
          (sym (same_pages _ _ (SameImage-trans _ _ _ s.stays reads)))
          (at_now (pages_seen start) (kind_of table.key) one.counts.levels cursor stands_here.places now.asked stands_here.budget read.asked stands_here.at)

      steady_read : IsTrue read.source.steady
      steady_read = still_steady _ _ (SameImage-trans _ _ _ s.stays reads) steady

      pub stopped : (next : Cursor) (e : Fault) → HasFailed read cursor next e → IsReadFault e
      stopped next e failed = failed.sound steady_read (kind_of table.key) one.counts.levels stands_here.places _ still_there

      module _ (then : PagerState) (next : Cursor) (stepped : HasStepped read then cursor next) where
        next_at : IsAt (pages_seen start) (kind_of table.key) one.counts.levels next (drop 1 stands_here.places) then.asked (read.asked + stands_here.budget)
        next_at = subst (λ (p : Pages). IsAt p (kind_of table.key) one.counts.levels next (drop 1 stands_here.places) then.asked (read.asked + stands_here.budget))
            (same_pages _ _ (SameImage-trans _ _ _ s.stays reads))
            (stepped.lists steady_read (kind_of table.key) one.counts.levels stands_here.places (read.asked + stands_here.budget) still_there).0

        pub one_further : (new : Run) (count : ℕ) → IsAdded (condition_of index) index.places.now first.keyed.row its_rowid run new count
            → (now_kept : ℕ) → now_kept ≡ min (kept + count) (2 ^ 64 - 1)
            → StandsBefore (pages_seen start) table index rows_here entries_here one.counts.levels next then.asked now_kept new
        unfolding its_rowid
        one_further new count is now_kept kept_is = record {
          rest = first.more;
          places = drop 1 stands_here.places;
          budget = read.asked + stands_here.budget;
          at = next_at;
          stored_are = first.stored_are;
          gathers = one_gathered (indexed_by index) (condition_of index) rows_here entries_here stands_here.rest run kept stands_here.gathers first.keyed first.more first.rest_is
              rowid_of_first.0 rowid_of_first.1 new count is now_kept kept_is;
        }

-- a row was added, and the cursor has gone on
pub stepped : (start now : PagerState) (table : TableData) (index : TableIndex) (m : ℕ) (cursor : Cursor) (kept : ℕ) (run : Run)
    (s : Batching start now table index m cursor kept run) (cell : CellData) → TellsCell table.key cursor (Some cell)
    → (read : PagerState) → SameImage now read → read.source.failures ≡ now.source.failures
    → (then : PagerState) (next : Cursor) → HasStepped read then cursor next → SameImage read then → then.source.failures ≡ read.source.failures
    → (new : Run) (count now_kept : ℕ)
    → (IsTrue now.source.steady → (row : Row) (rowid : ℤ) → IsRowOf (pages_seen now) table cell row → cell.rowid ≡ Some rowid → ComeBefore rowid run.batch
    → IsAdded (condition_of index) index.places.now row rowid run new count)
    → now_kept ≡ min (kept + count) (2 ^ 64 - 1) → Batching start then table index m next now_kept new
stepped start now table index m cursor kept run s cell told read reads failures then next goes moves more new count now_kept added kept_is = record {
  stays = SameImage-trans _ _ _ (SameImage-trans _ _ _ s.stays reads) moves;
  failures = more ∙ failures ∙ s.failures;
  within = s.within;
  batches = λ steady place key one other.
      one_further start now table index m cursor kept run s steady place key one other cell told read reads then next goes new count
      (added (still_steady _ _ s.stays steady) _ _ (row_now start now table index m cursor kept run s steady place key one other cell told)
      (rowid_is start now table index m cursor kept run s steady place key one other cell told)
      (comes_behind start now table index m cursor kept run s steady place key one other cell told)) now_kept kept_is;
}
