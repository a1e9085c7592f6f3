-- An index held against the rows of its table: some rows were looked up, and a cursor stands before the cells of the others.
use Rattle.std.proofs.Common.{◌≡◌, ◌≢◌, ◌⊎◌, ◌+◌, ◌-◌, ◌^◌, ◌≤◌, ℕ, Bool, true, false, IsTrue, Contains, List, [], ◌∷◌, None, Option, Some, drop, length, map, min, refl, sym, ◌∙◌, ap, subst, inl, inr, ⊎_elim, arith}
use Rattle.std.specs.List.{AllZip, filter}
use Rattle.std.proofs.lemmas.List.{length-map}
use Rattle.std.proofs.lemmas.List.Sorted.{Contains-permutation, IsPermutation-sym, IsPermutation-trans, length_permutation}
use Rattle.values.specs.Row.{Row}
use Rattle.values.specs.declared.fault.Fault.{Fault}
use Rattle.pager.specs.PagerState.{PagerState}
use Rattle.pager.specs.Calls.{IsReadFault, SameImage}
use Rattle.pager.proofs.CallLemmas.{SameImage-trans}
use Rattle.btree.specs.declared.image.kind.TreeKind.TheVariants as kind
use Rattle.btree.specs.image.Cell.{CellData}
use Rattle.btree.specs.image.Pages.{IsNumber, Pages, WhereSteady, pages_seen}
use Rattle.btree.specs.image.Shape.{IsTreeAt, places_under}
use Rattle.btree.specs.image.Tree.{ArePlacesOf, Place}
use Rattle.btree.proofs.lemmas.image.ListLemmas.{cons_cases, get_contains, in_head, in_none, in_tail}
use Rattle.btree.proofs.SeenLemmas.{same_pages, still_steady}
use Rattle.expr.specs.Term.{Term}
use Rattle.integrity_trees.proofs.lemmas.wanted_entries.BagLemmas.{same}
use Rattle.integrity_trees.proofs.lemmas.wanted_entries.KeptLemmas.{in_map, kept_first, left_first}
use Rattle.values.specs.Bounds.{counted}
use Rattle.integrity_trees.specs.wanted_entries.Wanted.{IndexedPlaces, KeyedRow, entry_of, wanted}
use Rattle.btree.proofs.KindLemmas.{one_entry}
use Rattle.btree_cursor.specs.declared.cursor.cursor.Cursor.{Cursor}
use Rattle.btree_cursor.specs.cursor.Calls.{HasFailed, HasStepped, IsOpenedAt}
use Rattle.btree_cursor.specs.cursor.Listing.{IsAt, IsEntry}
use Rattle.btree_cursor.specs.cursor.Search.{IsSearchableIndex}
use Rattle.schema_tables.specs.TableData.{IsKeyWithin, RowKeyData, TableData}
use Rattle.integrity_indexes.specs.declared.index_rows.index.TableIndex.{TableIndex}
use Rattle.integrity_indexes.specs.index_rows.Checked.{IsCheckedTable, IsCheckedTableIndex}
use Rattle.integrity_indexes.specs.index_rows.Compared.{IsDifferentIndex, IsIndexOf}
use Rattle.integrity_trees.specs.entry_prefixes.Entries.{HoldsEntries}
use Rattle.integrity_trees.specs.index_walk.Widths.{exactly}
use Rattle.integrity_trees.proofs.lemmas.entry_prefixes.EntryLemmas.{holds_entries, in_order, same_entries, searchable, values}
use Rattle.integrity_trees.proofs.lemmas.entry_prefixes.ListLemmas.{get_of, mapped_at}
use Rattle.integrity_indexes.specs.index_rows.Entries.{TellsRow, indexed_by, width_by}
use Rattle.integrity_indexes.specs.index_rows.Kept.{condition_of, keeps_row}
use Rattle.records_tables.specs.Tables.{kind_of}
use Rattle.integrity_indexes.specs.index_rows.Rows.{HoldsTableRows, IsKeyedRow}
use Rattle.integrity_indexes.proofs.lemmas.index_rows.RowLemmas.{StoresBy, TableRows, once_wanted, one_wanted, table_rows, tree_at}
use Rattle.integrity_indexes.proofs.lemmas.index_rows.StandLemmas.{at_now}

-- ---- the definitions alone

-- the rows that a condition keeps
abbrev pub kept_rows : Option Term → List KeyedRow → List KeyedRow
kept_rows condition keyed = filter (λ k. keeps_row condition k.row) keyed

module _ (pages : Pages) (table : TableData) (index : IndexedPlaces) (condition : Option Term) (root : ℕ) where
  -- wanted entries that are as many as the index has, and each of which it has, are its entries
  pub is_index : TellsRow table.key index → (keyed : List KeyedRow) (entries : List Row) → HoldsTableRows table.key pages table keyed
      → HoldsEntries pages root entries → length entries ≤ length (kept_rows condition keyed)
      → ((k : KeyedRow) → Contains (kept_rows condition keyed) k → Contains entries (entry_of index k))
      → IsIndexOf pages table index condition root
  is_index tells keyed entries keyed_are entries_are few found =
      let long = length-map (kept_rows condition keyed) (entry_of index) in
      let bag = same (map (entry_of index) (kept_rows condition keyed)) entries
      (once_wanted table.key pages table index tells keyed keyed_are (keeps_row condition)) (λ entry h. each_found entry h) (omega (arith, long, few)) in
      record {
        rows = keyed;
        entries = entries;
        rows_are = keyed_are;
        entries_are = entries_are;
        same = IsPermutation-sym (map (entry_of index) (kept_rows condition keyed)) entries bag;
      }
    where
      each_found : (entry : Row) → Contains (map (entry_of index) (kept_rows condition keyed)) entry → Contains entries entry
      each_found entry h =
          let x = mapped_at (entry_of index) (kept_rows condition keyed) h.0 entry
          (get_of (map (entry_of index) (kept_rows condition keyed)) entry h) in
          subst (λ (e : Row). Contains entries e) x.is (found x.x (get_contains (kept_rows condition keyed) h.0 x.x x.at))

  -- an index that lacks a wanted entry, or has another number of them, differs
  pub lacks : (keyed : List KeyedRow) (entries : List Row) → HoldsTableRows table.key pages table keyed → HoldsEntries pages root entries
      → (k : KeyedRow) → Contains (kept_rows condition keyed) k → ¬ Contains entries (entry_of index k)
      → IsDifferentIndex pages table index condition root
  lacks keyed entries keyed_are entries_are k among none = record {
    rows = keyed;
    entries = entries;
    rows_are = keyed_are;
    entries_are = entries_are;
    differ = λ bag. none (Contains-permutation (wanted index (keeps_row condition) keyed) entries (entry_of index k)
        (IsPermutation-sym entries (wanted index (keeps_row condition) keyed) bag)
        (in_map (entry_of index) (kept_rows condition keyed) k among));
  }

  pub other_count : (keyed : List KeyedRow) (entries : List Row) → HoldsTableRows table.key pages table keyed → HoldsEntries pages root entries
      → length (kept_rows condition keyed) ≢ length entries → IsDifferentIndex pages table index condition root
  other_count keyed entries keyed_are entries_are differ = record {
    rows = keyed;
    entries = entries;
    rows_are = keyed_are;
    entries_are = entries_are;
    differ = λ bag.
        let long = length_permutation entries (wanted index (keeps_row condition) keyed) bag in
        differ (sym (length-map (kept_rows condition keyed) (entry_of index)) ∙ long);
  }

  -- an index isn't both
  pub not_different : IsIndexOf pages table index condition root → ¬ IsDifferentIndex pages table index condition root
  not_different is different =
      different.differ
      (IsPermutation-trans different.entries is.entries (wanted index (keeps_row condition) different.rows)
      (same_entries pages root different.entries is.entries different.entries_are is.entries_are)
      (IsPermutation-trans is.entries (wanted index (keeps_row condition) is.rows) (wanted index (keeps_row condition) different.rows) is.same
      (one_wanted table.key pages table index (keeps_row condition) is.rows different.rows is.rows_are different.rows_are)))

-- ---- the loop over the rows

-- a cell is the first of these rows, and the others stand at these places
pub record BeginsKeyed (key : RowKeyData) (pages : Pages) (table : TableData) (cell : CellData) (rest : List KeyedRow) (others : List Place) : Type 0 where
  pub keyed : KeyedRow
  pub more : List KeyedRow
  pub is : IsKeyedRow key pages table cell keyed
  pub rest_is : rest ≡ keyed ∷ more
  pub stored_are : AllZip (StoresBy key pages table) others more

pub begins_keyed : (key : RowKeyData) (pages : Pages) (table : TableData) (cell : CellData) (places : List Place) (rest : List KeyedRow)
    → AllZip (StoresBy key pages table) places rest → IsEntry pages (kind_of key) places (Some cell) → BeginsKeyed key pages table cell rest (drop 1 places)
begins_keyed key pages table cell [] rest stored_are entry = absurd cc
begins_keyed key pages table cell (place ∷ places) [] stored_are entry = absurd stored_are
begins_keyed key pages table cell (place ∷ places) (keyed ∷ more) stored_are entry =
    let same = one_entry pages (kind_of key) place stored_are.0.cell cell stored_are.0.at entry in
    record {
      keyed = keyed;
      more = more;
      is = subst (λ (c : CellData). IsKeyedRow key pages table c keyed) same stored_are.0.is;
      rest_is = refl;
      stored_are = stored_are.1;
    }

no_keyed : (key : RowKeyData) (pages : Pages) (table : TableData) (places : List Place) (rest : List KeyedRow)
    → AllZip (StoresBy key pages table) places rest → IsEntry pages (kind_of key) places None → rest ≡ []
no_keyed key pages table [] [] stored_are entry = refl
no_keyed key pages table [] (keyed ∷ rest) stored_are entry = absurd stored_are
no_keyed key pages table (place ∷ places) rest stored_are entry = absurd entry

-- what the cursor says of the cell that it stands at
abbrev pub TellsCell : RowKeyData → Cursor → Option CellData → Type 0
TellsCell key cursor cell = (pages : Pages) (levels : ℕ) (places : List Place) (asked budget : ℕ) → IsAt pages (kind_of key) levels cursor places asked budget
    → IsEntry pages (kind_of key) places cell

-- Each row that the condition keeps is still to come, or the index has the entry that it wants; and so many of them were
-- counted.
pub record StandsBefore (pages : Pages) (table : TableData) (index : IndexedPlaces) (condition : Option Term) (keyed : List KeyedRow) (entries : List Row)
    (levels : ℕ) (cursor : Cursor) (asked kept : ℕ) : Type 0 where
  pub rest : List KeyedRow
  pub places : List Place
  pub budget : ℕ
  pub passed : ℕ
  pub at : IsAt pages (kind_of table.key) levels cursor places asked budget
  pub stored_are : AllZip (StoresBy table.key pages table) places rest
  pub among : (k : KeyedRow) → Contains (kept_rows condition rest) k → Contains (kept_rows condition keyed) k
  pub found : (k : KeyedRow) → Contains (kept_rows condition keyed) k
      → Contains (kept_rows condition rest) k ⊎ Contains entries (entry_of index k)
  pub many : passed + length (kept_rows condition rest) ≡ length (kept_rows condition keyed)
  pub kept_are : kept ≡ counted passed

-- the entries of an index that was checked
module _ (pages : Pages) (table : TableData) (index : TableIndex) (count : ℕ) (checked : IsCheckedTableIndex pages table index count) where
  abbrev pub width : ℕ
  width = width_by table.key (indexed_by index)

  abbrev pub places_of_index : List Place
  places_of_index = places_under pages kind.Index checked.counts.levels index.root

  abbrev pub entries_of_index : List Row
  entries_of_index = map (values pages (exactly width) index.descends.now index.root checked.counts checked.number checked.tree) places_of_index

  pub holds_of_index : HoldsEntries pages index.root entries_of_index
  holds_of_index = holds_entries pages (exactly width) index.descends.now index.root checked.counts checked.number checked.tree

  pub places_are : ArePlacesOf pages kind.Index index.root places_of_index
  places_are = (in_order pages (exactly width) index.descends.now index.root checked.counts checked.number checked.tree).cells

  pub counted_are : count ≡ counted (length places_of_index)
  counted_are = checked.entries_are ∙ checked.tree.counts_are.cells_is

-- the rows of a table that was checked
abbrev pub its_rows : (pages : Pages) (table : TableData) → IsKeyWithin table.key (length table.columns) → (one : IsCheckedTable pages table)
    → TableRows table.key pages table one.counts.levels
its_rows pages table within one = table_rows table.key pages table one.counts within one.tree

abbrev pub its_tree : (pages : Pages) (table : TableData) (one : IsCheckedTable pages table) → IsTreeAt pages (kind_of table.key) one.counts.levels table.root
its_tree pages table one = tree_at table.key pages table one.counts one.number one.tree

-- what the loop keeps
pub record Comparing (start now : PagerState) (table : TableData) (index : TableIndex) (m : ℕ) (cursor : Cursor) (kept : ℕ) : Type 0 where
  pub stays : SameImage start now
  pub failures : now.source.failures ≡ start.source.failures
  pub within : IsKeyWithin table.key (length table.columns)
  pub compares : WhereSteady start (λ pages. (one : IsCheckedTable pages table) (other : IsCheckedTableIndex pages table index m)
      → StandsBefore pages table (indexed_by index) (condition_of index) (its_rows pages table within one).rows (entries_of_index pages table index m other)
      one.counts.levels cursor now.asked kept)

-- a cursor at the first cell
pub opened : (start now : PagerState) (table : TableData) (index : TableIndex) (m : ℕ) (cursor : Cursor) → SameImage start now
    → now.source.failures ≡ start.source.failures → IsKeyWithin table.key (length table.columns)
    → IsOpenedAt start now (kind_of table.key) table.root cursor → Comparing start now table index m cursor 0
opened start now table index m cursor stays failures within is = record {
  stays = stays;
  failures = failures;
  within = within;
  compares = λ steady one other. record {
    rest = (its_rows (pages_seen start) table within one).rows;
    places = places_under (pages_seen start) (kind_of table.key) one.counts.levels table.root;
    budget = _;
    passed = 0;
    at = is.lists steady one.counts.levels (its_tree (pages_seen start) table one);
    stored_are = (its_rows (pages_seen start) table within one).stored;
    among = λ k h. h;
    found = λ k h. inl h;
    many = omega arith;
    kept_are = omega arith;
  };
}

module _ (start now : PagerState) (table : TableData) (index : TableIndex) (m : ℕ) (cursor : Cursor) (kept : ℕ)
    (s : Comparing start now table index m cursor kept) where
  module _ (steady : IsTrue start.source.steady) (one : IsCheckedTable (pages_seen start) table) (other : IsCheckedTableIndex (pages_seen start) table index m) where
    abbrev condition : Option Term
    condition = condition_of index

    abbrev keyed : List KeyedRow
    keyed = (its_rows (pages_seen start) table s.within one).rows

    abbrev entries : List Row
    entries = entries_of_index (pages_seen start) table index m other

    abbrev here : StandsBefore (pages_seen start) table (indexed_by index) condition keyed entries one.counts.levels cursor now.asked kept
    here = s.compares steady one other

    -- the cursor has a cell or an end
    pub never_ends : ((pages : Pages) (levels : ℕ) (places : List Place) (asked budget : ℕ) → IsAt pages (kind_of table.key) levels cursor places asked budget → ⊥) → ⊥
    never_ends none = none _ _ _ _ _ here.at

    -- what the index's cells are, by the pages that were read since
    pub number_now : IsNumber (pages_seen now) index.root
    number_now = subst (λ (p : Pages). IsNumber p index.root) (sym (same_pages _ _ s.stays)) other.number

    abbrev pub its_places : List Place
    its_places = places_of_index (pages_seen start) table index m other

    pub places_now : ArePlacesOf (pages_seen now) kind.Index index.root its_places
    places_now = subst (λ (p : Pages). ArePlacesOf p kind.Index index.root its_places) (sym (same_pages _ _ s.stays)) (places_are (pages_seen start) table index m other)

    -- how many rows the condition keeps
    abbrev pub kept_many : ℕ
    kept_many = length (kept_rows condition keyed)

    module _ (told : TellsCell table.key cursor None) where
      none_left : here.rest ≡ []
      none_left = no_keyed table.key (pages_seen start) table here.places here.rest here.stored_are (told _ _ _ _ _ here.at)

      no_kept : kept_rows condition here.rest ≡ []
      no_kept = ap (λ (l : List KeyedRow). kept_rows condition l) none_left

      all_passed : here.passed ≡ kept_many
      all_passed = let long = ap length no_kept in let many = here.many in omega (arith, long, many)

      pub all_counted : kept ≡ counted kept_many
      all_counted = here.kept_are ∙ ap counted all_passed

      pub all_found : kept_many ≡ length its_places → IsIndexOf (pages_seen start) table (indexed_by index) condition index.root
      all_found as_many =
          let long = length-map its_places (values (pages_seen start) (exactly (width_by table.key (indexed_by index))) index.descends.now index.root other.counts other.number other.tree) in
          is_index (pages_seen start) table (indexed_by index) condition index.root other.tells keyed entries (its_rows (pages_seen start) table s.within one).holds
          (holds_of_index (pages_seen start) table index m other) (omega (arith, long, as_many))
          (λ k h. ⊎_elim (λ (left : Contains (kept_rows condition here.rest) k). absurd (in_none k (subst (λ (l : List KeyedRow). Contains l k) no_kept left)))
          (λ (there : Contains entries (entry_of (indexed_by index) k)). there) (here.found k h))

      pub not_as_many : kept_many ≢ length its_places → IsDifferentIndex (pages_seen start) table (indexed_by index) condition index.root
      not_as_many differ =
          let long = length-map its_places (values (pages_seen start) (exactly (width_by table.key (indexed_by index))) index.descends.now index.root other.counts other.number other.tree) in
          other_count (pages_seen start) table (indexed_by index) condition index.root keyed entries (its_rows (pages_seen start) table s.within one).holds
          (holds_of_index (pages_seen start) table index m other) (λ e. differ (e ∙ long))

    -- what a look-up stands on
    pub search_now : IsSearchableIndex (pages_seen now) index.descends.now
        (values (pages_seen start) (exactly (width_by table.key (indexed_by index))) index.descends.now index.root other.counts other.number other.tree) other.counts.levels index.root
    search_now = subst (λ (p : Pages). IsSearchableIndex p index.descends.now
        (values (pages_seen start) (exactly (width_by table.key (indexed_by index))) index.descends.now index.root other.counts other.number other.tree) other.counts.levels index.root)
        (sym (same_pages _ _ s.stays))
        (searchable (pages_seen start) (exactly (width_by table.key (indexed_by index))) index.descends.now index.root other.counts other.number other.tree)

    module _ (cell : CellData) (told : TellsCell table.key cursor (Some cell)) where
      abbrev first : BeginsKeyed table.key (pages_seen start) table cell here.rest (drop 1 here.places)
      first = begins_keyed table.key (pages_seen start) table cell here.places here.rest here.stored_are (told _ _ _ _ _ here.at)

      pub row_now : IsKeyedRow table.key (pages_seen now) table cell first.keyed
      row_now = subst (λ (p : Pages). IsKeyedRow table.key p table cell first.keyed) (sym (same_pages _ _ s.stays)) first.is

      -- whether the index has the entry that the row wants, as a look-up tells it
      abbrev pub IsThereNow : Type 0
      IsThereNow = Contains (map (values (pages_seen start) (exactly (width_by table.key (indexed_by index))) index.descends.now index.root other.counts other.number other.tree)
          (places_under (pages_seen now) kind.Index other.counts.levels index.root))
          (entry_of (indexed_by index) first.keyed)

      same_there : IsThereNow ≡ Contains entries (entry_of (indexed_by index) first.keyed)
      same_there = λ k. Contains (map (values (pages_seen start) (exactly (width_by table.key (indexed_by index))) index.descends.now index.root other.counts other.number other.tree)
          (places_under (same_pages _ _ s.stays k) kind.Index other.counts.levels index.root))
          (entry_of (indexed_by index) first.keyed)

      -- whether the condition keeps the row
      abbrev pub keeps_now : Bool
      keeps_now = keeps_row condition first.keyed.row

      kept_is : keeps_now ≡ true → kept_rows condition here.rest ≡ first.keyed ∷ kept_rows condition first.more
      kept_is keeps = ap (λ (l : List KeyedRow). kept_rows condition l) first.rest_is
          ∙ kept_first (λ (k : KeyedRow). keeps_row condition k.row) first.keyed first.more keeps

      left_is : keeps_now ≡ false → kept_rows condition here.rest ≡ kept_rows condition first.more
      left_is left = ap (λ (l : List KeyedRow). kept_rows condition l) first.rest_is
          ∙ left_first (λ (k : KeyedRow). keeps_row condition k.row) first.keyed first.more left

      first_among : keeps_now ≡ true → Contains (kept_rows condition keyed) first.keyed
      first_among keeps = here.among first.keyed (subst (λ (l : List KeyedRow). Contains l first.keyed) (sym (kept_is keeps))
          (in_head first.keyed (kept_rows condition first.more)))

      pub not_there : keeps_now ≡ true → ¬ IsThereNow → IsDifferentIndex (pages_seen start) table (indexed_by index) condition index.root
      not_there keeps none = lacks (pages_seen start) table (indexed_by index) condition index.root keyed entries
          (its_rows (pages_seen start) table s.within one).holds (holds_of_index (pages_seen start) table index m other) first.keyed (first_among keeps)
          (λ h. none (subst (λ (t : Type 0). t) (sym same_there) h))

      -- the cursor stands where it stood, once the index was read
      module _ (read : PagerState) (reads : SameImage now read) where
        still_there : IsAt (pages_seen read) (kind_of table.key) one.counts.levels cursor here.places read.asked (read.asked + here.budget)
        still_there = subst (λ (p : Pages). IsAt p (kind_of table.key) one.counts.levels cursor here.places read.asked (read.asked + here.budget))
            (sym (same_pages _ _ (SameImage-trans _ _ _ s.stays reads)))
            (at_now (pages_seen start) (kind_of table.key) one.counts.levels cursor here.places now.asked here.budget read.asked here.at)

        steady_read : IsTrue read.source.steady
        steady_read = still_steady _ _ (SameImage-trans _ _ _ s.stays reads) steady

        pub stopped : (next : Cursor) (e : Fault) → HasFailed read cursor next e → IsReadFault e
        stopped next e failed = failed.sound steady_read (kind_of table.key) one.counts.levels here.places _ still_there

        module _ (then : PagerState) (next : Cursor) (stepped : HasStepped read then cursor next) where
          next_at : IsAt (pages_seen start) (kind_of table.key) one.counts.levels next (drop 1 here.places) then.asked (read.asked + here.budget)
          next_at = subst (λ (p : Pages). IsAt p (kind_of table.key) one.counts.levels next (drop 1 here.places) then.asked (read.asked + here.budget))
              (same_pages _ _ (SameImage-trans _ _ _ s.stays reads))
              (stepped.lists steady_read (kind_of table.key) one.counts.levels here.places (read.asked + here.budget) still_there).0

          -- a row that is kept was found
          pub one_further : keeps_now ≡ true → IsThereNow → (counts : ℕ) → counts ≡ min (kept + 1) (2 ^ 64 - 1)
              → StandsBefore (pages_seen start) table (indexed_by index) condition keyed entries one.counts.levels next then.asked counts
          one_further keeps there counts is = record {
            rest = first.more;
            places = drop 1 here.places;
            budget = read.asked + here.budget;
            passed = here.passed + 1;
            at = next_at;
            stored_are = first.stored_are;
            among = λ k h. here.among k (subst (λ (l : List KeyedRow). Contains l k) (sym (kept_is keeps)) (in_tail first.keyed k (kept_rows condition first.more) h));
            found = λ k h. ⊎_elim
                (λ (left : Contains (kept_rows condition here.rest) k). ⊎_elim
                (λ (e : first.keyed ≡ k). inr (subst (λ (z : KeyedRow). Contains entries (entry_of (indexed_by index) z)) e (subst (λ (t : Type 0). t) same_there there)))
                (λ (later : Contains (kept_rows condition first.more) k). inl later)
                (cons_cases first.keyed k (kept_rows condition first.more) (subst (λ (l : List KeyedRow). Contains l k) (kept_is keeps) left)))
                inr
                (here.found k h);
            many = let long = ap length (kept_is keeps) in let many = here.many in omega (arith, long, many);
            kept_are = let are = here.kept_are in omega (arith, are, is);
          }

          -- a row that isn't kept was passed over
          pub passed_over : keeps_now ≡ false → (counts : ℕ) → counts ≡ kept
              → StandsBefore (pages_seen start) table (indexed_by index) condition keyed entries one.counts.levels next then.asked counts
          passed_over left counts is = record {
            rest = first.more;
            places = drop 1 here.places;
            budget = read.asked + here.budget;
            passed = here.passed;
            at = next_at;
            stored_are = first.stored_are;
            among = λ k h. here.among k (subst (λ (l : List KeyedRow). Contains l k) (sym (left_is left)) h);
            found = λ k h. ⊎_elim
                (λ (later : Contains (kept_rows condition here.rest) k). inl (subst (λ (l : List KeyedRow). Contains l k) (left_is left) later))
                inr
                (here.found k h);
            many = let long = ap length (left_is left) in let many = here.many in omega (arith, long, many);
            kept_are = is ∙ here.kept_are;
          }
