-- A table that was checked is searched by its rowids or its PRIMARY KEY.
use Rattle.std.proofs.Common.{◌≡◌, ◌-◌, ◌^◌, ◌<◌, ◌≤◌, ◌<ℤ◌, nat_lt, if◌then◌else◌, ℕ, ℤ, suc, pos, negsuc, Contains, Bool, true, false, List, [], ◌∷◌, Option, map, refl, sym, ap, subst, arith}
use Rattle.std.specs.List.{AllZip, list_all}
use Rattle.std.specs.Int.{w64, cast_signed}
use Rattle.std.specs.Cmp.{int_cmp_is}
use Rattle.std.specs.Ordering.{int_cmp, is_lt, ordering_then}
use Rattle.std.specs.declared.cmp.Ordering.{Ordering}
use Rattle.std.specs.declared.cmp.Ordering.TheVariants.{Less, Equal}
use Rattle.std.proofs.lemmas.Int.{ints}
use Rattle.values.specs.Datum.{Datum, int}
use Rattle.values.specs.Row.{Row}
use Rattle.records.specs.Varint.{BeginsVarint}
use Rattle.btree.specs.declared.image.kind.TreeKind.TheVariants.{Index, Table}
use Rattle.btree.specs.declared.image.kind.Level.{Level}
use Rattle.btree.specs.declared.image.kind.Level.TheVariants.{Leaf}
use Rattle.btree.specs.image.Broken.{HasRowid}
use Rattle.btree.specs.image.Pages.{IsNumber, Pages}
use Rattle.btree.specs.image.Shape.{HasShape, most_levels, places_under}
use Rattle.btree.specs.image.Sound.{RowidsAscend}
use Rattle.btree.specs.image.Tree.{IsPageOf, IsPlaceOf, Place, Reaches}
use Rattle.btree.proofs.lemmas.image.ListLemmas.{in_head, in_tail}
use Rattle.btree.proofs.lemmas.image.PlaceLemmas.{sound}
use Rattle.btree.proofs.lemmas.image.TableLemmas.{leaf_place}
use Rattle.btree_cursor.specs.index_entries.Entries.{AreValuesOf}
use Rattle.btree_cursor.specs.key_ranges.Ranges.{key_cmp}
use Rattle.btree_cursor.specs.key_ranges.Runs.{Ascend}
use Rattle.btree_cursor.proofs.lemmas.index_entries.EntryLemmas.{entry_at_place}
use Rattle.schema_tables.specs.TableData.{RowKeyData, TableData}
use Rattle.records_tables.specs.stored_rows.Stored.{IsStored}
use Rattle.records_tables.specs.Tables.{IsAnyStored, IsStoredBy, StoresAnyRow, kind_of}
use Rattle.records_searches.specs.Entries.{EntryData, HoldsEntries, of_table, HasRecordAt, HoldsKeyEntries, HoldsRowEntries, HoldsTableEntries, IsKeyEntry, IsRowEntry, entry_values}
use Rattle.records_searches.specs.RowCuts.{IsRowid}
use Rattle.integrity_trees.specs.declared.tree_walk.counts.TreeCounts.{TreeCounts}
use Rattle.integrity_trees.specs.primary_walk.Checked.{IsCheckedPrimary, widths_of}
use Rattle.integrity_trees.proofs.lemmas.entry_prefixes.ListLemmas.{get_of}
use Rattle.integrity_trees.proofs.lemmas.index_walk.ValueLemmas.{has_values}
use Rattle.integrity_indexes.specs.index_rows.Checked.{IsCheckedBy}
use Rattle.records_tables.proofs.TableLemmas.{stored_rows}
use Rattle.integrity.specs.Searched.{entry_rows}

-- ---- rowids

signed_least : (n : ℕ) → IsRowid (cast_signed w64 n)
signed_least n = by_test (nat_lt n (2 ^ 63)) refl
  where
    by_test : (b : Bool) → nat_lt n (2 ^ 63) ≡ b → IsRowid (if b then pos n else negsuc (2 ^ 64 - suc n))
    by_test true e = omega (arith, ints)
    by_test false e = let most : 2 ^ 63 ≤ n = grind arith in omega (arith, ints, most)

varint_least : (bytes : List ℕ) (value : ℤ) (count : ℕ) → BeginsVarint bytes value count → IsRowid value
varint_least bytes value count begins = subst IsRowid (sym begins.is.signed) (signed_least begins.is.bits)

-- the rowid of a cell of a table's tree
record HasRowidAt (pages : Pages) (place : Place) : Type 0 where
  rowid : ℤ
  page : IsPageOf pages Table Leaf place.page
  has : HasRowid pages Leaf place.page place.index rowid
  is_rowid : IsRowid rowid

rowid_at : (pages : Pages) (root : ℕ) (place : Place) → IsPlaceOf pages Table root place → HasRowidAt pages place
rowid_at pages root place is =
    let page = leaf_place pages is.level place.page is.entries is.page in
    let cell = page.cells place.index is.within in
    let of = cell.1.is in
    record {
      rowid = of.rowid;
      page = page;
      has = (cell.0, of, of.has_rowid);
      is_rowid = varint_least _ of.rowid of.rowid_length of.rowid_is;
    }

-- ---- the entries of a table with rowids

before_is : (a b : ℤ) → a <ℤ b → is_lt (key_cmp [] (int a ∷ []) (int b ∷ [])) ≡ true
before_is a b less =
    let e : Less ≡ int_cmp a b = int_cmp_is a b Less less in
    ap (λ (o : Ordering). is_lt (ordering_then o Equal)) (sym e)

module _ (pages : Pages) (table : TableData) where
  record AreRowEntries (places : List Place) (rows : List Row) : Type 0 where
    entries : List EntryData
    each : AllZip (IsRowEntry pages table) places entries
    rows_are : entry_rows entries ≡ rows

  row_entries : (places : List Place) (rows : List Row) → ((place : Place) → Contains places place → HasRowidAt pages place)
      → AllZip (StoresAnyRow pages table) places rows → AreRowEntries places rows
  row_entries [] [] has stored = record { entries = []; each = tt; rows_are = refl }
  row_entries [] (row ∷ rows) has stored = absurd stored
  row_entries (place ∷ places) [] has stored = absurd stored
  row_entries (place ∷ places) (row ∷ rows) has stored =
      let here = has place (in_head place places) in
      let rest = row_entries places rows (λ other h. has other (in_tail place other places h)) stored.1 in
      record {
        entries = record { values = int here.rowid ∷ []; row = row } ∷ rest.entries;
        each = (
          record { rowid = here.rowid; is_rowid = here.is_rowid; page = here.page; has = here.has; values_are = refl; stores = stored.0 },
          rest.each,
        );
        rows_are = ap (λ (l : List Row). row ∷ l) rest.rows_are;
      }

  -- each comes before all later ones
  later_all : (place : Place) (places : List Place) (entries : List EntryData) (rowid : ℤ) → AllZip (IsRowEntry pages table) places entries
      → ((other : Place) (rowid_there : ℤ) → Contains places other → HasRowid pages Leaf other.page other.index rowid_there → rowid <ℤ rowid_there)
      → list_all (λ y. is_lt (key_cmp [] (int rowid ∷ []) y)) (map entry_values entries) ≡ true
  later_all place [] [] rowid each before = refl
  later_all place [] (entry ∷ entries) rowid each before = absurd each
  later_all place (other ∷ places) [] rowid each before = absurd each
  later_all place (other ∷ places) (entry ∷ entries) rowid each before =
      let less = before other each.0.rowid (in_head other places) each.0.has in
      let first : is_lt (key_cmp [] (int rowid ∷ []) entry.values) ≡ true =
      subst (λ (v : List Datum). is_lt (key_cmp [] (int rowid ∷ []) v) ≡ true) (sym each.0.values_are) (before_is rowid each.0.rowid less) in
      let rest = later_all place places entries rowid each.1 (λ next k h. before next k (in_tail other next places h)) in
      rw first rest

  entries_ascend : (places : List Place) (entries : List EntryData) → AllZip (IsRowEntry pages table) places entries → RowidsAscend pages places
      → Ascend [] (map entry_values entries)
  entries_ascend [] [] each ascend = tt
  entries_ascend [] (entry ∷ entries) each ascend = absurd each
  entries_ascend (place ∷ places) [] each ascend = absurd each
  entries_ascend (place ∷ places) (entry ∷ entries) each ascend = (
    subst (λ (v : List Datum). list_all (λ y. is_lt (key_cmp [] v y)) (map entry_values entries) ≡ true) (sym each.0.values_are)
        (later_all place places entries each.0.rowid each.1
        (λ other k h has. ascend 0 (suc h.0) place other each.0.rowid k (omega arith) refl (get_of places other h) each.0.has has)),
    entries_ascend places entries each.1 (λ i j x y a b less at_x at_y. ascend (suc i) (suc j) x y a b (omega (arith, less)) at_x at_y),
  )

  holds_row_entries : (levels : ℕ) (rows : List Row) → IsNumber pages table.root → levels < most_levels → IsStored pages table levels rows
      → (made : AreRowEntries (places_under pages Table levels table.root) rows) → HoldsRowEntries pages table levels made.entries
  holds_row_entries levels rows number few stored made = record {
    searchable = record { tree = record { few = few; number = number; shape = stored.shape }; order = stored.order };
    each = made.each;
    ascend = entries_ascend (places_under pages Table levels table.root) made.entries made.each stored.cells.ascend;
  }

-- ---- the records of an index's tree

-- the record at a place has the values that are said of it
pub record_at : (pages : Pages) (values : Place → List Datum) (root : ℕ)
    → ((level : Level) (n : ℕ) → Reaches pages Index root n → IsPageOf pages Index level n → AreValuesOf pages values level n)
    → (place : Place) → IsPlaceOf pages Index root place → HasRecordAt pages place (values place)
record_at pages values root entries place is =
    let has = (entries is.level place.page is.reaches is.page).each place.index is.within in
    record { cell = has.cell; at = entry_at_place pages is.level place.page place.index has.cell is.page has.is; has = has.has }

module _ (pages : Pages) (table : TableData) (values : Place → List Datum) where
  record AreKeyEntries (places : List Place) (rows : List Row) : Type 0 where
    entries : List EntryData
    each : AllZip (IsKeyEntry pages table) places entries
    values_are : map values places ≡ map entry_values entries
    rows_are : entry_rows entries ≡ rows

  key_entries : (places : List Place) (rows : List Row) → ((place : Place) → Contains places place → HasRecordAt pages place (values place))
      → AllZip (StoresAnyRow pages table) places rows → AreKeyEntries places rows
  key_entries [] [] has stored = record { entries = []; each = tt; values_are = refl; rows_are = refl }
  key_entries [] (row ∷ rows) has stored = absurd stored
  key_entries (place ∷ places) [] has stored = absurd stored
  key_entries (place ∷ places) (row ∷ rows) has stored =
      let rest = key_entries places rows (λ other h. has other (in_tail place other places h)) stored.1 in
      record {
        entries = record { values = values place; row = row } ∷ rest.entries;
        each = (record { has = has place (in_head place places); stores = stored.0 }, rest.each);
        values_are = ap (λ (l : List (List Datum)). values place ∷ l) rest.values_are;
        rows_are = ap (λ (l : List Row). row ∷ l) rest.rows_are;
      }

-- ---- a table of either kind

module _ (pages : Pages) (table : TableData) (number : IsNumber pages table.root) where
  searched_by_rowid : (at : Option ℕ) (levels : ℕ) (rows : List Row) → levels < most_levels → IsStored pages table levels rows
      → AllZip (StoresAnyRow pages table) (places_under pages Table levels table.root) rows
      → (entries : List EntryData) × HoldsRowEntries pages table levels entries × (entry_rows entries ≡ rows)
  searched_by_rowid at levels rows few is stored =
      let made = row_entries pages table (places_under pages Table levels table.root) rows
      (λ place h. rowid_at pages table.root place (is.cells.cells.sound place h)) stored in
      (made.entries, holds_row_entries pages table levels rows number few is made, made.rows_are)

  searched_by_key : (counts : TreeCounts) (levels : ℕ) (rows : List Row) → levels < most_levels → IsCheckedPrimary pages table counts
      → HasShape pages Index levels table.root → AllZip (StoresAnyRow pages table) (places_under pages Index levels table.root) rows
      → (entries : List EntryData) × HoldsKeyEntries pages table levels entries × (entry_rows entries ≡ rows)
  searched_by_key counts levels rows few checked shape stored =
      let held = has_values pages (widths_of table) [] table.root counts checked.tree in
      let places = places_under pages Index levels table.root in
      let made = key_entries pages table held.values places rows
      (λ place h. record_at pages held.values table.root held.entries place (sound pages Index levels table.root shape place h)) stored in (
        made.entries,
        record {
          values = held.values;
          searchable = record { tree = record { few = few; number = number; shape = shape }; entries = held.entries; order = held.order };
          values_are = made.values_are;
          each = made.each;
          ascend = subst (λ (l : List (List Datum)). Ascend [] l) made.values_are (held.ascend levels shape);
        },
        made.rows_are,
      )

  searched_by : (key : RowKeyData) (counts : TreeCounts) (levels : ℕ) (rows : List Row) → levels < most_levels → IsCheckedBy key pages table counts
      → IsStoredBy key pages table levels rows → AllZip (StoresAnyRow pages table) (places_under pages (kind_of key) levels table.root) rows
      → (entries : List EntryData) × HoldsTableEntries key pages table levels entries × (entry_rows entries ≡ rows)
  searched_by (RowKeyData.Rowid at) counts levels rows few checked is stored = searched_by_rowid at levels rows few is stored
  searched_by (RowKeyData.Primary ats) counts levels rows few checked is stored = searched_by_key counts levels rows few checked is.shape stored

  pub searched_table : (counts : TreeCounts) (is : IsAnyStored pages table) → IsCheckedBy table.key pages table counts
      → (entries : List EntryData) × HoldsEntries (of_table table) pages is.levels entries × (entry_rows entries ≡ is.rows)
  searched_table counts is checked = searched_by table.key counts is.levels is.rows is.few checked is.stored (stored_rows pages table is)
