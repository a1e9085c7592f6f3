-- Entries begin with values of the rows that they lead to.
use Rattle.std.proofs.Common.{◌≡◌, ◌∙◌, ◌<◌, ◌++◌, ℕ, ℤ, zero, suc, All, List, [], ◌∷◌, Option, None, Some, length, map, slice_get, slice_index_or, slice_set, take, refl, sym, ap, subst, arith}
use Rattle.std.specs.List.{AllZip}
use Rattle.std.proofs.lemmas.List.{length-map}
use Rattle.std.proofs.lemmas.List.Elements.{All-cons, All-nil}
use Rattle.values.specs.Datum.{Datum, int, null}
use Rattle.values.specs.Row.{Row}
use Rattle.btree.specs.declared.image.kind.TreeKind.TheVariants.{Index, Table}
use Rattle.btree.specs.declared.image.kind.Level.TheVariants.{Leaf}
use Rattle.btree.specs.image.Broken.{HasRowid}
use Rattle.btree.specs.image.Cell.{CellData}
use Rattle.btree.specs.image.Pages.{Pages}
use Rattle.btree.specs.image.Shape.{places_under}
use Rattle.btree.specs.image.Tree.{Place}
use Rattle.btree.proofs.KindLemmas.{one_entry}
use Rattle.btree.proofs.lemmas.image.RowidLemmas.{one_rowid}
use Rattle.btree_cursor.specs.index_entries.Entries.{HasRecord}
use Rattle.schema_tables.specs.TableData.{IsKeyWithin, MissingData, RowKeyData, TableData, rowid_of}
use Rattle.records_tables.specs.primary_rows.Firsts.{firsts}
use Rattle.records_tables.specs.primary_rows.Order.{key_order, primary_of}
use Rattle.records_tables.specs.primary_rows.Rows.{IsPrimaryRow}
use Rattle.records_tables.specs.stored_rows.Stored.{IsRowFrom, row_from}
use Rattle.records_tables.specs.Tables.{StoresRowBy}
use Rattle.records_tables.proofs.lemmas.primary_rows.KeyLemmas.{key_first}
use Rattle.records_tables.proofs.lemmas.stored_rows.FilledLemmas.{length-filled, set_here}
use Rattle.records_searches.specs.Entries.{EntryData, HoldsTableEntries, IsKeyEntry, IsRowEntry}
use Rattle.integrity_trees.specs.wanted_entries.Wanted.{IndexedPlaces, KeyedRow}
use Rattle.integrity_trees.proofs.lemmas.primary_walk.RowLemmas.{one_values}
use Rattle.integrity.specs.Searched.{BeginsBy, key_columns}
use Rattle.integrity.proofs.SearchedIndexLemmas.{entry_to}

-- ---- of an index

take_front : (f : ℕ → Datum) (columns : List ℕ) (rest : List Datum) → take (length columns) (map f columns ++ rest) ≡ map f columns
take_front f [] rest = refl
take_front f (c ∷ columns) rest = ap (λ (l : List Datum). f c ∷ l) (take_front f columns rest)

pub index_begin : (index : IndexedPlaces) (rows : List KeyedRow) → All (BeginsBy index.columns) (map (entry_to index) rows)
index_begin index [] = All-nil (BeginsBy index.columns)
index_begin index (keyed ∷ rows) =
    All-cons (BeginsBy index.columns) (entry_to index keyed) (map (entry_to index) rows)
    (take_front (λ at. slice_index_or keyed.row at null) index.columns _) (index_begin index rows)

-- ---- of a table

got_or : (row : Row) (c : ℕ) (value : Datum) → slice_get row c ≡ Some value → slice_index_or row c null ≡ value
got_or [] c value e = cc
got_or (x ∷ row) zero value e = let f : Some x ≡ Some value = e in cc
got_or (x ∷ row) (suc c) value e = got_or row c value e

some_rowid : (a b : ℤ) → Some a ≡ Some b → a ≡ b
some_rowid a b e = cc

-- a row has its rowid where a column is it
has_rowid : (table : TableData) (at : ℕ) (rowid : Option ℤ) (number : ℤ) (values : List Datum) (row : Row) → rowid_of table.key ≡ Some at → rowid ≡ Some number
    → at < length table.columns → IsRowFrom table rowid values row → slice_index_or row at null ≡ int number
has_rowid table at rowid number values row key_is rowid_is within makes =
    let long : length makes.filled ≡ length table.columns =
    sym (length-map makes.filled MissingData.Fill) ∙ ap length makes.filled_is ∙ length-filled table values makes.few in
    let is : row ≡ slice_set makes.filled at (int number) =
    makes.row_is ∙ (λ k. row_from (key_is k) (rowid_is k) makes.filled) in
    ap (λ (r : Row). slice_index_or r at null) is
    ∙ got_or (slice_set makes.filled at (int number)) at (int number) (set_here makes.filled at (int number) (omega (arith, within, long)))

module _ (pages : Pages) (table : TableData) where
  stored_rowid : (at : ℕ) (place : Place) (row : Row) (rowid : ℤ) → rowid_of table.key ≡ Some at → at < length table.columns
      → HasRowid pages Leaf place.page place.index rowid → StoresRowBy (RowKeyData.Rowid (Some at)) pages table place row → slice_index_or row at null ≡ int rowid
  stored_rowid at place row rowid key_is within has stores =
      let cell = stores.at.is in
      let same = one_rowid pages Leaf place.page place.index cell.rowid rowid (stores.cell, cell, cell.has_rowid) has in
      has_rowid table at stores.cell.rowid rowid stores.is.is.values row key_is (cell.has_rowid ∙ ap Some same) within stores.is.is.makes

  row_begins : (place : Option ℕ) → table.key ≡ RowKeyData.Rowid place → IsKeyWithin (RowKeyData.Rowid place) (length table.columns)
      → (at : Place) (entry : EntryData) → IsRowEntry pages table at entry → BeginsBy (key_columns (RowKeyData.Rowid place)) entry
  row_begins None key_is within at entry is = refl
  row_begins (Some column) key_is within at entry is =
      let stores = subst (λ (k : RowKeyData). StoresRowBy k pages table at entry.row) key_is is.stores in
      let value = stored_rowid column at entry.row is.rowid (ap rowid_of key_is) within is.has stores in
      ap (take 1) is.values_are ∙ ap (λ (d : Datum). d ∷ []) (sym value)

  key_begins : (places : List ℕ) → table.key ≡ RowKeyData.Primary places → IsKeyWithin table.key (length table.columns)
      → (at : Place) (entry : EntryData) → IsKeyEntry pages table at entry → BeginsBy (firsts [] places) entry
  key_begins places key_is within at entry is =
      let stores = subst (λ (k : RowKeyData). StoresRowBy k pages table at entry.row) key_is is.stores in
      let record_is = stores.is.is in
      let same = one_entry pages Index at stores.cell is.has.cell stores.at is.has.at in
      let its : HasRecord pages stores.cell record_is.values =
      record { bytes = stores.is.bytes; whole = stores.is.whole; record_is = record_is.record_is } in
      let values = one_values pages is.has.cell record_is.values entry.values (subst (λ (c : CellData). HasRecord pages c record_is.values) same its) is.has.has in
      let key : key_order table ≡ firsts [] places = ap (λ (k : RowKeyData). firsts [] (primary_of k)) key_is in
      let first = key_first table entry.values entry.row within (subst (λ (v : List Datum). IsPrimaryRow table v entry.row) values record_is.makes) in
      sym (subst (λ (l : List ℕ). map (λ c. slice_index_or entry.row c null) l ≡ take (length l) entry.values) key first)

  each_begins : (R : Place → EntryData → Type 0) (columns : List ℕ) → ((at : Place) (entry : EntryData) → R at entry → BeginsBy columns entry)
      → (places : List Place) (entries : List EntryData) → AllZip R places entries → All (BeginsBy columns) entries
  each_begins R columns begins [] [] each = All-nil (BeginsBy columns)
  each_begins R columns begins [] (entry ∷ entries) each = absurd each
  each_begins R columns begins (place ∷ places) [] each = absurd each
  each_begins R columns begins (place ∷ places) (entry ∷ entries) each =
      All-cons (BeginsBy columns) entry entries (begins place entry each.0) (each_begins R columns begins places entries each.1)

  begin_by : (key : RowKeyData) → table.key ≡ key → IsKeyWithin table.key (length table.columns) → (levels : ℕ) (entries : List EntryData)
      → HoldsTableEntries key pages table levels entries → All (BeginsBy (key_columns key)) entries
  begin_by (RowKeyData.Rowid place) key_is within levels entries holds =
      each_begins (IsRowEntry pages table) (key_columns (RowKeyData.Rowid place))
      (row_begins place key_is (subst (λ (k : RowKeyData). IsKeyWithin k (length table.columns)) key_is within)) (places_under pages Table levels table.root)
      entries holds.each
  begin_by (RowKeyData.Primary places) key_is within levels entries holds =
      each_begins (IsKeyEntry pages table) (firsts [] places) (key_begins places key_is within) (places_under pages Index levels table.root) entries holds.each

  pub table_begin : IsKeyWithin table.key (length table.columns) → (levels : ℕ) (entries : List EntryData) → HoldsTableEntries table.key pages table levels entries
      → All (BeginsBy (key_columns table.key)) entries
  table_begin within levels entries holds = begin_by table.key refl within levels entries holds
