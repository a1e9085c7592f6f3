-- A row of a table, read to be looked up.
use Rattle.std.proofs.Common.{◌≡◌, ◌∙◌, ◌↔◌, ◌+◌, ◌++◌, ℕ, ℤ, Bool, Contains, IsTrue, List, [], ◌∷◌, Option, None, Some, ap, arith, inr, length, map, refl, slice_get, subst, sym, take}
use Rattle.std.proofs.lemmas.List.{map-append, take_all}
use Rattle.values.specs.Datum.{Datum}
use Rattle.records.specs.Record.{IsRecord}
use Rattle.records_tables.proofs.lemmas.stored_rows.FilledLemmas.{fills_same, none_refused}
use Rattle.records_tables.proofs.lemmas.stored_rows.RowLemmas.{taken_more}
use Rattle.records_tables.specs.primary_rows.Rows.{IsPrimaryRow, told_values}
use Rattle.records_tables.proofs.lemmas.primary_rows.ToldLemmas.{long_told}
use Rattle.values.specs.Row.{Row}
use Rattle.values.specs.declared.fault.Fault.{Fault}
use Rattle.pager.specs.Calls.{IsReadFault}
use Rattle.records.specs.declared.fault.RecordFault.{RecordFault}
use Rattle.btree.specs.declared.image.kind.TreeKind.TheVariants.{Index}
use Rattle.btree.specs.image.Cell.{CellData}
use Rattle.btree.specs.image.Chain.{HasBytes}
use Rattle.btree.specs.image.Pages.{Pages}
use Rattle.btree.specs.image.Shape.{places_under}
use Rattle.btree.specs.image.Tree.{Place}
use Rattle.btree.proofs.lemmas.image.ChainLemmas.{one_payload}
use Rattle.integrity_trees.specs.wanted_entries.Wanted.{IndexedPlaces, KeyedRow, entry_of}
use Rattle.schema_tables.specs.TableData.{MissingData, RowKeyData, TableData}
use Rattle.records_tables.specs.stored_rows.RowFaults.{IsRecordFault, fault_of}
use Rattle.records_tables.specs.stored_rows.Stored.{IsRowOf, IsRowRecord}
use Rattle.records_tables.proofs.lemmas.stored_rows.OneLemmas.{no_record_fault, one_record_row}
use Rattle.integrity_indexes.specs.index_rows.Rows.{IsKeyedRow, IsPrimaryRowOf}

module _ (pages : Pages) (table : TableData) (cell : CellData) (row : Row) (is : IsRowOf pages table cell row)
    (bytes found : List ℕ) (whole : HasBytes pages cell.payload bytes) (same : found ≡ bytes) where
  -- the bytes that were read are the row's record
  record_here : IsRowRecord table cell.rowid found row
  record_here = subst (λ (b : List ℕ). IsRowRecord table cell.rowid b row) (one_payload pages cell.payload is.bytes bytes is.whole whole ∙ sym same) is.is

  -- it is read, unless memory runs out
  pub memory_alone : (n : ℕ) (e : Fault) (fault : RecordFault) → e ≡ fault_of fault n → IsRecordFault table found fault → IsReadFault e
  memory_alone n e fault e_is broken = inr (e_is ∙ ap (λ (f : RecordFault). fault_of f n) (no_record_fault table cell.rowid found row fault record_here broken))

  pub row_read : (other : Row) → IsRowRecord table cell.rowid found other → other ≡ row
  row_read other read = one_record_row table cell.rowid found other row read record_here

-- what is told of a row that was read, by the pages that were read since, is told of the row
pub told_here : (was now : Pages) (values : Place → Row) (levels root : ℕ) (index : IndexedPlaces) (rowid : Option ℤ) (read row : Row) (found : Bool) → now ≡ was → read ≡ row
    → (IsTrue found ↔ Contains (map values (places_under now Index levels root)) (entry_of index (record { rowid = rowid; row = read })))
    → IsTrue found ↔ Contains (map values (places_under was Index levels root)) (entry_of index (record { rowid = rowid; row = row }))
told_here was now values levels root index rowid read row found same is told =
    subst (λ (r : Row). IsTrue found ↔ Contains (map values (places_under was Index levels root)) (entry_of index (record { rowid = rowid; row = r }))) is
    (subst (λ (p : Pages). IsTrue found ↔ Contains (map values (places_under p Index levels root)) (entry_of index (record { rowid = rowid; row = read }))) same told)

-- ---- rows without rowids

-- what is told of the columns of a record, one after the other
pub told_more : (told : List MissingData) (row more : List Datum) (i : ℕ) (value : Datum) → slice_get told i ≡ Some (MissingData.Fill value)
    → map MissingData.Fill row ≡ take i told → more ≡ row ++ value ∷ [] → map MissingData.Fill more ≡ take (i + 1) told
told_more told row more i value here so_far is =
    taken_more told (map MissingData.Fill row) (map MissingData.Fill more) i (MissingData.Fill value) (MissingData.Fill value) here so_far
    (ap (map MissingData.Fill) is ∙ map-append MissingData.Fill row (value ∷ [])) refl

module _ (table : TableData) (values : List Datum) where
  pub told_all : (row : List Datum) (i : ℕ) → i ≡ length table.columns → map MissingData.Fill row ≡ take i (told_values table values)
      → map MissingData.Fill row ≡ told_values table values
  told_all row i end so_far = so_far ∙ take_all i (told_values table values) (let long = long_told table values in omega (arith, end, long))

  -- a record makes one row, and then each of its columns is known
  module _ (row : List Datum) (makes : IsPrimaryRow table values row) where
    pub one_told : (found : List Datum) → map MissingData.Fill found ≡ told_values table values → found ≡ row
    one_told found is = fills_same found row (is ∙ sym makes.told)

    pub all_known : Contains (told_values table values) MissingData.Refused → ⊥
    all_known refused = none_refused row (subst (λ (l : List MissingData). Contains l MissingData.Refused) (sym makes.told) refused)

-- the bytes that were read are the record of the row
pub record_read : (pages : Pages) (table : TableData) (cell : CellData) (row : Row) (is : IsPrimaryRowOf pages table cell row) (bytes found : List ℕ)
    → HasBytes pages cell.payload bytes → found ≡ bytes → IsRecord found is.values
record_read pages table cell row is bytes found whole same =
    subst (λ (b : List ℕ). IsRecord b is.values) (one_payload pages cell.payload is.has.bytes bytes is.has.whole whole ∙ sym same) is.has.record_is

-- a row with the rowid that it has
pub keyed_by : (keyed : KeyedRow) (rowid : Option ℤ) → keyed.rowid ≡ rowid → record { rowid = rowid; row = keyed.row } ≡ keyed
keyed_by keyed rowid e = λ k. record { rowid = sym e k; row = keyed.row }

-- a cell of a table whose rows are found so
pub as_row : (key : RowKeyData) (place : Option ℕ) (pages : Pages) (table : TableData) (cell : CellData) (keyed : KeyedRow) → RowKeyData.Rowid place ≡ key
    → IsKeyedRow key pages table cell keyed → IsRowOf pages table cell keyed.row × (keyed.rowid ≡ cell.rowid)
as_row key place pages table cell keyed same is = subst (λ (k : RowKeyData). IsKeyedRow k pages table cell keyed) (sym same) is

pub as_primary : (key : RowKeyData) (places : List ℕ) (pages : Pages) (table : TableData) (cell : CellData) (keyed : KeyedRow) → RowKeyData.Primary places ≡ key
    → IsKeyedRow key pages table cell keyed → IsPrimaryRowOf pages table cell keyed.row × (keyed.rowid ≡ None)
as_primary key places pages table cell keyed same is = subst (λ (k : RowKeyData). IsKeyedRow k pages table cell keyed) (sym same) is
