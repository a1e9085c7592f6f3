-- The faults of cells, and the rows of a leaf.
use Rattle.std.proofs.Common.{◌≡◌, ◌⊎◌, ℕ, List, Option, None, Some, subst, inl, inr, refl}
use Rattle.std.specs.Prelude.{IfSome}
use Rattle.values.specs.declared.fault.Fault.{Fault}
use Rattle.values.specs.declared.fault.Fault.TheVariants.{NoMemory}
use Rattle.records.specs.declared.fault.RecordFault.{RecordFault}
use Rattle.records.specs.declared.fault.RecordFault.TheVariants as r
use Rattle.btree.specs.image.Cell.{CellData}
use Rattle.btree.specs.image.Chain.{HasBytes, local}
use Rattle.btree.specs.image.Pages.{Pages}
use Rattle.schema_tables.specs.TableData.{TableData}
use Rattle.values.specs.Row.{Row}
use Rattle.records_tables.specs.stored_rows.Stored.{IsRowOf, IsRowRecord}
use Rattle.records_tables.specs.stored_rows.RowFaults.{HasRecordFault, IsCellFault, IsRecordFault, IsRowFault, fault_of}

pub IfSome-always : {T : Type 0} {P : Type 0} (r : Option T) → P → IfSome r (λ v. P)
IfSome-always None p = tt
IfSome-always (Some v) p = p

-- a row whose record is a payload that stands in its cell whole, whatever the pages are
pub local_row_is : (pages : Pages) (table : TableData) (cell : CellData) (row : Row) → cell.payload.overflow ≡ None
    → IsRowRecord table cell.rowid cell.payload.local row → IsRowOf pages table cell row
local_row_is pages table cell row whole is = record { bytes = cell.payload.local; whole = local whole refl; is = is }

module _ (pages : Pages) (table : TableData) (n : ℕ) (cell : CellData) where
  -- a row whose record was read from a payload's bytes
  pub row_is : (bytes found : List ℕ) (row : Row) → HasBytes pages cell.payload bytes → found ≡ bytes
      → IsRowRecord table cell.rowid found row → IsRowOf pages table cell row
  row_is bytes found row whole same is = record {
    bytes = bytes;
    whole = whole;
    is = subst (λ (b : List ℕ). IsRowRecord table cell.rowid b row) same is;
  }

  fault_is : (fault : RecordFault) → HasRecordFault pages table cell fault
      → (fault_of fault n ≡ NoMemory) ⊎ IsCellFault pages table n cell (fault_of fault n)
  fault_is r.Bad broken = inr (refl, broken)
  fault_is r.Float broken = inr broken
  fault_is r.Text broken = inr broken
  fault_is r.NoMemory broken = inl refl

  -- a record's fault, once its page is known, is one of its cell
  pub record_breaks : (bytes found : List ℕ) → HasBytes pages cell.payload bytes → found ≡ bytes
      → (e : Fault) (fault : RecordFault) → e ≡ fault_of fault n → IsRecordFault table found fault
      → (e ≡ NoMemory) ⊎ IsCellFault pages table n cell e
  record_breaks bytes found whole same e fault is broken =
      rw is (fault_is fault (record { bytes = bytes; whole = whole; broken = subst (λ (b : List ℕ). IsRecordFault table b fault) same broken }))

pub fault_of_row : (fault : RecordFault) (n : ℕ) → IsRowFault (fault_of fault n)
fault_of_row r.Bad n = tt
fault_of_row r.Float n = tt
fault_of_row r.Text n = tt
fault_of_row r.NoMemory n = tt

pub row_fault : (e : Fault) (fault : RecordFault) (n : ℕ) → e ≡ fault_of fault n → IsRowFault e
row_fault e fault n is = rw is (fault_of_row fault n)
