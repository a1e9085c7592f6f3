-- The code of the values of a row, column by column.
use Rattle.std.proofs.Common.{◌≡◌, ◌∙◌, ◌+◌, ◌<◌, ◌≤◌, ℕ, All, List, [], ◌∷◌, ◌++◌, ℤ, Option, Some, append-nil, inr, get_or, length, map, slice_get, slice_index_or, take, sym, ap, subst}
use Rattle.std.proofs.lemmas.List.{flat_map_more, get_or_past, length-map, map-append, take_all, take_more}
use Rattle.std.proofs.lemmas.List.Elements.{All-nil, All-push}
use Rattle.std.proofs.lemmas.Option.{get_or_from_slice_get}
use Rattle.values.specs.Datum.{Datum, null}
use Rattle.values.specs.Row.{Row}
use Rattle.values.specs.declared.fault.Fault.{Fault}
use Rattle.values.specs.declared.fault.Fault.TheVariants.{ReadFailed, NoMemory, BadPage, BadChain, PageUse, BadOrder, BadDepth, BadRecord, FloatValue, BadText, ValueBreaksColumn}
use Rattle.pager.specs.Calls.{IsReadFault}
use Rattle.records.specs.declared.fault.RecordFault.{RecordFault}
use Rattle.records.specs.declared.fault.RecordFault.TheVariants as r
use Rattle.btree.specs.image.Cell.{CellData}
use Rattle.btree.specs.image.Chain.{HasBytes}
use Rattle.btree.specs.image.Pages.{Pages}
use Rattle.btree.proofs.lemmas.image.ChainLemmas.{one_payload}
use Rattle.integrity_trees.specs.index_walk.Checked.{IsIndexWalkFault}
use Rattle.integrity_indexes.specs.entry_batches.Codes.{IsHeld, code_of, codes_of}
use Rattle.integrity_trees.specs.wanted_entries.Wanted.{values_at}
use Rattle.schema_tables.specs.TableData.{MissingData, TableData, rowid_of}
use Rattle.records_tables.specs.stored_rows.Reading.{IsReading, Reading}
use Rattle.records_tables.specs.stored_rows.RowFaults.{IsRecordFault, IsRowFault, fault_of}
use Rattle.records_tables.specs.stored_rows.Stored.{IsRowOf, IsRowRecord}
use Rattle.records_tables.proofs.lemmas.stored_rows.FilledLemmas.{length-filled}
use Rattle.records_tables.proofs.lemmas.stored_rows.OneLemmas.{no_record_fault}
use Rattle.records_tables.proofs.lemmas.stored_rows.ReadingLemmas.{length-row}
use Rattle.integrity_trees.specs.table_walk.Walked.{IsWalkFault}

-- a row has as many values as its table has columns
pub long_row : (reading : Reading) (row : Row) → IsReading reading row → length row ≡ length reading.table.columns
long_row reading row is =
    let m = is.makes in
    ap length m.row_is ∙ length-row (rowid_of reading.table.key) reading.rowid m.filled
    ∙ sym (length-map m.filled MissingData.Fill) ∙ ap length m.filled_is ∙ length-filled reading.table is.values m.few

pub value_here : (row : Row) (place : ℕ) (value : Datum) → slice_get row place ≡ Some value → value ≡ slice_index_or row place null
value_here row place value at = sym (get_or_from_slice_get row place value null at)

pub value_past : (row : Row) (place : ℕ) → length row ≤ place → null ≡ slice_index_or row place null
value_past row place past = sym (get_or_past row place null past)

-- the values in the first of some columns, and their codes behind the bytes that were there
pub record AreWritten (row : Row) (places : List ℕ) (i : ℕ) (start code : List ℕ) : Type 0 where
  pub code_is : code ≡ start ++ codes_of (values_at row (take i places))
  pub held : All IsHeld (values_at row (take i places))

pub none_written : (row : Row) (places code : List ℕ) → AreWritten row places 0 code code
none_written row places code = record { code_is = sym (append-nil code); held = All-nil IsHeld }

pub one_written : (row : Row) (places : List ℕ) (i place : ℕ) (start code more : List ℕ) (value : Datum) → AreWritten row places i start code → i < length places
    → place ≡ get_or places i 0 → value ≡ slice_index_or row place null → more ≡ code ++ code_of value → IsHeld value → AreWritten row places (i + 1) start more
one_written row places i place start code more value is less place_is value_is more_is held =
    let f : ℕ → Datum = λ at. slice_index_or row at null in
    let longer : values_at row (take (i + 1) places) ≡ values_at row (take i places) ++ value ∷ [] =
    ap (map f) (take_more places i 0 less) ∙ map-append f (take i places) (get_or places i 0 ∷ [])
    ∙ ap (λ (v : Datum). values_at row (take i places) ++ v ∷ []) (sym (value_is ∙ ap f place_is)) in
    record {
      code_is = more_is ∙ ap (λ (c : List ℕ). c ++ code_of value) is.code_is ∙ flat_map_more code_of start (values_at row (take i places)) value
          ∙ ap (λ (l : Row). start ++ codes_of l) (sym longer);
      held = subst (λ (l : Row). All IsHeld l) (sym longer) (All-push IsHeld (values_at row (take i places)) value is.held held);
    }

-- all of them
pub all_written : (row : Row) (places : List ℕ) (i : ℕ) (start code : List ℕ) → AreWritten row places i start code → length places ≤ i
    → (code ≡ start ++ codes_of (values_at row places)) × All IsHeld (values_at row places)
all_written row places i start code is end =
    subst (λ (l : List ℕ). (code ≡ start ++ codes_of (values_at row l)) × All IsHeld (values_at row l)) (take_all i places end) (is.code_is, is.held)

-- the bytes that were read are the row's record
pub record_here : (pages : Pages) (table : TableData) (cell : CellData) (row : Row) (is : IsRowOf pages table cell row) (bytes found : List ℕ)
    → HasBytes pages cell.payload bytes → found ≡ bytes → IsRowRecord table cell.rowid found row
record_here pages table cell row is bytes found whole same =
    subst (λ (b : List ℕ). IsRowRecord table cell.rowid b row) (one_payload pages cell.payload is.bytes bytes is.whole whole ∙ sym same) is.is

-- a record that is read, unless memory runs out
pub memory_alone : (table : TableData) (rowid : Option ℤ) (bytes : List ℕ) (row : Row) → IsRowRecord table rowid bytes row → (n : ℕ) (e : Fault) (fault : RecordFault)
    → e ≡ fault_of fault n → IsRecordFault table bytes fault → IsReadFault e
memory_alone table rowid bytes row here n e fault e_is broken =
    inr (e_is ∙ ap (λ (f : RecordFault). fault_of f n) (no_record_fault table rowid bytes row fault here broken))

-- the faults of a walk over an index are some of those over a table
pub walk_fault : (e : Fault) → IsIndexWalkFault e → IsWalkFault e
walk_fault ReadFailed h = tt
walk_fault NoMemory h = tt
walk_fault (BadPage _) h = tt
walk_fault (BadChain _) h = tt
walk_fault (PageUse _) h = tt
walk_fault (BadOrder _) h = tt
walk_fault (BadDepth _) h = tt
walk_fault (BadRecord _) h = tt
walk_fault FloatValue h = tt
walk_fault BadText h = tt
walk_fault _ h = absurd h

pub row_fault : (e : Fault) → IsRowFault e → IsWalkFault e
row_fault ReadFailed h = tt
row_fault NoMemory h = tt
row_fault (BadChain _) h = tt
row_fault (PageUse _) h = tt
row_fault (BadRecord _) h = tt
row_fault FloatValue h = tt
row_fault BadText h = tt
row_fault (ValueBreaksColumn _) h = tt
row_fault _ h = absurd h

-- no record tells that the source failed
pub not_read : (fault : RecordFault) (n : ℕ) → fault_of fault n ≡ ReadFailed → ⊥
not_read r.Bad n e = cc
not_read r.Float n e = cc
not_read r.Text n e = cc
not_read r.NoMemory n e = cc
