-- The rows that a cursor over a table still has to give, and the pages that it may ask for on the way. (Database File
-- Format, section 2.3 "Representation Of SQL Tables", and section 2.4 "Representation Of WITHOUT ROWID Tables")
use Rattle.std.specs.Prelude.{
  ◌≡◌,
  ◌⊎◌,
  ◌+◌,
  ◌<◌,
  ◌≤◌,
  All,
  Bool,
  true,
  false,
  IsFalse,
  IsTrue,
  ℕ,
  List,
  [],
  ◌∷◌,
  ◌++◌,
  map,
  None,
  take,
}
use Rattle.std.specs.List.{AllZip}
use Rattle.values.specs.Datum.{datum_of}
use Rattle.values.specs.Row.{Row, Grows}
use Rattle.values.specs.declared.value.Value.{Value}
use Rattle.values.specs.declared.fault.Fault.{Fault}
use Rattle.values.specs.declared.fault.Fault.TheVariants.{Changed}
use Rattle.pager.specs.Calls.{IsReadFault}
use Rattle.pager.specs.PagerState.{PagerState}
use Rattle.btree.specs.declared.image.kind.TreeKind.{TreeKind}
use Rattle.btree.specs.image.Cell.{CellData}
use Rattle.btree.specs.image.Pages.{Pages}
use Rattle.btree.specs.image.Shape.{places_under, size_under}
use Rattle.btree.specs.image.Tree.{IsEntryAt, Place}
use Rattle.btree_cursor.specs.declared.cursor.cursor.Cursor.{Cursor}
use Rattle.btree_cursor.specs.cursor.Listing.{IsAt}
use Rattle.schema_tables.specs.TableData.{TableData}
use Rattle.records_tables.specs.Tables.{StoresAnyRow, kind_of}
use Rattle.semantics.specs.OneTable.{shown}

-- the faults of a scan: those of reading, and a table that has changed since it was checked
abbrev pub IsScanFault : Fault → Type 0
IsScanFault fault = IsReadFault fault ⊎ (fault ≡ Changed)

-- how many pages a table's tree of so many levels has
abbrev pub size_of : Pages → TableData → ℕ → ℕ
size_of pages table levels = size_under pages levels table.root

-- the cell at a place of a tree of this kind has no overflow page
abbrev pub IsUnchained : Pages → TreeKind → Place → Type 0
IsUnchained pages kind place = (cell : CellData) → IsEntryAt pages kind place cell → cell.payload.overflow ≡ None

-- no cell of the table has one
abbrev pub AreUnchained : Pages → TableData → ℕ → Type 0
AreUnchained pages table levels = All (IsUnchained pages (kind_of table.key)) (places_under pages (kind_of table.key) levels table.root)

-- These rows of the table are to come, for which so many pages are yet to be asked for at most, whatever else asks for
-- pages in between. Where `local` says so, their cells have no overflow pages.
pub record IsToCome (pages : Pages) (table : TableData) (local : Bool) (cursor : Cursor) (rows : List Row) (ahead : ℕ) : Type 0 where
  pub levels : ℕ
  pub places : List Place
  pub at : IsAt pages (kind_of table.key) levels cursor places 0 ahead
  pub stored : AllZip (StoresAnyRow pages table) places rows
  pub unchained : IsTrue local → All (IsUnchained pages (kind_of table.key)) places

-- Of the pages that were ahead at one time, so many are left at a later one. Where `local` says so, no page of an overflow
-- chain was asked for.
pub record Asks (local : Bool) (old : PagerState) (ahead : ℕ) (new : PagerState) (left : ℕ) : Type 0 where
  pub pages : new.asked + left ≤ old.asked + ahead
  pub chains : IsTrue local → new.chained ≡ old.chained

-- a row's columns were put behind other values, or there is none
abbrev pub GivesRow : Bool → List ℕ → List Row → Row → Row → (List Row → Type 0) → Type 0
GivesRow true columns rows old new Then =
    (row : Row) × (later : List Row) × (rows ≡ row ∷ later) × (new ≡ old ++ shown columns row) × Then later
GivesRow false columns rows old new Then = (rows ≡ []) × (new ≡ old) × Then []

-- What a step to the next row leaves behind the first `before` values of a row, and of what is left to do: these values stay in
-- front; where no row was found they stay alone, and where one was, less is left.
pub record HasMoved (found : Bool) (before : ℕ) (old new : List Value) (was now : ℕ) : Type 0 where
  pub front : Grows (take before (map datum_of old)) (map datum_of new)
  pub end : IsFalse found → new ≡ take before old
  pub left : IsTrue found → now < was
