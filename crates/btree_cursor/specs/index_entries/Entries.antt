-- The entries of a page of an index, and why one can't be read. (Database File Format, section 1.6 "B-tree Pages", and
-- section 2.3 "Representation Of SQL Indices"; the faults of docs/FAULTS.md)
use Rattle.std.specs.Prelude.{◌≡◌, ℕ, ◌<◌, List, length}
use Rattle.values.specs.Datum.{Datum}
use Rattle.values.specs.declared.fault.Fault.{Fault}
use Rattle.values.specs.declared.fault.Fault.TheVariants.{ReadFailed, NoMemory, BadPage, BadChain, BadRecord, FloatValue, BadText}
use Rattle.records.specs.Record.{Breaks, IsRecord}
use Rattle.records.specs.declared.fault.RecordFault.{RecordFault}
use Rattle.records.specs.declared.fault.RecordFault.TheVariants as r
use Rattle.btree.specs.declared.image.kind.TreeKind.TheVariants.{Index}
use Rattle.btree.specs.declared.image.kind.Level.{Level}
use Rattle.btree.specs.image.Cell.{CellData, FitsIn, IsIndexCell}
use Rattle.btree.specs.image.Chain.{HasBytes}
use Rattle.btree.specs.image.Layout.{header_at}
use Rattle.btree.specs.image.Pages.{Pages}
use Rattle.btree.specs.image.Shape.{place_at}
use Rattle.btree.specs.image.Tree.{Place, IsPageOf, count_at, entry_at}
use Rattle.btree.specs.ViewData.{ViewData}

-- the cell of entry i of page n, whose payload the image has room for
abbrev pub IsEntryOn : Pages → Level → ℕ → ℕ → CellData → Type 0
IsEntryOn pages level n i cell = FitsIn pages.size (IsIndexCell pages.usable (entry_at pages level n i)) cell

-- the payload of a cell is a record of these values
pub record HasRecord (pages : Pages) (cell : CellData) (values : List Datum) : Type 0 where
  pub bytes : List ℕ
  pub whole : HasBytes pages cell.payload bytes
  pub record_is : IsRecord bytes values

-- entry i of page n has these values
pub record HasValues (pages : Pages) (level : Level) (n i : ℕ) (values : List Datum) : Type 0 where
  pub cell : CellData
  pub is : IsEntryOn pages level n i cell
  pub has : HasRecord pages cell values

-- page n is one of an index, and each of its entries has the values that are told of its place
pub record AreValuesOf (pages : Pages) (values : Place → List Datum) (level : Level) (n : ℕ) : Type 0 where
  pub page : IsPageOf pages Index level n
  pub each : (i : ℕ) → i < count_at pages n → HasValues pages level n i (values (place_at n i))

-- an entry of page n is such a cell
pub record HasEntryThat (pages : Pages) (level : Level) (n : ℕ) (IsSuch : CellData → Type 0) : Type 0 where
  pub i : ℕ
  pub cell : CellData
  pub within : i < count_at pages n
  pub is : IsEntryOn pages level n i cell
  pub such : IsSuch cell

-- the payload of a cell is no record, for this reason
abbrev pub HasBrokenRecord : Pages → RecordFault → CellData → Type 0
HasBrokenRecord pages fault cell = (bytes : List ℕ) × HasBytes pages cell.payload bytes × Breaks fault bytes

-- its overflow pages are no chain of its size
abbrev pub HasBrokenChain : Pages → CellData → Type 0
HasBrokenChain pages cell = (bytes : List ℕ) → ¬ HasBytes pages cell.payload bytes

-- the condition of an entry's cell on page n that a fault says is broken
abbrev pub BreaksCell : Pages → ℕ → CellData → Fault → Type 0
BreaksCell pages n cell (BadChain m) = (m ≡ n) × HasBrokenChain pages cell
BreaksCell pages n cell (BadRecord m) = (m ≡ n) × HasBrokenRecord pages r.Bad cell
BreaksCell pages n cell FloatValue = HasBrokenRecord pages r.Float cell
BreaksCell pages n cell BadText = HasBrokenRecord pages r.Text cell
BreaksCell pages n cell _ = ⊥

-- the condition of page n, or of an entry there, that a fault says is broken
abbrev pub BreaksEntry : Pages → Level → ℕ → Fault → Type 0
BreaksEntry pages level n (BadPage m) = (m ≡ n) × (¬ IsPageOf pages Index level n)
BreaksEntry pages level n (BadChain m) = (m ≡ n) × HasEntryThat pages level n (HasBrokenChain pages)
BreaksEntry pages level n (BadRecord m) = (m ≡ n) × HasEntryThat pages level n (HasBrokenRecord pages r.Bad)
BreaksEntry pages level n FloatValue = HasEntryThat pages level n (HasBrokenRecord pages r.Float)
BreaksEntry pages level n BadText = HasEntryThat pages level n (HasBrokenRecord pages r.Text)
BreaksEntry pages level n _ = ⊥

-- the faults of a comparison with entries of page n
abbrev pub IsCompareFault : ℕ → Fault → Type 0
IsCompareFault n ReadFailed = Unit {0}
IsCompareFault n NoMemory = Unit {0}
IsCompareFault n (BadPage m) = m ≡ n
IsCompareFault n (BadChain m) = m ≡ n
IsCompareFault n (BadRecord m) = m ≡ n
IsCompareFault n FloatValue = Unit {0}
IsCompareFault n BadText = Unit {0}
IsCompareFault n _ = ⊥

-- the condition of bytes that the fault of a record of page n says is broken; of memory it says nothing
abbrev pub BreaksRecord : List ℕ → ℕ → Fault → Type 0
BreaksRecord bytes n NoMemory = Unit {0}
BreaksRecord bytes n (BadRecord m) = (m ≡ n) × Breaks r.Bad bytes
BreaksRecord bytes n FloatValue = Breaks r.Float bytes
BreaksRecord bytes n BadText = Breaks r.Text bytes
BreaksRecord bytes n _ = ⊥

-- a page of an index was read: page n of the image
pub record IsViewIn (pages : Pages) (n : ℕ) (view : ViewData) : Type 0 where
  pub is : view ≡ record { at = header_at n; kind = Index; level = view.level; page = pages.page n }
  pub long : length (pages.page n) ≡ pages.usable
