-- The entries that a search still has to give. (The SQLite Query Optimizer Overview, "WHERE Clause Analysis")
use Rattle.std.specs.Prelude.{◌≡◌, ◌⊎◌, ℕ, true, false, All, Contains, List, [], ◌∷◌, Option, None, Some}
use Rattle.std.specs.List.{AllZip}
use Rattle.values.specs.Datum.{Datum}
use Rattle.values.specs.Row.{Row}
use Rattle.values.specs.declared.fault.Fault.{Fault}
use Rattle.values.specs.declared.fault.Fault.TheVariants.{Changed}
use Rattle.pager.specs.Calls.{IsReadFault}
use Rattle.btree.specs.declared.image.kind.TreeKind.TheVariants.{Index}
use Rattle.btree.specs.image.Cell.{CellData}
use Rattle.btree.specs.image.Pages.{Pages}
use Rattle.btree.specs.image.Shape.{places_under}
use Rattle.btree.specs.image.Tree.{IsEntryAt, Place}
use Rattle.btree_cursor.specs.declared.cursor.cursor.Cursor.{Cursor}
use Rattle.btree_cursor.specs.declared.cursor.found.Found.{Found}
use Rattle.btree_cursor.specs.cursor.Found.{IsFoundIn, place_found}
use Rattle.btree_cursor.specs.cursor.Listing.{IsAt}
use Rattle.btree_cursor.specs.cursor.Search.{IsUnchainedIndex}
use Rattle.btree_cursor.specs.key_ranges.Ranges.{Range}
use Rattle.btree_cursor.specs.key_ranges.Runs.{take_while}
use Rattle.schema_tables.specs.TableData.{TableData}
use Rattle.records_tables.specs.Tables.{IsAnyRow, StoresAnyRow, kind_of}
use Rattle.records_searches.specs.Entries.{EntryData, IsEntryIn, SearchedData, kind_in, root_in}
use Rattle.records_searches.specs.Meets.{meets_range}

-- the faults of a search: those of reading, and a tree that has changed since it was checked
abbrev pub IsSearchFault : Fault → Type 0
IsSearchFault fault = IsReadFault fault ⊎ (fault ≡ Changed)

-- the entries from the first on that meet a range, up to one that doesn't
abbrev pub run_of : Range → List EntryData → List EntryData
run_of range entries = take_while (λ entry. meets_range range entry.values) entries

-- the cells of the tree that is searched, which has this number of levels below its root, from left to right
abbrev pub places_in : SearchedData → Pages → ℕ → List Place
places_in searched pages levels = places_under pages (kind_in searched) levels (root_in searched)

-- no cell of it has an overflow page
abbrev pub HasNoChains : SearchedData → Pages → ℕ → Type 0
HasNoChains searched pages levels =
    All (λ place. (cell : CellData) → IsEntryAt pages (kind_in searched) place cell → cell.payload.overflow ≡ None) (places_in searched pages levels)

-- the same of a table without rowids: none has one on a page that is met in its tree
abbrev pub HasLocalKeys : Pages → TableData → Type 0
HasLocalKeys pages table = kind_of table.key ≡ Index → IsUnchainedIndex pages table.root

-- These entries are to come of a search of a tree with this number of levels below its root: the one at the cursor's position and those
-- after it, up to the first that doesn't meet the range.
pub record AreToCome (searched : SearchedData) (pages : Pages) (levels : ℕ) (range : Range) (cursor : Cursor) (entries : List EntryData) : Type 0 where
  pub places : List Place
  pub all : List EntryData
  pub asked : ℕ
  pub budget : ℕ
  pub at : IsAt pages (kind_in searched) levels cursor places asked budget
  pub within : All (Contains (places_in searched pages levels)) places
  pub each : AllZip (IsEntryIn searched pages) places all
  pub are : entries ≡ run_of range all

-- the same where no cursor was opened, since nothing can meet the range
abbrev pub AreOpened : SearchedData → Pages → ℕ → Range → Option Cursor → List EntryData → Type 0
AreOpened searched pages levels range None entries = entries ≡ []
AreOpened searched pages levels range (Some cursor) entries = AreToCome searched pages levels range cursor entries

-- a cell is that of the first row to come, or there is none
abbrev pub GivesCell : Pages → TableData → List EntryData → Option CellData → Type 0
GivesCell pages table entries None = entries ≡ []
GivesCell pages table entries (Some cell) =
    (first : EntryData) × (later : List EntryData) × (entries ≡ first ∷ later) × IsAnyRow pages table cell first.row

-- what was found holds the cell of a row of a table
pub record HoldsRowOf (pages : Pages) (table : TableData) (found : Found) (row : Row) : Type 0 where
  pub is_in : IsFoundIn pages (kind_of table.key) table.root found
  pub stores : StoresAnyRow pages table (place_found found) row

-- an entry with these values leads to a row: it is found where the entry meets a range
abbrev pub LeadsToIf : Range → Pages → TableData → List Datum → Row → Option Found → Type 0
LeadsToIf range pages table values row None = meets_range range values ≡ false
LeadsToIf range pages table values row (Some found) = (meets_range range values ≡ true) × HoldsRowOf pages table found row

-- the same of a cell that was looked up
abbrev pub GivesFound : Pages → TableData → List EntryData → Option Found → Type 0
GivesFound pages table entries None = entries ≡ []
GivesFound pages table entries (Some found) =
    (first : EntryData) × (later : List EntryData) × (entries ≡ first ∷ later) × HoldsRowOf pages table found first.row
