-- The rows that a cursor over a table or over kept rows still has to give, and the pages that it may ask for on the way.
use Rattle.std.specs.Prelude.{◌≡◌, ◌≤◌, ◌+◌, ◌-◌, ⊤, Bool, IsTrue, ℕ, suc, sum_by, List, [], drop, length, map, slice_get, slice_index_or, Option, None, Some}
use Rattle.values.specs.Row.{Row}
use Rattle.pager.specs.declared.header.Header.{Header}
use Rattle.btree.specs.image.Pages.{Pages}
use Rattle.btree.specs.image.Shape.{most_levels}
use Rattle.btree_cursor.specs.cursor.Left.{steps_left, worth}
use Rattle.schema_tables.specs.TableData.{TableData}
use Rattle.records_tables.specs.Tables.{IsAnyStored}
use Rattle.operators_scan.specs.scan.Coming.{AreUnchained, IsToCome, size_of}
use Rattle.logical_plan.specs.answers.Sources.{SourceData, of_rows, of_table, sources_of}
use Rattle.operators_scan.specs.declared.rows.SourceCursor.{SourceCursor}
use Rattle.operators_scan.specs.declared.rows.SourceCursor.TheVariants.{Stored, Kept}

-- a table is stored with these rows, and its tree has so many pages; where `local` says so, no cell of it has overflow pages
pub record IsStoredWith (pages : Pages) (table : TableData) (local : Bool) (rows : List Row) (size : ℕ) : Type 0 where
  pub stored : IsAnyStored pages table
  pub rows_are : stored.rows ≡ rows
  pub size_is : size_of pages table stored.levels ≡ size
  pub unchained : IsTrue local → AreUnchained pages table stored.levels

-- the same of either: kept rows have no pages
abbrev pub HasRows : Pages → SourceData → Bool → List Row → ℕ → Type 0
HasRows pages (of_table table) local rows size = IsStoredWith pages table local rows size
HasRows pages (of_rows kept) local rows size = (kept ≡ rows) × (size ≡ 0)

-- it has some rows
abbrev pub IsStoredSource : Pages → SourceData → Type 0
IsStoredSource pages (of_table table) = IsAnyStored pages table
IsStoredSource pages (of_rows kept) = ⊤

-- the page at a table's root is one of an image with this header
abbrev pub IsRooted : Header → SourceData → Type 0
IsRooted header (of_table table) = (1 ≤ table.root) × (table.root ≤ header.pages)
IsRooted header (of_rows kept) = ⊤

-- These rows are to come, for which so many pages are yet to be asked for at most. A cursor stands in what it was opened on.
abbrev pub AreToCome : Pages → SourceData → Bool → SourceCursor → List Row → ℕ → Type 0
AreToCome pages (of_table table) local (Stored cursor) rows ahead = IsToCome pages table local cursor rows ahead
AreToCome pages (of_table table) local (Kept at) rows ahead = ⊥
AreToCome pages (of_rows kept) local (Stored cursor) rows ahead = ⊥
AreToCome pages (of_rows kept) local (Kept at) rows ahead = rows ≡ drop at kept

-- ---- a measure that falls with each row, over any source of bytes

abbrev pub source_steps : SourceData → SourceCursor → ℕ
source_steps (of_table table) (Stored cursor) = steps_left cursor
source_steps (of_table table) (Kept at) = 0
source_steps (of_rows kept) (Stored cursor) = 0
source_steps (of_rows kept) (Kept at) = length kept - at

-- a cursor at the first row has fewer
abbrev pub steps_of : SourceData → ℕ
steps_of (of_table table) = worth (suc most_levels)
steps_of (of_rows kept) = length kept + 1

-- and this is enough for each of these
abbrev pub most_steps : List SourceData → ℕ
most_steps sources = sum_by steps_of sources

-- ---- by their places

-- what stands at a place, where something does
abbrev pub source_at : List SourceData → ℕ → SourceData
source_at sources at = slice_index_or sources at (of_rows [])

-- of the source at a place, of which no cursor may be open
abbrev pub steps_at : List SourceData → ℕ → Option SourceCursor → ℕ
steps_at sources at None = 0
steps_at sources at (Some cursor) = source_steps (source_at sources at) cursor

-- ---- what holds of these

abbrev pub OpenedAreFew : Type 0
OpenedAreFew = (sources : List SourceData) (at : ℕ) (source : SourceData) → slice_get sources at ≡ Some source → steps_of source ≤ most_steps sources

-- without kept rows there are the tables alone: what holds of each of them holds of each source
abbrev pub TablesAlone : Type 0
TablesAlone = (tables : List TableData) → sources_of tables [] ≡ map of_table tables
