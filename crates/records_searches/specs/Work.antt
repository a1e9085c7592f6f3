-- How many pages a search asks for. (Database File Format, section 1.6 "B-tree Pages")
use Rattle.std.specs.Prelude.{◌≢◌, ℕ, suc, ◌+◌, ◌*◌, ◌≤◌, List, [], Option, Some, None}
use Rattle.pager.specs.PagerState.{PagerState}
use Rattle.btree_cursor.specs.key_ranges.Ranges.{Range}
use Rattle.schema_tables.specs.TableData.{RowKeyData}
use Rattle.records_searches.specs.Entries.{EntryData, entries_in}
use Rattle.records_searches.specs.declared.depths.SearchDepths.{SearchDepths}

-- A search of a tree with this number of levels below its root was opened and has given m rows, each of which took at most `fetch`
-- pages of its table's tree.
pub data HasSearched (levels fetch : ℕ) (start : PagerState) : ℕ → PagerState → Type 0 where
  opened : (now : PagerState) → now.asked ≤ start.asked + (2 * levels + 1) → HasSearched levels fetch start 0 now
  gave : {m : ℕ} {old : PagerState} (fetched now : PagerState) → HasSearched levels fetch start m old
      → fetched.asked ≤ old.asked + fetch → now.asked ≤ fetched.asked + levels → HasSearched levels fetch start (suc m) now

-- the levels of pages of a tree that has this number below its root
abbrev pub depth_of : ℕ → ℕ
depth_of levels = levels + 1

-- the same of the tree in which the row of an entry is looked up; none where the entry is the row
abbrev pub fetch_of : Option ℕ → ℕ
fetch_of None = 0
fetch_of (Some levels) = depth_of levels

-- of the tree that is searched, and of the table's
abbrev pub depths_of : ℕ → Option ℕ → SearchDepths
depths_of levels table_levels = record { depth = depth_of levels; fetch = fetch_of table_levels }

-- a value is sought itself, and some entry has it
pub record IsForOneKey (range : Range) (entries : List EntryData) : Type 0 where
  pub sought : range.equal ≢ []
  pub there : entries_in range entries ≢ []

-- A search of a table goes straight down to its first row: of one without rowids always, and of one with rowids where the row with the
-- rowid that is sought is there, so that no page is left behind which ends before it.
abbrev pub GoesStraight : RowKeyData → Range → List EntryData → Type 0
GoesStraight (RowKeyData.Rowid at) range entries = IsForOneKey range entries
GoesStraight (RowKeyData.Primary ats) range entries = Unit {0}
