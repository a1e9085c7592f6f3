-- What a walk over the tree of an index knows of an entry, of a page, and from a page down.
use Rattle.std.specs.Prelude.{◌≡◌, ◌≢◌, ◌⊎◌, ◌<◌, ◌≤◌, ℕ, Bool, List, length, Option, None}
use Rattle.std.specs.List.{AllZip}
use Rattle.values.specs.Datum.{Datum}
use Rattle.values.specs.declared.fault.Fault.{Fault}
use Rattle.values.specs.declared.fault.Fault.TheVariants.{BadOrder, BadRecord}
use Rattle.pager.specs.Calls.{IsReadFault}
use Rattle.records.specs.Record.{IsRecord}
use Rattle.btree.specs.declared.image.kind.TreeKind.TheVariants.{Index}
use Rattle.btree.specs.declared.image.kind.Level.{Level}
use Rattle.btree.specs.declared.image.kind.Level.TheVariants.{Leaf}
use Rattle.btree.specs.image.Cell.{CellData}
use Rattle.btree.specs.image.Chain.{HasBytes}
use Rattle.btree.specs.image.Layout.{cell_count}
use Rattle.btree.specs.image.Pages.{Pages}
use Rattle.btree.specs.image.Shape.{HasShape, IsFilled, own_places, places_in, places_under}
use Rattle.btree.specs.image.Tree.{IsPageOf, Place, count_at}
use Rattle.btree_cursor.specs.index_entries.Entries.{BreaksRecord, HasValues, IsEntryOn, IsViewIn}
use Rattle.btree.specs.Bytes.{IsEntryCell}
use Rattle.btree.specs.ViewData.{ViewData}
use Rattle.btree.specs.page_use.Links.{IsPayloadTwice, MarksPayload}
use Rattle.integrity_trees.specs.declared.tree_walk.counts.TreeCounts.{TreeCounts}
use Rattle.integrity_trees.specs.tree_walk.Cells.{IsTwiceOn}
use Rattle.integrity_trees.specs.tree_walk.Counts.{AreCounts}
use Rattle.integrity_trees.specs.tree_walk.Used.{IsUnderTwice, MarksUnder}
use Rattle.integrity_trees.specs.declared.index_walk.tree.EntryWidths.{EntryWidths}
use Rattle.integrity_trees.specs.declared.entry_prefixes.counting.Prefixes.{Prefixes}
use Rattle.integrity_trees.specs.index_walk.Widths.{IsOfWidth}
use Rattle.integrity_trees.specs.index_walk.Broken.{BreaksIndexEntry, IsBrokenIndex}
use Rattle.integrity_trees.specs.index_walk.Checked.{HoldsValues, index_tree}
use Rattle.integrity_trees.specs.index_walk.Last.{AscendFrom, CountsRows, Follows, HasLast, IsBefore, IsIndexOrder, IsLastUnder, LastData, blamed_at, last_of}

-- the bytes are a record of as many values as an entry may have
abbrev pub IsRecordOf : EntryWidths → List ℕ → Type 0
IsRecordOf widths bytes = (values : List Datum) × IsRecord bytes values × (IsOfWidth widths values)

-- why the bytes of an entry of page n are none; of memory it says nothing
abbrev pub BreaksWidth : EntryWidths → List ℕ → ℕ → Fault → Type 0
BreaksWidth widths bytes n fault =
    BreaksRecord bytes n fault ⊎ ((fault ≡ BadRecord n) × ((values : List Datum) × IsRecord bytes values × (¬ IsOfWidth widths values)))

-- entry i of page n has as many values as it may have, these bytes are its record, and the links of its chain got their marks
pub record IsEntryRead (pages : Pages) (widths : EntryWidths) (level : Level) (n i : ℕ) (bytes : List ℕ) (old new : List Bool) : Type 0 where
  pub cell : CellData
  pub is : IsEntryOn pages level n i cell
  pub whole : HasBytes pages cell.payload bytes
  pub values : List Datum
  pub record_is : IsRecord bytes values
  pub width_is : IsOfWidth widths values
  pub marks : MarksPayload pages cell.payload old new

-- and it comes behind the last entry, and is the last one now
pub record IsEntryWalked (pages : Pages) (widths : EntryWidths) (descends : List Bool) (level : Level) (n i : ℕ)
    (old new : List Bool) (last next : LastData) : Type 0 where
  pub bytes : List ℕ
  pub read : IsEntryRead pages widths level n i bytes old new
  pub follows : Follows widths descends last bytes n next

-- entry i of page n doesn't come behind the last entry
pub record IsDisordered (pages : Pages) (widths : EntryWidths) (descends : List Bool) (level : Level) (n i : ℕ)
    (last : LastData) : Type 0 where
  pub values : List Datum
  pub has : HasValues pages level n i values
  pub some : last.page ≢ None
  pub not : (x : List Datum) → IsRecord last.bytes x → IsOfWidth widths x → ¬ IsBefore widths descends x values

-- the page that a fault names is used twice, and a link of entry i of page n is one of its uses
pub record IsEntryTwice (pages : Pages) (level : Level) (n i : ℕ) (marks : List Bool) (fault : Fault) : Type 0 where
  pub cell : CellData
  pub is : IsEntryOn pages level n i cell
  pub twice : IsPayloadTwice pages cell.payload marks fault

-- why entry i of page n isn't such an entry
abbrev pub IsEntryCause : Pages → EntryWidths → Level → ℕ → ℕ → List Bool → Fault → Type 0
IsEntryCause pages widths level n i marks fault =
    IsReadFault fault ⊎ BreaksIndexEntry pages widths level n fault ⊎ IsEntryTwice pages level n i marks fault

-- and why a walk stops there
abbrev pub IsEntryStop : Pages → EntryWidths → List Bool → Level → ℕ → ℕ → LastData → List Bool → Fault → Type 0
IsEntryStop pages widths descends level n i last marks fault = IsEntryCause pages widths level n i marks fault
    ⊎ ((fault ≡ BadOrder (blamed_at level n last.page)) × IsDisordered pages widths descends level n i last)

-- page n of a tree with this root was read: it is a page of an index, with an entry where it is a leaf below the root
pub record IsIndexPage (pages : Pages) (root n : ℕ) (view : ViewData) : Type 0 where
  pub seen : IsViewIn pages n view
  pub page : IsPageOf pages Index view.level n
  pub filled : view.level ≡ Leaf → n ≢ root → 0 < count_at pages n

-- The entries at these places have values that ascend, behind the last ones, and were counted behind these, and that of the last
-- place is the last one now.
pub record IsEntryRun (pages : Pages) (widths : EntryWidths) (descends : List Bool) (places : List Place)
    (last : Option (List Datum)) (old : Prefixes) (next : LastData) : Type 0 where
  pub rows : List (List Datum)
  pub each : AllZip (HoldsValues pages widths) places rows
  pub ascend : AscendFrom widths descends last rows
  pub ends : HasLast widths next (last_of last rows)
  pub counts : length old.distinct.items ≤ widths.key → CountsRows old next.prefixes last rows

abbrev pub IsEntryRunFrom : Pages → EntryWidths → List Bool → List Place → LastData → LastData → Type 0
IsEntryRunFrom pages widths descends places last next =
    (values : Option (List Datum)) → HasLast widths last values → IsEntryRun pages widths descends places values last.prefixes next

-- Page n of a tree with this root was walked, with all under it.
pub record IsWalked (pages : Pages) (widths : EntryWidths) (descends : List Bool) (root n : ℕ) (counts : TreeCounts)
    (old new : List Bool) (last next : LastData) : Type 0 where
  pub shape : HasShape pages Index counts.levels n
  pub filled : n ≢ root → IsFilled pages counts.levels n
  pub run : IsEntryRunFrom pages widths descends (places_under pages Index counts.levels n) last next
  pub ends : IsFilled pages counts.levels n → IsLastUnder pages widths next n
  pub counts_are : AreCounts pages Index counts.levels n counts.cells counts.pages
  pub marks : MarksUnder pages (index_tree root) counts.levels n old new

-- why it was not
abbrev pub IsWalkCause : Pages → EntryWidths → List Bool → ℕ → ℕ → List Bool → Fault → Type 0
IsWalkCause pages widths descends root n marks fault =
    IsReadFault fault ⊎ IsBrokenIndex pages widths descends root fault ⊎ IsUnderTwice pages (index_tree root) n marks fault

-- The entry behind child i of page n, which the last child has none of, is such an entry, and its links got their marks.
pub record AreOwnWalked (pages : Pages) (widths : EntryWidths) (descends : List Bool) (level : Level) (n i own : ℕ)
    (old new : List Bool) (last next : LastData) : Type 0 where
  pub own_is : own ≡ length (own_places pages n i)
  pub some : i < count_at pages n → IsEntryWalked pages widths descends level n i old new last next
  pub none : count_at pages n ≤ i → (new ≡ old) × (next ≡ last)

-- the entries of a leaf, which is page n, were walked
pub record IsLeafWalked (pages : Pages) (widths : EntryWidths) (descends : List Bool) (n : ℕ) (last next : LastData) : Type 0 where
  pub run : IsEntryRunFrom pages widths descends (places_in pages n) last next
  pub ends : 0 < count_at pages n → IsLastUnder pages widths next n

-- why they weren't
abbrev pub IsLeafCause : Pages → EntryWidths → List Bool → ℕ → ℕ → List Bool → Fault → Type 0
IsLeafCause pages widths descends root n marks fault =
    IsReadFault fault ⊎ BreaksIndexEntry pages widths Leaf n fault ⊎ IsTwiceOn pages (index_tree root) Leaf n marks fault
    ⊎ ((fault ≡ BadOrder n) × (¬ IsIndexOrder pages widths descends root n))

-- each entry of a page is there, with a payload of at most so many bytes
abbrev pub HasAllEntries : ViewData → ℕ → Type 0
HasAllEntries view most = (i : ℕ) → i < cell_count view.at view.page
    → (cell : CellData) × IsEntryCell view.at most view.level view.page i cell
