-- What a search answers. (Database File Format, section 1.6 "B-tree Pages")
use Rattle.std.specs.Prelude.{◌≡◌, ◌⊎◌, ◌+◌, ◌*◌, ◌<◌, ◌≤◌, ℕ, ℤ, suc, Bool, false, Contains, List, None}
use Rattle.std.specs.Ordering.{is_lt}
use Rattle.values.specs.Datum.{Datum}
use Rattle.values.specs.declared.fault.Fault.{Fault}
use Rattle.values.specs.declared.fault.Fault.TheVariants.{BadChain, BadRecord, FloatValue, BadText}
use Rattle.pager.specs.PagerState.{PagerState}
use Rattle.pager.specs.Calls.{IsReadFault}
use Rattle.btree.specs.declared.image.kind.TreeKind.TheVariants.{Table, Index}
use Rattle.btree.specs.declared.image.kind.TreeKind.{TreeKind}
use Rattle.btree.specs.declared.image.kind.Level.{Level}
use Rattle.btree.specs.declared.image.kind.Level.TheVariants.{Leaf}
use Rattle.btree.specs.image.Broken.{BlamesMet, HasRowid, IsRowOrder}
use Rattle.btree.specs.image.Cell.{CellData}
use Rattle.btree.specs.image.Entries.{IsAtPlace, IsEntryOrder}
use Rattle.btree.specs.image.Layout.{header_at}
use Rattle.btree.specs.image.Pages.{Pages, WhereSteady, pages_seen}
use Rattle.btree.specs.image.Search.{IsSplit, row_before}
use Rattle.btree.specs.image.Shape.{IsTreeAt, most_levels, places_under, size_under}
use Rattle.btree.specs.image.Tree.{Place, HasHeader, IsMetAt, IsPageOf, Reaches, count_at}
use Rattle.btree.specs.Bytes.{IsEntryCell}
use Rattle.btree_cursor.specs.key_ranges.Ranges.{key_cmp}
use Rattle.btree_cursor.specs.declared.index_entries.columns.IndexKey.{IndexKey}
use Rattle.btree_cursor.specs.index_entries.Entries.{BreaksEntry, AreValuesOf}
use Rattle.btree_cursor.specs.index_entries.Sought.{comes_before}
use Rattle.btree_cursor.specs.declared.cursor.cursor.Cursor.{Cursor}
use Rattle.btree_cursor.specs.cursor.Calls.{IsCursorFault}
use Rattle.btree_cursor.specs.cursor.Left.{steps_left, worth}
use Rattle.btree_cursor.specs.cursor.Listing.{IsAt, IsEnded}
use Rattle.btree_cursor.specs.cursor.Way.{HasCome, IsOver}

-- a table's tree with so many levels below its root, whose rows a search finds by their rowids
pub record IsSearchable (pages : Pages) (levels root : ℕ) : Type 0 where
  pub tree : IsTreeAt pages Table levels root
  pub order : (n : ℕ) → Reaches pages Table root n → IsRowOrder pages root n

-- the cells that come before what is sought stand in front of the others, to which the search leads
pub record IsSoughtBy {K : Type 0} (HasKey : Level → ℕ → ℕ → K → Type 0) (before : K → Bool) (pages : Pages) (kind : TreeKind) (levels root : ℕ)
    (IsLeading : List Place → Type 0) : Type 0 where
  pub front : List Place
  pub rest : List Place
  pub split : IsSplit HasKey before pages kind (places_under pages kind levels root) front rest
  pub leads : IsLeading rest

-- the same of a table's rows, by their rowids
abbrev pub IsSought : Pages → ℕ → ℕ → (ℤ → Bool) → (List Place → Type 0) → Type 0
IsSought pages levels root before IsLeading = IsSoughtBy (HasRowid pages) before pages Table levels root IsLeading

-- the table has a row with this rowid
pub record HasRowWith (pages : Pages) (levels root : ℕ) (rowid : ℤ) : Type 0 where
  pub place : Place
  pub is_there : Contains (places_under pages Table levels root) place
  pub has : HasRowid pages Leaf place.page place.index rowid

-- A search by a rowid, or by what is behind it, has led to a cursor. Over a steady source and a table in order it stands at
-- the first row that doesn't come before; it has asked for no more pages than two ways down to a leaf have, and than one
-- where a row with the rowid is there.
pub record IsRowSought (old new : PagerState) (root : ℕ) (behind : Bool) (rowid : ℤ) (cursor : Cursor) : Type 0 where
  pub kind_is : cursor.kind ≡ Table
  pub root_is : cursor.root ≡ root
  pub seeks : WhereSteady old (λ pages. (levels : ℕ) → IsSearchable pages levels root
      → IsSought pages levels root (row_before behind rowid)
      (λ places. IsAt pages Table levels cursor places new.asked (old.asked + size_under pages levels root))
      × (new.asked ≤ old.asked + (2 * levels + 1)))
  pub direct : WhereSteady old (λ pages. (levels : ℕ) → IsSearchable pages levels root → behind ≡ false
      → HasRowWith pages levels root rowid → new.asked ≤ old.asked + (levels + 1))
  pub come : WhereSteady old (λ pages. HasCome pages cursor)
  pub few : steps_left cursor < worth (suc most_levels)
  pub stands : ¬ IsEnded cursor
  pub over : IsOver (pages_seen old) cursor

-- Why it hasn't. Over a steady source the fault is one of reading where the table is in order, and of any tree it has its
-- condition.
pub record IsSeekFault (old : PagerState) (root : ℕ) (fault : Fault) : Type 0 where
  pub only : IsCursorFault root fault
  pub sound : WhereSteady old (λ pages. (levels : ℕ) → IsSearchable pages levels root → IsReadFault fault)
  pub cause : WhereSteady old (λ pages. IsReadFault fault ⊎ BlamesMet pages Table root fault)

-- the order of the entries of an index by the values that they have at their places
abbrev pub entry_order : List Bool → (Place → List Datum) → Place → Place → Bool
entry_order descends values x y = is_lt (key_cmp descends (values x) (values y))

-- an index's tree with so many levels below its root, whose entries have these values and ascend by them
pub record IsSearchableIndex (pages : Pages) (descends : List Bool) (values : Place → List Datum) (levels root : ℕ) : Type 0 where
  pub tree : IsTreeAt pages Index levels root
  pub entries : (level : Level) (n : ℕ) → Reaches pages Index root n → IsPageOf pages Index level n → AreValuesOf pages values level n
  pub order : (n : ℕ) → Reaches pages Index root n → IsEntryOrder pages (entry_order descends values) root n

-- the entries that come before what is sought stand in front of the others, to which the search leads
abbrev pub AreEntriesSought : Pages → IndexKey → (Place → List Datum) → ℕ → ℕ → (List Place → Type 0) → Type 0
AreEntriesSought pages key values levels root IsLeading =
    IsSoughtBy IsAtPlace (λ place. comes_before key (values place)) pages Index levels root IsLeading

-- the faults of a search of an index: also those of an entry that can't be read
abbrev pub IsIndexFault : ℕ → Fault → Type 0
IsIndexFault root (BadChain _) = Unit {0}
IsIndexFault root (BadRecord _) = Unit {0}
IsIndexFault root FloatValue = Unit {0}
IsIndexFault root BadText = Unit {0}
IsIndexFault root fault = IsCursorFault root fault

-- what a search blames of an entry on a page that it has met
abbrev pub BlamesEntry : Pages → ℕ → Fault → Type 0
BlamesEntry pages root fault =
    (depth page : ℕ) × (level : Level) × IsMetAt pages Index root depth page × HasHeader pages Index level page × BreaksEntry pages level page fault

-- no entry of page n has overflow pages
abbrev pub IsUnchainedPage : Pages → Level → ℕ → Type 0
IsUnchainedPage pages level n = (i : ℕ) (cell : CellData) → i < count_at pages n
    → IsEntryCell (header_at n) pages.size level (pages.page n) i cell → cell.payload.overflow ≡ None

-- nor one of any page that is met in the tree of an index
abbrev pub IsUnchainedIndex : Pages → ℕ → Type 0
IsUnchainedIndex pages root = (depth n : ℕ) (level : Level) → IsMetAt pages Index root depth n → HasHeader pages Index level n
    → IsUnchainedPage pages level n

-- A search of an index has led to a cursor. Over a steady source and an index in order it stands at the first entry that
-- doesn't come before what is sought, and it has asked for no more tree pages than one way down to a leaf has.
pub record IsEntrySought (old new : PagerState) (root : ℕ) (key : IndexKey) (cursor : Cursor) : Type 0 where
  pub kind_is : cursor.kind ≡ Index
  pub root_is : cursor.root ≡ root
  pub seeks : WhereSteady old (λ pages. (levels : ℕ) (values : Place → List Datum) → IsSearchableIndex pages key.descends.now values levels root
      → AreEntriesSought pages key values levels root
      (λ places. IsAt pages Index levels cursor places new.asked (old.asked + size_under pages levels root))
      × (new.asked ≤ old.asked + (levels + 1)))
  pub come : WhereSteady old (λ pages. HasCome pages cursor)
  pub few : steps_left cursor < worth (suc most_levels)
  pub stands : ¬ IsEnded cursor
  pub over : IsOver (pages_seen old) cursor

-- Why it hasn't. Over a steady source the fault is one of reading where the index is in order, and of any tree it has its
-- condition.
pub record IsEntrySeekFault (old : PagerState) (root : ℕ) (descends : List Bool) (fault : Fault) : Type 0 where
  pub only : IsIndexFault root fault
  pub sound : WhereSteady old (λ pages. (levels : ℕ) (values : Place → List Datum) → IsSearchableIndex pages descends values levels root
      → IsReadFault fault)
  pub cause : WhereSteady old (λ pages. IsReadFault fault ⊎ (BlamesMet pages Index root fault ⊎ BlamesEntry pages root fault))
