-- One cell of a tree that is found by its whole key. (Database File Format, section 1.6 "B-tree Pages")
use Rattle.std.specs.Prelude.{◌≡◌, ◌+◌, ◌<◌, ◌≤◌, ℕ, ℤ, Bool, List, [], ◌∷◌, Contains, find, option_map, IfSome, MatchOption, Option, Some}
use Rattle.std.specs.Ordering.{is_eq}
use Rattle.values.specs.Datum.{Datum}
use Rattle.pager.specs.PagerState.{PagerState}
use Rattle.btree.specs.declared.image.kind.TreeKind.{TreeKind}
use Rattle.btree.specs.declared.image.kind.TreeKind.TheVariants.{Table, Index}
use Rattle.btree.specs.declared.image.kind.Level.TheVariants.{Leaf}
use Rattle.btree.specs.image.Broken.{HasRowid}
use Rattle.btree.specs.image.Cell.{CellData}
use Rattle.btree.specs.image.Pages.{Pages, WhereSteady}
use Rattle.btree.specs.image.Shape.{IsTreeAt, most_levels, place_at, places_under}
use Rattle.btree.specs.image.Tree.{Place, IsPageOf}
use Rattle.btree_cursor.specs.key_ranges.Ranges.{key_cmp}
use Rattle.btree_cursor.specs.declared.cursor.cursor.Frame.{Frame}
use Rattle.btree_cursor.specs.declared.cursor.found.Found.{Found}
use Rattle.btree_cursor.specs.cursor.Held.{HasEntryHere}
use Rattle.btree_cursor.specs.cursor.Rest.{Holds}
use Rattle.btree_cursor.specs.cursor.Search.{HasRowWith, IsSearchable, IsSearchableIndex}
use Rattle.btree_cursor.specs.cursor.Way.{StandsOn}

-- No more pages were asked for than one way down to a leaf has: at most as many as a tree may have levels and, over a steady
-- source, as this tree has.
pub record AsksOneWay (old new : PagerState) (kind : TreeKind) (root : ℕ) : Type 0 where
  pub most : new.asked ≤ old.asked + most_levels
  pub levels : WhereSteady old (λ pages. (levels : ℕ) → IsTreeAt pages kind levels root → new.asked ≤ old.asked + (levels + 1))

-- where a cell that was found stands
abbrev pub place_found : Found → Place
place_found found = place_at found.frame.number found.frame.at

-- it stands on a page that is met in the tree with this root, and goes by the sizes that these pages have
pub record IsFoundIn (pages : Pages) (kind : TreeKind) (root : ℕ) (found : Found) : Type 0 where
  pub kind_is : found.kind ≡ kind
  pub stands : StandsOn pages kind root found.frame
  pub usable : pages.usable ≡ found.usable
  pub most : pages.size ≡ found.most

-- ---- a row by its rowid

-- the cell here is the table's row with this rowid
pub record IsRowWith (pages : Pages) (levels root : ℕ) (rowid : ℤ) (place : Place) : Type 0 where
  pub is_there : Contains (places_under pages Table levels root) place
  pub has : HasRowid pages Leaf place.page place.index rowid

-- A search for the row with a rowid has ended. Over a steady source and a table in order it has found this row, and none
-- where the table has none with this rowid; of any tree it has come down from the root. Over any source the cell that was
-- found has this rowid.
pub record IsRowFound (old : PagerState) (root : ℕ) (rowid : ℤ) (found : Option Found) : Type 0 where
  pub finds : WhereSteady old (λ pages. (levels : ℕ) → IsSearchable pages levels root
      → MatchOption found (¬ HasRowWith pages levels root rowid) (λ it. IsRowWith pages levels root rowid (place_found it)))
  pub come : WhereSteady old (λ pages. IfSome found (IsFoundIn pages Table root))
  pub has : IfSome found (λ it. (cell : CellData) → HasEntryHere it.kind it.usable it.most it.frame cell → cell.rowid ≡ Some rowid)

-- The leaf to which a rowid leads, and the first cell there that doesn't come before it: where the table has the row, it is
-- this cell.
pub record IsLeafFor (pages : Pages) (levels root : ℕ) (rowid : ℤ) (leaf : Frame) : Type 0 where
  pub page : IsPageOf pages Table Leaf leaf.number
  pub is_there : leaf.at < leaf.count → Contains (places_under pages Table levels root) (place_at leaf.number leaf.at)
  pub only : HasRowWith pages levels root rowid → (leaf.at < leaf.count) × HasRowid pages Leaf leaf.number leaf.at rowid

-- ---- an entry of an index by its key

-- the first columns of an entry have the values of a key
abbrev pub agrees : List Bool → List Datum → List Datum → Bool
agrees descends key entry = is_eq (key_cmp descends key entry)

-- A search for the entry with a key has ended. Over a steady source and an index in order it has found the first entry that
-- agrees with the key, wherever it stands, and none where none does: where the key is whole, the entry with this key. Of any
-- tree it has come down from the root.
pub record IsEntryFound (old : PagerState) (root : ℕ) (descends : List Bool) (key : List Datum) (found : Option Found) : Type 0 where
  pub finds : WhereSteady old (λ pages. (levels : ℕ) (values : Place → List Datum) → IsSearchableIndex pages descends values levels root
      → option_map place_found found ≡ find (λ place. agrees descends key (values place)) (places_under pages Index levels root))
  pub come : WhereSteady old (λ pages. IfSome found (IsFoundIn pages Index root))

-- the first of these places is that of the cell where a frame stands, on a page that it holds
pub record IsFirstOf (pages : Pages) (places : List Place) (frame : Frame) : Type 0 where
  pub later : List Place
  pub places_is : places ≡ place_at frame.number frame.at ∷ later
  pub holds : Holds pages frame
  pub within : frame.at < frame.count

abbrev pub IsFirst : Pages → List Place → Option Frame → Type 0
IsFirst pages places first = MatchOption first (places ≡ []) (IsFirstOf pages places)
