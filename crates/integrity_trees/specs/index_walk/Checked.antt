-- What the check of the tree of an index finds. (Database File Format, section 1.6 "B-tree Pages", and section 2.3
-- "Representation Of SQL Indices")
use Rattle.std.specs.Prelude.{◌⊎◌, ◌<◌, ℕ, All, Bool, List, map}
use Rattle.std.specs.Ordering.{is_lt}
use Rattle.values.specs.Datum.{Datum}
use Rattle.values.specs.declared.fault.Fault.{Fault}
use Rattle.values.specs.declared.fault.Fault.TheVariants.{ReadFailed, NoMemory, BadPage, BadChain, PageUse, BadOrder, BadDepth, BadRecord, FloatValue, BadText}
use Rattle.pager.specs.Calls.{IsReadFault}
use Rattle.pager.specs.PagerState.{PagerState}
use Rattle.btree.specs.declared.image.kind.TreeKind.TheVariants.{Index}
use Rattle.btree.specs.declared.image.kind.Level.{Level}
use Rattle.btree.specs.image.Entries.{IsEntryOrder}
use Rattle.btree.specs.image.Pages.{Pages, WhereSteady}
use Rattle.btree.specs.image.Shape.{HasShape, most_levels, places_under}
use Rattle.btree.specs.image.Sound.{IsSoundTree}
use Rattle.btree.specs.image.Tree.{IsPageOf, IsPlaceOf, Place, Reaches}
use Rattle.btree.specs.image.Use.{TreeData}
use Rattle.btree_cursor.specs.index_entries.Entries.{AreValuesOf, HasValues}
use Rattle.btree_cursor.specs.key_ranges.Ranges.{key_cmp}
use Rattle.btree_cursor.specs.key_ranges.Runs.{Ascend}
use Rattle.integrity_trees.specs.declared.tree_walk.counts.TreeCounts.{TreeCounts}
use Rattle.integrity_trees.specs.tree_walk.Counts.{AreCounts}
use Rattle.integrity_trees.specs.tree_walk.Used.{IsTreeTwice}
use Rattle.integrity_trees.specs.declared.index_walk.tree.EntryWidths.{EntryWidths}
use Rattle.integrity_trees.specs.index_walk.Widths.{IsOfWidth, key_of}
use Rattle.integrity_trees.specs.index_walk.Last.{IsIndexOrder}
use Rattle.integrity_trees.specs.index_walk.Broken.{IsBrokenIndex}

-- the tree of an index that has this root
abbrev pub index_tree : ℕ → TreeData
index_tree root = record { kind = Index; root = root }

-- the entry at a place of an index has these values, as many as it may have
pub record HoldsValues (pages : Pages) (widths : EntryWidths) (place : Place) (values : List Datum) : Type 0 where
  pub level : Level
  pub page : IsPageOf pages Index level place.page
  pub has : HasValues pages level place.page place.index values
  pub width_is : IsOfWidth widths values

abbrev pub HoldsEntry : Pages → EntryWidths → Place → Type 0
HoldsEntry pages widths place = (values : List Datum) × HoldsValues pages widths place values

-- The tree of an index is sound and in order, and each of its entries has as many values as it may have; and these are its
-- levels, entries and pages.
pub record IsCheckedIndex (pages : Pages) (widths : EntryWidths) (descends : List Bool) (root : ℕ) (counts : TreeCounts) : Type 0 where
  pub few : counts.levels < most_levels
  pub sound : IsSoundTree pages Index root
  pub shape : HasShape pages Index counts.levels root
  pub entries : All (HoldsEntry pages widths) (places_under pages Index counts.levels root)
  pub order : (n : ℕ) → Reaches pages Index root n → IsIndexOrder pages widths descends root n
  pub counts_are : AreCounts pages Index counts.levels root counts.cells counts.pages

-- The entries of an index have these values at their places. Each page is in the order of entries that these give, by which a
-- search goes; and from left to right each comes before all later ones, so that what lies between two cuts is one run. Their keys
-- alone ascend as well, so that no two entries have one key.
pub record HasEntryValues (pages : Pages) (widths : EntryWidths) (descends : List Bool) (root : ℕ) : Type 0 where
  pub values : Place → List Datum
  pub entries : (level : Level) (n : ℕ) → Reaches pages Index root n → IsPageOf pages Index level n → AreValuesOf pages values level n
  pub long : (place : Place) → IsPlaceOf pages Index root place → IsOfWidth widths (values place)
  pub order : (n : ℕ) → Reaches pages Index root n
      → IsEntryOrder pages (λ x y. is_lt (key_cmp descends (values x) (values y))) root n
  pub ascend : (levels : ℕ) → HasShape pages Index levels root → Ascend descends (map values (places_under pages Index levels root))
  pub keys : (levels : ℕ) → HasShape pages Index levels root
      → Ascend descends (map (λ place. key_of widths (values place)) (places_under pages Index levels root))

-- the faults of the check
abbrev pub IsIndexWalkFault : Fault → Type 0
IsIndexWalkFault ReadFailed = Unit {0}
IsIndexWalkFault NoMemory = Unit {0}
IsIndexWalkFault (BadPage _) = Unit {0}
IsIndexWalkFault (BadChain _) = Unit {0}
IsIndexWalkFault (PageUse _) = Unit {0}
IsIndexWalkFault (BadOrder _) = Unit {0}
IsIndexWalkFault (BadDepth _) = Unit {0}
IsIndexWalkFault (BadRecord _) = Unit {0}
IsIndexWalkFault FloatValue = Unit {0}
IsIndexWalkFault BadText = Unit {0}
IsIndexWalkFault _ = ⊥

-- the tree of an index was checked
pub record HasCheckedIndex (pager : PagerState) (widths : EntryWidths) (descends : List Bool) (root : ℕ) (counts : TreeCounts) : Type 0 where
  pub few : counts.levels < most_levels
  pub tree : WhereSteady pager (λ pages. IsCheckedIndex pages widths descends root counts)

-- why it was not, where these were the marks of pages that are used
pub record IsIndexFailure (pager : PagerState) (widths : EntryWidths) (descends : List Bool) (root : ℕ) (marks : List Bool)
    (fault : Fault) : Type 0 where
  pub only : IsIndexWalkFault fault
  pub cause : WhereSteady pager (λ pages. IsReadFault fault ⊎ IsBrokenIndex pages widths descends root fault
      ⊎ IsTreeTwice pages (index_tree root) marks fault)
