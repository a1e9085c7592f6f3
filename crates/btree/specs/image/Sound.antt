-- Trees none of whose pages is broken: they have a shape, and their cells stand in order.
-- (Database File Format, section 1.6 "B-tree Pages")
use Rattle.std.specs.Prelude.{◌≡◌, ℕ, ℤ, ◌<◌, ◌<ℤ◌, List, slice_get, Some}
use Rattle.btree.specs.declared.image.kind.TreeKind.{TreeKind}
use Rattle.btree.specs.declared.image.kind.TreeKind.TheVariants.{Table}
use Rattle.btree.specs.declared.image.kind.Level.TheVariants.{Leaf}
use Rattle.btree.specs.image.Pages.{Pages}
use Rattle.btree.specs.image.Tree.{Place, IsChild, Reaches, ArePlacesOf}
use Rattle.btree.specs.image.Shape.{HasShape, most_levels, places_under}
use Rattle.btree.specs.image.Broken.{IsSound, HasRowid, IsRowOrder, HasUnevenLeaves, IsTooDeep}

-- every page is what it must be, no two leaves stand at different depths, and no page is too deep
pub record IsSoundTree (pages : Pages) (kind : TreeKind) (root : ℕ) : Type 0 where
  pub each : (n : ℕ) → Reaches pages kind root n → IsSound pages kind root n
  pub even : ¬ HasUnevenLeaves pages kind root
  pub shallow : ¬ IsTooDeep pages kind root

-- a table's tree is in order as well: no condition on a table tree is broken
pub record IsSoundTable (pages : Pages) (root : ℕ) : Type 0 where
  pub tree : IsSoundTree pages Table root
  pub order : (n : ℕ) → Reaches pages Table root n → IsRowOrder pages root n

-- the tree has a shape, of so few levels that no page is too deep
pub record HasSomeShape (pages : Pages) (kind : TreeKind) (root : ℕ) : Type 0 where
  pub levels : ℕ
  pub few : levels < most_levels
  pub shape : HasShape pages kind levels root

-- from left to right, the rowids of a table's cells ascend
abbrev pub RowidsAscend : Pages → List Place → Type 0
RowidsAscend pages places =
    (i j : ℕ) (x y : Place) (a b : ℤ) → i < j → slice_get places i ≡ Some x → slice_get places j ≡ Some y
    → HasRowid pages Leaf x.page x.index a → HasRowid pages Leaf y.page y.index b → a <ℤ b

-- the list has exactly the cells of a table's tree, each once, by ascending rowids
pub record AreRowsOf (pages : Pages) (root : ℕ) (places : List Place) : Type 0 where
  pub cells : ArePlacesOf pages Table root places
  pub ascend : RowidsAscend pages places

-- a table whose tree has a shape, so that the cells under its root from left to right are its rows in order
pub record HasRows (pages : Pages) (root : ℕ) : Type 0 where
  pub levels : ℕ
  pub few : levels < most_levels
  pub shape : HasShape pages Table levels root
  pub rows : AreRowsOf pages root (places_under pages Table levels root)

-- a page is a child of one page of the tree at most, and that at one place
abbrev pub IsNamedOnce : Pages → TreeKind → ℕ → ℕ → Type 0
IsNamedOnce pages kind root m =
    (p q i j : ℕ) → Reaches pages kind root p → Reaches pages kind root q → IsChild pages kind p i m
    → IsChild pages kind q j m → (p ≡ q) × (i ≡ j)
