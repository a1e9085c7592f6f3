-- The entries of an index tree: all its cells, those of interior pages too. Here an entry is told by its place, and a
-- test tells which of two comes first, whatever collations it goes by. (Database File Format, section 1.6 "B-tree Pages")
use Rattle.std.specs.Prelude.{◌≡◌, ℕ, ◌<◌, List, slice_get, Some, Bool, IsTrue}
use Rattle.btree.specs.declared.image.kind.TreeKind.TheVariants.{Index}
use Rattle.btree.specs.declared.image.kind.Level.{Level}
use Rattle.btree.specs.image.Pages.{Pages}
use Rattle.btree.specs.image.Tree.{Place, ArePlacesOf}
use Rattle.btree.specs.image.Shape.{place_at}
use Rattle.btree.specs.image.Broken.{IsInOrder}

-- no entry comes before itself, nor before one that comes before it
pub record IsStrictOrder (before : Place → Place → Bool) : Type 0 where
  pub never : (x : Place) → IsTrue (before x x) → ⊥
  pub after : (x y z : Place) → IsTrue (before x y) → IsTrue (before y z) → IsTrue (before x z)

abbrev pub IsAtPlace : Level → ℕ → ℕ → Place → Type 0
IsAtPlace level n i place = place ≡ place_at n i

-- no two entries are alike, so that the bounds are strict on both sides
abbrev pub IsEntryOrder : Pages → (Place → Place → Bool) → ℕ → ℕ → Type 0
IsEntryOrder pages before root n =
    IsInOrder IsAtPlace (λ x y. IsTrue (before x y)) (λ x y. IsTrue (before x y)) pages Index root n

-- the list has exactly the entries of an index tree, each once, in their order
pub record AreEntriesOf (pages : Pages) (before : Place → Place → Bool) (root : ℕ) (places : List Place) : Type 0 where
  pub cells : ArePlacesOf pages Index root places
  pub ascend : (i j : ℕ) (x y : Place) → i < j → slice_get places i ≡ Some x → slice_get places j ≡ Some y
      → IsTrue (before x y)
