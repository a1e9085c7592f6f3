-- The cells of a table's tree, by ascending rowids.
use Rattle.std.proofs.Common.{⊎_elim, ℕ, ℤ, ◌<◌, ◌<ℤ◌, ◌≤ℤ◌, arith}
use Rattle.std.proofs.lemmas.Int.{ints}
use Rattle.values.specs.declared.fault.Fault.{Fault}
use Rattle.values.specs.declared.fault.Fault.TheVariants.{BadPage, BadOrder, BadDepth}
use Rattle.btree.specs.declared.image.kind.TreeKind.TheVariants.{Table}
use Rattle.btree.specs.declared.image.kind.Level.{Level}
use Rattle.btree.specs.declared.image.kind.Level.TheVariants.{Leaf, Interior}
use Rattle.btree.specs.image.Pages.{Pages}
use Rattle.btree.specs.image.Tree.{IsPageOf, Reaches, HasEntries, count_at}
use Rattle.btree.specs.image.Shape.{HasShape, places_under}
use Rattle.btree.specs.image.Broken.{HasRowid, IsRowOrder, IsBroken}
use Rattle.btree.specs.image.Sound.{IsSoundTable, AreRowsOf, HasRows}
use Rattle.btree.proofs.lemmas.image.ListLemmas.{get_contains, pairs_at}
use Rattle.btree.proofs.lemmas.image.ShapeLemmas.{sound_shape}
use Rattle.btree.proofs.lemmas.image.PlaceLemmas.{sound}
use Rattle.btree.proofs.lemmas.image.OrderLemmas.{AreKeys, KeyBefore, root_rises, root_places}

abbrev pub Below : ℤ → ℤ → Type 0
Below x y = x <ℤ y

abbrev pub AtMost : ℤ → ℤ → Type 0
AtMost x y = x ≤ℤ y

below_below : (x y z : ℤ) → x <ℤ y → y <ℤ z → x <ℤ z
below_below x y z a b = omega (arith, ints)

most_below : (x y z : ℤ) → x ≤ℤ y → y <ℤ z → x <ℤ z
most_below x y z a b = omega (arith, ints)

never_below : (x : ℤ) → x <ℤ x → ⊥
never_below x a = omega (arith, ints)

rowid_of : (pages : Pages) (level : Level) (n i : ℕ) → IsPageOf pages Table level n → i < count_at pages n
    → (rowid : ℤ) × HasRowid pages level n i rowid
rowid_of pages Leaf n i page within = let c = page.cells i within in (c.1.is.rowid, (c.0, c.1.is, c.1.is.has_rowid))
rowid_of pages Interior n i page within = let c = page.cells i within in (c.0, c.1)

pub rowids : (pages : Pages) → AreKeys (HasRowid pages) Below AtMost pages Table
rowids pages = record { after = below_below; after_most = most_below; strict = λ none. absurd none; never = never_below; key_of = rowid_of pages }

pub leaf_place : (pages : Pages) (level : Level) (n : ℕ) → HasEntries Table level → IsPageOf pages Table level n
    → IsPageOf pages Table Leaf n
leaf_place pages Leaf n entries page = page
leaf_place pages Interior n entries page = absurd entries

module _ (pages : Pages) (root : ℕ) where
  pub rows_of : (levels : ℕ) → HasShape pages Table levels root
      → ((n : ℕ) → Reaches pages Table root n → IsRowOrder pages root n)
      → AreRowsOf pages root (places_under pages Table levels root)
  rows_of levels shape order = record {
    cells = root_places (HasRowid pages) Below AtMost pages Table root (rowids pages) order levels shape;
    ascend = λ i j x y a b less get_x get_y key_x key_y.
        let places = places_under pages Table levels root in
        let pairs = root_rises (HasRowid pages) Below AtMost pages Table root (rowids pages) order levels shape in
        let at_x = sound pages Table levels root shape x (get_contains places i x get_x) in
        let at_y = sound pages Table levels root shape y (get_contains places j y get_y) in
        pairs_at (KeyBefore (HasRowid pages) Below pages Table) places pairs i j x y less get_x get_y Leaf Leaf a b
        (leaf_place pages at_x.level x.page at_x.entries at_x.page) at_x.within (leaf_place pages at_y.level y.page at_y.entries at_y.page) at_y.within key_x key_y;
  }

  pub sound_rows : IsSoundTable pages root → HasRows pages root
  sound_rows table =
      let s = sound_shape pages Table root table.tree in
      record { levels = s.levels; few = s.few; shape = s.shape; rows = rows_of s.levels s.shape table.order }

  pub unbroken : IsSoundTable pages root → (fault : Fault) → IsBroken pages root fault → ⊥
  unbroken table (BadPage n) broken = broken.1 (table.tree.each n broken.0)
  unbroken table (BadOrder n) broken = broken.1 (table.order n broken.0)
  unbroken table (BadDepth n) broken = ⊎_elim table.tree.even table.tree.shallow broken.1
  unbroken table fault broken = absurd broken
