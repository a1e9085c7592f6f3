-- A page is of one kind and of one level.
use Rattle.std.proofs.Common.{◌≡◌, ◌∙◌, ℕ, refl, sym}
use Rattle.btree.specs.declared.image.kind.TreeKind.{TreeKind}
use Rattle.btree.specs.declared.image.kind.TreeKind.TheVariants.{Table, Index}
use Rattle.btree.specs.declared.image.kind.Level.{Level}
use Rattle.btree.specs.declared.image.kind.Level.TheVariants.{Leaf, Interior}
use Rattle.btree.specs.image.Layout.{flag_of}
use Rattle.btree.specs.image.Pages.{Pages}
use Rattle.btree.specs.image.Tree.{IsPageOf}

leaf_flag : (kind : TreeKind) (level : Level) → flag_of Table Leaf ≡ flag_of kind level → (kind ≡ Table) × (level ≡ Leaf)
leaf_flag Table Leaf e = (refl, refl)
leaf_flag Table Interior e = let f : ◌≡◌ {A = ℕ} 13 5 = e in absurd cc
leaf_flag Index Leaf e = let f : ◌≡◌ {A = ℕ} 13 10 = e in absurd cc
leaf_flag Index Interior e = let f : ◌≡◌ {A = ℕ} 13 2 = e in absurd cc

interior_flag : (kind : TreeKind) (level : Level) → flag_of Table Interior ≡ flag_of kind level → (kind ≡ Table) × (level ≡ Interior)
interior_flag Table Leaf e = let f : ◌≡◌ {A = ℕ} 5 13 = e in absurd cc
interior_flag Table Interior e = (refl, refl)
interior_flag Index Leaf e = let f : ◌≡◌ {A = ℕ} 5 10 = e in absurd cc
interior_flag Index Interior e = let f : ◌≡◌ {A = ℕ} 5 2 = e in absurd cc

module _ (pages : Pages) (n : ℕ) (kind : TreeKind) (level : Level) where
  pub only_leaf : IsPageOf pages Table Leaf n → IsPageOf pages kind level n → (kind ≡ Table) × (level ≡ Leaf)
  only_leaf leaf other = leaf_flag kind level (sym leaf.header.flag_is ∙ other.header.flag_is)
