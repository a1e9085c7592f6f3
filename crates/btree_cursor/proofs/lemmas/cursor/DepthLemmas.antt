-- The way down the first children of a tree.
use Rattle.std.proofs.Common.{◌≡◌, ℕ, zero, suc, refl, sym, ◌∙◌, subst, arith}
use Rattle.btree.specs.declared.image.kind.TreeKind.{TreeKind}
use Rattle.btree.specs.declared.image.kind.Level.{Level}
use Rattle.btree.specs.declared.image.kind.Level.TheVariants.{Leaf, Interior}
use Rattle.btree.specs.image.Pages.{Pages, IsNumber}
use Rattle.btree.specs.image.Shape.{HasShape}
use Rattle.btree.specs.image.Tree.{HasHeader, IsNamedChild, IsPageOf, child_at}
use Rattle.btree.proofs.PageLemmas.{flag_of-same}

module _ (pages : Pages) (kind : TreeKind) where
  pub shape_level : (height n : ℕ) → HasShape pages kind height n → (level : Level) × IsPageOf pages kind level n
  shape_level zero n shape = (Leaf, shape)
  shape_level (suc height) n shape = (Interior, shape.0)

  -- no level is below a leaf
  pub leaf_height : (height n : ℕ) → HasShape pages kind height n → HasHeader pages kind Leaf n → height ≡ 0
  leaf_height zero n shape header = refl
  leaf_height (suc height) n shape header = let e : Leaf ≡ Interior = flag_of-same kind Leaf Interior (sym header.flag_is ∙ shape.0.header.flag_is) in cc

  -- below an interior page is its first child
  pub record HasFirst (height n : ℕ) : Type 0 where
    pub below : ℕ
    pub height_is : suc below ≡ height
    pub page : IsPageOf pages kind Interior n
    pub number : IsNumber pages (child_at pages n 0)
    pub shape : HasShape pages kind below (child_at pages n 0)

  pub first_below : (height n : ℕ) → HasShape pages kind height n → HasHeader pages kind Interior n → HasFirst height n
  first_below zero n shape header = let e : Interior ≡ Leaf = flag_of-same kind Interior Leaf (sym header.flag_is ∙ shape.header.flag_is) in cc
  first_below (suc height) n shape header =
      let child = shape.1 0 (omega arith) in
      record { below = height; height_is = refl; page = shape.0; number = child.0; shape = child.1 }

  -- below an interior page is each child that its header names
  pub named_below : (height n i m : ℕ) → HasShape pages kind height n → IsNamedChild pages kind n i m → (below : ℕ) × (suc below ≡ height) × HasShape pages kind below m
  named_below zero n i m shape named = let e : Interior ≡ Leaf = flag_of-same kind Interior Leaf (sym named.header.flag_is ∙ shape.header.flag_is) in cc
  named_below (suc height) n i m shape named =
      (height, refl, subst (λ (k : ℕ). HasShape pages kind height k) named.is (shape.1 i named.within).1)
