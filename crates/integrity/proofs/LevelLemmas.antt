-- A tree has one number of levels.
use Rattle.std.proofs.Common.{◌≡◌, ℕ, zero, suc, refl, ap, arith}
use Rattle.btree.specs.declared.image.kind.TreeKind.{TreeKind}
use Rattle.btree.specs.declared.image.kind.Level.TheVariants.{Leaf, Interior}
use Rattle.btree.specs.image.Pages.{Pages}
use Rattle.btree.specs.image.Shape.{HasShape}
use Rattle.btree.specs.image.Tree.{child_at}
use Rattle.btree.proofs.KindLemmas.{one_page}

leaf_or : Leaf ≡ Interior → ⊥
leaf_or e = cc

-- a page has one number of levels below it
pub one_levels : (pages : Pages) (kind : TreeKind) (a b n : ℕ) → HasShape pages kind a n → HasShape pages kind b n → a ≡ b
one_levels pages kind zero zero n one other = refl
one_levels pages kind zero (suc b) n one other = absurd (leaf_or (one_page pages n kind Leaf kind Interior one other.0).1)
one_levels pages kind (suc a) zero n one other = absurd (leaf_or (one_page pages n kind Leaf kind Interior other one.0).1)
one_levels pages kind (suc a) (suc b) n one other =
    ap suc (one_levels pages kind a b (child_at pages n 0) (one.1 0 (omega arith)).1 (other.1 0 (omega arith)).1)
