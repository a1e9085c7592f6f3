-- The copies so far are those of what stands before this one.
use Rattle.std.proofs.Common.{◌≡◌, map, take}
use Rattle.expr.specs.CopyView.{copied}
use Rattle.expr.specs.View.{arm_terms, term}
use Rattle.expr.proofs.CopyLemmas.{copied_arm}
use Rattle.expr.proofs.copies.Leaves.+copy.Given as goal

abbrev pub invariant-copy_all-loop-item : goal.invariant-copy_all-loop-item
invariant-copy_all-loop-item l = map term l.copies.items ≡ map (copied l.self) (map term (take l.item-index l.items))

abbrev pub invariant-copy_arms-loop-arm : goal.invariant-copy_arms-loop-arm
invariant-copy_arms-loop-arm l = map arm_terms l.copies.items ≡ map (copied_arm l.self) (map arm_terms (take l.arm-index l.arms))
