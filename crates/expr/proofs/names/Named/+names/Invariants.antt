-- What is put there already, with what the rest of the list names, is what the whole list names.
use Rattle.std.proofs.Common.{◌≡◌, ◌++◌, drop}
use Rattle.expr.specs.Contract.{trees, arm_trees}
use Rattle.expr.specs.NameView.{names_of_all, names_of_arms}
use Rattle.expr.proofs.names.Named.+names.Given as goal

abbrev pub invariant-push_all-loop-item : goal.invariant-push_all-loop-item
invariant-push_all-loop-item l =
    l.out.items ++ names_of_all l.self (trees (drop l.item-index l.items)) ≡ l.initial.out.items ++ names_of_all l.self (trees l.items)

abbrev pub invariant-push_arms-loop-arm : goal.invariant-push_arms-loop-arm
invariant-push_arms-loop-arm l =
    l.out.items ++ names_of_arms l.self (arm_trees (drop l.arm-index l.arms)) ≡ l.initial.out.items ++ names_of_arms l.self (arm_trees l.arms)
