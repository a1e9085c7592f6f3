-- What is left of the list gives what the whole list gives. Each call is of a part, or of what it was given and nearer to the
-- parts.
use Rattle.std.proofs.Common.{None, map, option_map, ◌≡◌, ◌+◌, ◌*◌, max, drop}
use denote.Param.Weighed.{most}
use Rattle.expr.proofs.tree.Arm.TheLaws as arm
use Rattle.expr.proofs.tree.Expr.TheLaws.{the_size}
use Rattle.std.specs.Option.{option_copied}
use Rattle.values.specs.Datum.{datum_of}
use Rattle.expr.specs.operations.Operations.{any_equal, or3}
use Rattle.expr.specs.Meaning.{run_all, run_first, run_arms}
use Rattle.expr.specs.Contract.{trees, arm_trees}
use Rattle.expr.proofs.evaluation.Evaluator.+eval.Given as goal

abbrev pub invariant-any_equal-loop-item : goal.invariant-any_equal-loop-item
invariant-any_equal-loop-item l =
    option_map (λ vs. or3 l.found (any_equal (datum_of l.x) vs)) (run_all None (map datum_of l.self.row.now) (trees (drop l.item-index l.items)))
    ≡ option_map (any_equal (datum_of l.x)) (run_all None (map datum_of l.self.row.now) (trees l.items))

abbrev pub invariant-choose-loop-arm : goal.invariant-choose-loop-arm
invariant-choose-loop-arm l =
    run_arms None (map datum_of l.self.row.now) (option_map datum_of (option_copied l.operand)) (arm_trees (drop l.arm-index l.arms))
    ≡ run_arms None (map datum_of l.self.row.now) (option_map datum_of (option_copied l.operand)) (arm_trees l.arms)

abbrev pub invariant-first_value-loop-item : goal.invariant-first_value-loop-item
invariant-first_value-loop-item l =
    run_first None (map datum_of l.self.row.now) (trees (drop l.item-index l.items)) ≡ run_first None (map datum_of l.self.row.now) (trees l.items)

-- the deepest of all operands, and how far the call is from them
abbrev pub decreases-compute : goal.decreases-compute
decreases-compute l = 5 * the_size l.e.now

abbrev pub decreases-operand : goal.decreases-operand
decreases-operand l = 5 * the_size l.e.now + 1

abbrev pub decreases-compare_with : goal.decreases-compare_with
decreases-compare_with l = 5 * the_size l.e.now + 2

abbrev pub decreases-and_then : goal.decreases-and_then
decreases-and_then l = 5 * the_size l.right.now + 2

abbrev pub decreases-or_else : goal.decreases-or_else
decreases-or_else l = 5 * the_size l.right.now + 2

abbrev pub decreases-and_at_most : goal.decreases-and_at_most
decreases-and_at_most l = 5 * the_size l.high.now + 3

abbrev pub decreases-any_equal : goal.decreases-any_equal
decreases-any_equal l = 5 * most (λ x. the_size x) l.items.now + 2

abbrev pub decreases-first_value : goal.decreases-first_value
decreases-first_value l = 5 * most (λ x. the_size x) l.items.now + 2

abbrev pub decreases-choose : goal.decreases-choose
decreases-choose l = 5 * most (λ x. arm.the_size x) l.arms.now + 2

abbrev pub decreases-function_of : goal.decreases-function_of
decreases-function_of l = 5 * the_size l.a.now + 2

abbrev pub decreases-operation : goal.decreases-operation
decreases-operation l = 5 * max (the_size l.a.now) (the_size l.b.now) + 3

abbrev pub decreases-operation_of_any : goal.decreases-operation_of_any
decreases-operation_of_any l = 5 * max (the_size l.a.now) (the_size l.b.now) + 2

abbrev pub decreases-joined : goal.decreases-joined
decreases-joined l = 5 * max (the_size l.a.now) (the_size l.b.now) + 2

abbrev pub decreases-comparison_of : goal.decreases-comparison_of
decreases-comparison_of l = 5 * max (the_size l.a.now) (the_size l.b.now) + 3

abbrev pub decreases-comparison_of_any : goal.decreases-comparison_of_any
decreases-comparison_of_any l = 5 * max (the_size l.a.now) (the_size l.b.now) + 2

abbrev pub decreases-is_one : goal.decreases-is_one
decreases-is_one l = 5 * max (the_size l.a.now) (the_size l.b.now) + 2

abbrev pub decreases-conjunction : goal.decreases-conjunction
decreases-conjunction l = 5 * max (the_size l.a.now) (the_size l.b.now) + 3

abbrev pub decreases-disjunction : goal.decreases-disjunction
decreases-disjunction l = 5 * max (the_size l.a.now) (the_size l.b.now) + 3

abbrev pub decreases-null_if : goal.decreases-null_if
decreases-null_if l = 5 * max (the_size l.a.now) (the_size l.b.now) + 2

abbrev pub decreases-likeness : goal.decreases-likeness
decreases-likeness l = 5 * max (the_size l.a.now) (the_size l.b.now) + 2

abbrev pub decreases-between : goal.decreases-between
decreases-between l = 5 * max (the_size l.x.now) (max (the_size l.a.now) (the_size l.b.now)) + 4

abbrev pub decreases-among : goal.decreases-among
decreases-among l = 5 * max (the_size l.x.now) (most (λ x. the_size x) l.items.now) + 3

abbrev pub decreases-member : goal.decreases-member
decreases-member l = 5 * the_size l.x.now + 2

abbrev pub decreases-unanswered : goal.decreases-unanswered
decreases-unanswered l = 5 * the_size l.x.now + 2

abbrev pub decreases-choice : goal.decreases-choice
decreases-choice l = 5 * max (most (λ x. arm.the_size x) l.arms.now) (the_size l.otherwise.now) + 3

abbrev pub decreases-choice_of : goal.decreases-choice_of
decreases-choice_of l = 5 * max (the_size l.x.now) (max (most (λ x. arm.the_size x) l.arms.now) (the_size l.otherwise.now)) + 3
