-- The terms so far, before those of what is left, are the terms of all. Each call is of a part, or of what it was given and
-- nearer to the parts.
use Rattle.std.proofs.Common.{map, ◌≡◌, ◌++◌, ◌+◌, ◌*◌, max, drop}
use denote.Param.Weighed.{most}
use Rattle.sql_reader_grammar.proofs.statement_trees.expressions.Arm.TheLaws as arm
use Rattle.sql_reader_grammar.proofs.statement_trees.expressions.Expr.TheLaws.{the_size}
use Rattle.sql_reader_grammar.specs.declared.statement_trees.expressions.Expr.TheShapes.{weighed-Expr-Case-0}
use Rattle.expr.specs.View.{arm_terms, term}
use Rattle.sql_reader_grammar.specs.statement_trees.TreeView.{arm_of, expr_of}
use Rattle.sql_reader_syntax.specs.ExprTree.{arms_of, trees_of}
use Rattle.semantics_names.specs.Expression as spec
use Rattle.semantics_names.specs.Outcome.{also}
use Rattle.resolver_exprs.proofs.expression_names.terms.+names.Given as goal

abbrev pub invariant-all_arms-loop-item : goal.invariant-all_arms-loop-item
invariant-all_arms-loop-item g l =
    spec.arms_of (g.I.InnerQueries.answers l.inner) (g.P.Place.meaning l.place) (arms_of (map arm_of l.items))
    ≡ also (λ rest. map arm_terms l.arms.items ++ rest)
    (spec.arms_of (g.I.InnerQueries.answers l.inner) (g.P.Place.meaning l.place) (arms_of (map arm_of (drop l.item-index l.items))))

abbrev pub invariant-all_terms-loop-item : goal.invariant-all_terms-loop-item
invariant-all_terms-loop-item g l =
    spec.terms_of (g.I.InnerQueries.answers l.inner) (g.P.Place.meaning l.place) (trees_of (map expr_of l.items))
    ≡ also (λ rest. map term l.terms.items ++ rest)
    (spec.terms_of (g.I.InnerQueries.answers l.inner) (g.P.Place.meaning l.place) (trees_of (map expr_of (drop l.item-index l.items))))

-- the deepest of all operands, and how far the call is from them
abbrev pub decreases-pair : goal.decreases-pair
decreases-pair g l = 5 * max (the_size l.x.now) (the_size l.y.now) + 2

abbrev pub decreases-binary : goal.decreases-binary
decreases-binary g l = 5 * max (the_size l.x.now) (the_size l.y.now) + 2

abbrev pub decreases-between : goal.decreases-between
decreases-between g l = 5 * max (the_size l.x.now) (max (the_size l.low.now) (the_size l.high.now)) + 3

abbrev pub decreases-among : goal.decreases-among
decreases-among g l = 5 * max (the_size l.x.now) (most (λ x. the_size x) l.items.now) + 3

abbrev pub decreases-all_arms : goal.decreases-all_arms
decreases-all_arms g l = 5 * most (λ x. arm.the_size x) l.items.now + 3

abbrev pub decreases-all_terms : goal.decreases-all_terms
decreases-all_terms g l = 5 * goal.size-all_terms g l + 2

abbrev pub decreases-case : goal.decreases-case
decreases-case g l =
    5 * max (weighed-Expr-Case-0.weight _ (λ x. the_size x) l.operand.now)
    (max (most (λ x. arm.the_size x) l.arms.now) (weighed-Expr-Case-0.weight _ (λ x. the_size x) l.otherwise.now)) + 4

abbrev pub decreases-maybe_term : goal.decreases-maybe_term
decreases-maybe_term g l = 5 * weighed-Expr-Case-0.weight _ (λ x. the_size x) l.tree.now + 2

abbrev pub decreases-of_parts : goal.decreases-of_parts
decreases-of_parts g l = 5 * goal.size-of_parts g l

abbrev pub decreases-term : goal.decreases-term
decreases-term g l = 5 * goal.size-term g l + 1
