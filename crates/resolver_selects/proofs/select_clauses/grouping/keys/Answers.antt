-- The list is gone along from the left.
use Rattle.std.proofs.Common.{◌≡◌, ◌+◌, ◌++◌, drop, map, refl, subst, sym}
use Rattle.std.proofs.lemmas.Result.{err_from_is_err_and}
use Rattle.resolver_exprs.proofs.lemmas.expression_names.OutcomeLemmas.{all_done, begun, one_fails, one_more}
use Rattle.semantics_names.specs.Outcome.{also}
use Rattle.semantics_names.specs.Statement.{by_of, group_term}
use Rattle.expr.specs.View.{term}
use Rattle.sql_reader_grammar.specs.statement_trees.TreeView.{expr_of}
use Rattle.sql_reader_syntax.specs.ExprTree.{trees_of}
use Rattle.resolver_selects.proofs.select_clauses.grouping.keys.Goals as goal

pub loop-e-init : goal.loop-e-init
loop-e-init g c =
    let answers = g.I.InnerQueries.answers c.args.inner.now in
    let all = by_of answers c.args.scope.now (trees_of (map expr_of c.args.groups.now)) in
    subst (λ done. all ≡ also (λ rest. map term done ++ rest) all) (sym c.new-keys.ensures.items) (begun all)

pub returns-in_err-next : goal.returns-in_err-next
returns-in_err-next g c =
    let answers = g.I.InnerQueries.answers c.args.inner.now in
    let p = err_from_is_err_and c.from_residual.result c.from_residual.ensures.1 in
    rw (p.1, p.2) (one_fails term (λ x. group_term answers c.args.scope.now (expr_of x)) (λ xs. by_of answers c.args.scope.now (trees_of (map expr_of xs))) refl
    (λ x xs. refl) c.args.groups.now c.loop-e.e-index c.e-item.result c.loop-e.keys.items c.in_err-next.field-0.0
    (by_of answers c.args.scope.now (trees_of (map expr_of c.args.groups.now))) c.loop-e-test.true c.e-item.is c.loop-e.invariant c.in_err-next.ensures)

pub loop-e-preserved : goal.loop-e-preserved
loop-e-preserved g c =
    let answers = g.I.InnerQueries.answers c.args.inner.now in
    let all = by_of answers c.args.scope.now (trees_of (map expr_of c.args.groups.now)) in
    subst (λ done. all ≡ also (λ rest. map term done ++ rest) (by_of answers c.args.scope.now (trees_of (map expr_of (drop (c.loop-e.e-index + 1) c.args.groups.now)))))
    (sym c.in_ok-push.ensures.items)
    (one_more term (λ x. group_term answers c.args.scope.now (expr_of x)) (λ xs. by_of answers c.args.scope.now (trees_of (map expr_of xs))) refl
    (λ x xs. refl) c.args.groups.now c.loop-e.e-index c.e-item.result c.loop-e.keys.items c.in_ok-next.next all
    c.loop-e-test.true c.e-item.is c.in_ok-next.ensures c.loop-e.invariant)

pub returns : goal.returns
returns g c =
    let answers = g.I.InnerQueries.answers c.args.inner.now in
    all_done term (λ x. group_term answers c.args.scope.now (expr_of x)) (λ xs. by_of answers c.args.scope.now (trees_of (map expr_of xs))) refl
    (λ x xs. refl) c.args.groups.now c.loop-e.e-index c.loop-e.keys.items (by_of answers c.args.scope.now (trees_of (map expr_of c.args.groups.now))) c.loop-e-test.false c.loop-e.invariant
