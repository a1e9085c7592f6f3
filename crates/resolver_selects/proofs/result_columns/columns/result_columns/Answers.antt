-- The list is gone along from the left.
use Rattle.std.proofs.Common.{◌≡◌, ◌+◌, ◌++◌, drop, map, option_map, refl, subst, sym}
use Rattle.std.proofs.lemmas.Result.{err_from_is_err_and}
use Rattle.sql_reader_grammar.specs.Reading.{results_of}
use Rattle.semantics_names.specs.Outcome.{also}
use Rattle.semantics_names.specs.Statement as spec
use Rattle.expr.specs.View.{term}
use Rattle.resolver_selects.proofs.lemmas.result_columns.AppendLemmas.{more_done, one_fails}
use Rattle.resolver_selects.specs.result_columns.Inputs.{input_of}
use Rattle.resolver_exprs.specs.scopes.ResultView.{result_of}
use Rattle.sql_reader_grammar.specs.statement_trees.TreeView as trees
use Rattle.resolver_selects.proofs.result_columns.columns.result_columns.Goals as goal

pub returns-in_err-next : goal.returns-in_err-next
returns-in_err-next g c =
    let answers = g.I.InnerQueries.answers c.args.inner.now in
    let says = g.P.Place.meaning c.args.place.now in
    let input = input_of (option_map (λ terms. map term terms.now) c.args.by) in
    let p = err_from_is_err_and c.from_residual.result c.from_residual.ensures.1 in
    rw (p.1, p.2) (one_fails result_of (λ x. spec.results_of answers c.args.scope.now input says (trees.result_of x))
    (λ xs. spec.all_results answers c.args.scope.now input says (results_of (map trees.result_of xs))) refl (λ x xs. refl)
    c.args.columns.now c.loop-column.column-index c.column-item.result c.loop-column.results.items c.in_err-next.field-0.0
    (spec.all_results answers c.args.scope.now input says (results_of (map trees.result_of c.args.columns.now)))
    c.loop-column-test.true c.column-item.is c.loop-column.invariant c.in_err-next.ensures)

pub loop-column-preserved : goal.loop-column-preserved
loop-column-preserved g c =
    let answers = g.I.InnerQueries.answers c.args.inner.now in
    let says = g.P.Place.meaning c.args.place.now in
    let input = input_of (option_map (λ terms. map term terms.now) c.args.by) in
    let all = spec.all_results answers c.args.scope.now input says (results_of (map trees.result_of c.args.columns.now)) in
    subst (λ done. all ≡ also (λ rest. map result_of done ++ rest)
    (spec.all_results answers c.args.scope.now input says (results_of (map trees.result_of (drop (c.loop-column.column-index + 1) c.args.columns.now)))))
    (sym c.in_ok-append.ensures.items)
    (more_done result_of (λ x. spec.results_of answers c.args.scope.now input says (trees.result_of x))
    (λ xs. spec.all_results answers c.args.scope.now input says (results_of (map trees.result_of xs))) refl (λ x xs. refl)
    c.args.columns.now c.loop-column.column-index c.column-item.result c.loop-column.results.items c.in_ok-next.next.items all
    c.loop-column-test.true c.column-item.is c.in_ok-next.ensures c.loop-column.invariant)
