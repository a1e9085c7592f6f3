-- The list is gone along from the left.
use Rattle.std.proofs.Common.{◌≡◌, ◌+◌, ◌++◌, drop, map, refl, subst, sym}
use Rattle.std.proofs.lemmas.Result.{err_from_is_err_and}
use Rattle.resolver_exprs.proofs.lemmas.expression_names.OutcomeLemmas.{all_done, begun, one_fails, one_more}
use Rattle.semantics_names.specs.Outcome.{also}
use Rattle.sql_reader_grammar.specs.Reading.{definitions_of}
use Rattle.semantics_names.specs.Statement as spec
use Rattle.sql_reader_grammar.specs.statement_trees.TreeView.{definition_of}
use Rattle.resolver_selects.proofs.lemmas.select_clauses.ClauseLemmas.{window_by_window}
use Rattle.resolver_selects.specs.select_clauses.Definitions.{named_window}
use Rattle.resolver_selects.specs.window_names.DefinedView.{defined_of}
use Rattle.resolver_selects.proofs.select_clauses.definitions.defined_windows.Goals as goal

pub loop-definition-init : goal.loop-definition-init
loop-definition-init g c =
    let answers = g.I.InnerQueries.answers c.args.inner.now in
    let all = spec.defined_of answers (g.P.Place.meaning c.args.place.now) (definitions_of (map definition_of c.args.windows.now)) in
    subst (λ done. all ≡ also (λ rest. map defined_of done ++ rest) all) (sym c.new-defined.ensures.items) (begun all)

pub returns-in_err-next : goal.returns-in_err-next
returns-in_err-next g c =
    let answers = g.I.InnerQueries.answers c.args.inner.now in
    let p = err_from_is_err_and c.from_residual.result c.from_residual.ensures.1 in
    rw (p.1, p.2) (one_fails defined_of (λ x. named_window answers (g.P.Place.meaning c.args.place.now) (definition_of x)) (λ xs. spec.defined_of answers (g.P.Place.meaning c.args.place.now) (definitions_of (map definition_of xs))) refl
    (window_by_window answers (g.P.Place.meaning c.args.place.now)) c.args.windows.now c.loop-definition.definition-index c.definition-item.result c.loop-definition.defined.items c.in_err-next.field-0.0
    (spec.defined_of answers (g.P.Place.meaning c.args.place.now) (definitions_of (map definition_of c.args.windows.now))) c.loop-definition-test.true c.definition-item.is c.loop-definition.invariant c.in_err-next.ensures)

pub loop-definition-preserved : goal.loop-definition-preserved
loop-definition-preserved g c =
    let answers = g.I.InnerQueries.answers c.args.inner.now in
    let all = spec.defined_of answers (g.P.Place.meaning c.args.place.now) (definitions_of (map definition_of c.args.windows.now)) in
    subst (λ done. all ≡ also (λ rest. map defined_of done ++ rest) (spec.defined_of answers (g.P.Place.meaning c.args.place.now) (definitions_of (map definition_of (drop (c.loop-definition.definition-index + 1) c.args.windows.now)))))
    (sym c.in_ok-push.ensures.items)
    (one_more defined_of (λ x. named_window answers (g.P.Place.meaning c.args.place.now) (definition_of x)) (λ xs. spec.defined_of answers (g.P.Place.meaning c.args.place.now) (definitions_of (map definition_of xs))) refl
    (window_by_window answers (g.P.Place.meaning c.args.place.now)) c.args.windows.now c.loop-definition.definition-index c.definition-item.result c.loop-definition.defined.items c.in_ok-next.next all
    c.loop-definition-test.true c.definition-item.is c.in_ok-next.ensures c.loop-definition.invariant)

pub returns : goal.returns
returns g c =
    let answers = g.I.InnerQueries.answers c.args.inner.now in
    all_done defined_of (λ x. named_window answers (g.P.Place.meaning c.args.place.now) (definition_of x)) (λ xs. spec.defined_of answers (g.P.Place.meaning c.args.place.now) (definitions_of (map definition_of xs))) refl
    (window_by_window answers (g.P.Place.meaning c.args.place.now)) c.args.windows.now c.loop-definition.definition-index c.loop-definition.defined.items (spec.defined_of answers (g.P.Place.meaning c.args.place.now) (definitions_of (map definition_of c.args.windows.now))) c.loop-definition-test.false c.loop-definition.invariant
