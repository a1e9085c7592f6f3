use Rattle.std.proofs.Common.{◌≡◌, length, rules, subst, sym}
use Rattle.resolver_bodies.specs.BodyView.{body_of}
use Rattle.resolver_copies.specs.materialized_bodies.FlatView.{lists_of}
use Rattle.semantics_rewrites.specs.materialized_queries.FlatWith.{materialized_with}
use Rattle.semantics_rewrites.specs.materialized_queries.Parts.{plain}
use Rattle.semantics.specs.Typed.{IsTyped}
use Rattle.logical_plan_queries.specs.Served.{HaveServedForm}
use Rattle.logical_plan_queries.specs.select_plans.Columns.{HaveColumns}
use Rattle.logical_plan.specs.answers.Sources.{sources_of}
use Rattle.resolver_bodies.specs.NamedView.{query_data}
use Rattle.operators_runs.proofs.lemmas.inner_rows.FlatLemmas.{plan_found}
use Rattle.operators_runs.proofs.inner_rows.computing.materialized_plan.Goals as goal

pub returns-clause-cause : goal.returns-clause-cause
returns-clause-cause c = λ pages on said runs are.
    let of = body_of c.args.body.now in
    let inner = c.args.inner.now in
    let tables = c.args.tables.now in
    let flat : query_data c.in_ok-query.query ≡ materialized_with (lists_of inner.answers.items) (length tables) (plain of) = search rules in
    let kept : c.as_slice-2.result.now ≡ inner.kept.items = search rules in
    plan_found pages tables on said of runs inner.kept.items (lists_of inner.answers.items) are c.plan_over.result
    (λ catalog have typed served. c.plan_over.ensures.typed catalog (subst (λ kept. HaveColumns catalog (sources_of tables kept)) (sym kept) have)
    (subst (λ query. IsTyped catalog query) (sym flat) typed) (subst (λ query. HaveServedForm query.body) (sym flat) served))
