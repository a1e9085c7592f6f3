use Rattle.std.proofs.Common.{◌≡◌, ◌∙◌, [], ap, length, rules, subst, sym}
use Rattle.std.proofs.lemmas.Result.{err_from_is_err_and}
use Rattle.resolver_copies.specs.materialized_bodies.FlatView.{lists_of}
use Rattle.semantics_rewrites.specs.materialized_queries.FlatWith.{materialized_with}
use Rattle.btree.specs.image.Pages.{pages_seen}
use Rattle.semantics.specs.Typed.{IsTyped}
use Rattle.logical_plan_queries.specs.Answers.{IsPlanFor, planned_data}
use Rattle.logical_plan_queries.specs.Served.{HaveServedForm}
use Rattle.logical_plan_queries.specs.select_plans.Columns.{HaveColumns}
use Rattle.logical_plan.specs.answers.Sources.{sources_of}
use Rattle.resolver_bodies.specs.NamedView.{query_data}
use Rattle.schema_tables.specs.ColumnTypes.{column_types}
use Rattle.operators_runs.specs.inner_rows.InnerView.{inner_data}
use Rattle.operators_runs.proofs.lemmas.inner_rows.ComputedLemmas.{cause_whole}
use Rattle.operators_runs.proofs.lemmas.inner_rows.FlatLemmas.{plan_is_over, whole_found}
use Rattle.operators_runs.proofs.lemmas.inner_rows.PushLemmas.{rows_held}
use Rattle.operators_runs.proofs.lemmas.inner_rows.RunnableLemmas.{computable_parts}
use Rattle.operators_runs.proofs.inner_rows.queries.kept_plan.Goals as goal

pub returns-in_err-add_body-clause-plan : goal.returns-in_err-add_body-clause-plan
returns-in_err-add_body-clause-plan g c = λ steady on said typed runs.
    let query = query_data c.args.query.now in
    let p = err_from_is_err_and c.from_residual.result c.from_residual.ensures.1 in
    rw (p.1, p.2)
    (cause_whole on query c.in_err-add_body.field-0.0
    (c.in_err-add_body.ensures.rows steady on said (computable_parts (column_types c.args.tables.now) query.body (runs, (typed.0, typed.1.body)))))

pub returns-in_err-planned-clause-plan : goal.returns-in_err-planned-clause-plan
returns-in_err-planned-clause-plan g c = λ steady on said typed runs.
    let query = query_data c.args.query.now in
    let tables = c.args.tables.now in
    let inner = c.add_body.new.inner in
    let p = err_from_is_err_and c.from_residual-in_err-planned.result c.from_residual-in_err-planned.ensures.1 in
    let e = c.in_err-planned.field-0.0 in
    let are = c.in_ok-add_body.ensures.rows steady on said (computable_parts (column_types tables) query.body (runs, (typed.0, typed.1.body))) [] []
    (rows_held on.w on.db c.new-inner.result.kept.items c.new-inner.result.answers.items c.new-inner.ensures.kept c.new-inner.ensures.answers) in
    let answers : c.as_slice.result.now ≡ inner.answers.items = search rules in
    let flat : query_data c.in_ok-flat.flat ≡ materialized_with (lists_of inner.answers.items) (length tables) query = rw answers at c.in_ok-flat.ensures in
    let kept : c.as_slice-2.result.now ≡ inner.kept.items = search rules in
    rw (p.1, p.2)
    (whole_found (pages_seen c.args.pager.now.state) tables on said query typed runs inner.kept.items (lists_of inner.answers.items) are e
    (λ catalog have typed served. c.in_err-planned.ensures.typed catalog (subst (λ kept. HaveColumns catalog (sources_of tables kept)) (sym kept) have)
    (subst (λ query. IsTyped catalog query) (sym flat) typed) (subst (λ query. HaveServedForm query.body) (sym flat) served)))

pub returns-clause-plan : goal.returns-clause-plan
returns-clause-plan g c = λ steady on said typed runs.
    let query = query_data c.args.query.now in
    let tables = c.args.tables.now in
    let inner = c.add_body.new.inner in
    let are = c.in_ok-add_body.ensures.rows steady on said (computable_parts (column_types tables) query.body (runs, (typed.0, typed.1.body))) [] []
    (rows_held on.w on.db c.new-inner.result.kept.items c.new-inner.result.answers.items c.new-inner.ensures.kept c.new-inner.ensures.answers) in
    let answers : c.as_slice.result.now ≡ inner.answers.items = search rules in
    let flat : query_data c.in_ok-flat.flat ≡ materialized_with (lists_of inner.answers.items) (length tables) query =
    c.in_ok-flat.ensures ∙ ap (λ answers. materialized_with (lists_of answers) (length tables) query) answers in
    plan_is_over (pages_seen c.args.pager.now.state) tables on said query (inner_data inner) are typed (planned_data c.in_ok-planned.planned)
    (subst (λ query. IsPlanFor query (planned_data c.in_ok-planned.planned)) flat c.in_ok-planned.ensures.plan)

pub returns-clause-pages : goal.returns-clause-pages
returns-clause-pages g c = λ steady on said typed runs.
    let query = query_data c.args.query.now in
    c.in_ok-add_body.ensures.pages steady on said (computable_parts (column_types c.args.tables.now) query.body (runs, (typed.0, typed.1.body)))
