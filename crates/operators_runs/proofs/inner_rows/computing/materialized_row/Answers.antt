use Rattle.std.proofs.Common.{◌≡◌, OnOk, rules, subst}
use Rattle.std.specs.Result.{MatchResult}
use Rattle.std.proofs.lemmas.Result.{err_from_is_err_and}
use Rattle.resolver_bodies.specs.BodyView.{body_of}
use Rattle.resolver_copies.specs.materialized_bodies.FlatView.{lists_of}
use Rattle.btree.specs.image.Pages.{pages_seen}
use Rattle.operators_loops.specs.Basis.{AreStored, Basis}
use Rattle.logical_plan_queries.specs.Answers.{planned_data, work_of}
use Rattle.operators_runs.specs.execution.Given.{IsRowCause}
use Rattle.operators_scan.specs.scan.Coming.{Asks}
use Rattle.values.specs.Row.{rows_data}
use Rattle.logical_plan.specs.answers.Sources.{sources_of}
use Rattle.operators_runs.specs.inner_rows.Over.{BeginsAnswer}
use Rattle.operators_runs.proofs.lemmas.inner_rows.AskedLemmas.{plan_asks}
use Rattle.operators_runs.proofs.lemmas.inner_rows.FlatLemmas.{row_given, rows_asked}
use Rattle.operators_runs.proofs.lemmas.inner_rows.KeptLemmas.{kept_rooted}
use Rattle.operators_runs.proofs.inner_rows.computing.materialized_row.Goals as goal

pub planned_row-requires-clause-roots : goal.planned_row-requires-clause-roots
planned_row-requires-clause-roots g c =
    rw c.new-sources.ensures (kept_rooted c.args.pager.now.state.header c.args.tables.now c.as_slice.result.now c.requires.roots)

pub returns-in_err-planned-clause-rows : goal.returns-in_err-planned-clause-rows
returns-in_err-planned-clause-rows g c = λ steady on said runs are.
    let p = err_from_is_err_and c.from_residual.result c.from_residual.ensures.1 in
    rw (p.1, p.2) (c.in_err-planned.ensures.cause (pages_seen c.args.pager.now.state) on said runs are)

pub returns-clause-rows : goal.returns-clause-rows
returns-clause-rows g c = λ steady on said runs are.
    let of = body_of c.args.body.now in
    let inner = c.args.inner.now in
    let tables = c.args.tables.now in
    let planned = planned_data c.in_ok-planned.planned in
    let over : c.new-sources.result ≡ sources_of tables inner.kept.items = search rules in
    row_given (pages_seen c.args.pager.now.state) tables on said of runs inner.kept.items (lists_of inner.answers.items) are planned c.in_ok-planned.ensures.plan c.planned_row.result
    (subst (λ sources. (on : Basis) → AreStored (pages_seen c.args.pager.now.state) sources on
    → MatchResult c.planned_row.result (λ rows. BeginsAnswer on planned (rows_data rows.items)) (IsRowCause on planned)) over (c.planned_row.ensures.rows steady))

pub returns-clause-pages : goal.returns-clause-pages
returns-clause-pages g c = λ steady on said runs are.
    let of = body_of c.args.body.now in
    let inner = c.args.inner.now in
    let tables = c.args.tables.now in
    let planned = planned_data c.in_ok-planned.planned in
    let pages = pages_seen c.args.pager.now.state in
    let start = c.args.pager.now.state in
    let now = c.planned_row.new.pager.state in
    let over : c.new-sources.result ≡ sources_of tables inner.kept.items = search rules in
    plan_asks pages tables on said of inner.kept.items planned
    (rows_asked pages tables on said of runs inner.kept.items (lists_of inner.answers.items) are planned c.in_ok-planned.ensures.plan)
    start now c.planned_row.result
    (subst (λ sources. (on : Basis) → AreStored pages sources on
    → OnOk c.planned_row.result (Asks on.local start (work_of on.w on.db on.sizes planned) now 0)) over (c.planned_row.ensures.pages steady))
