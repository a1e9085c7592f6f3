use Rattle.std.proofs.Common.{◌≡◌, ◌∙◌, All, OnOk, ap, subst, sym}
use Rattle.std.proofs.lemmas.Result.{err_from_is_err_and}
use Rattle.std.specs.Result.{MatchResult}
use Rattle.btree.specs.image.Pages.{Pages, pages_seen}
use Rattle.operators_runs.proofs.lemmas.inner_rows.AskedLemmas.{whole_asks}
use Rattle.operators_runs.proofs.lemmas.inner_rows.KeptLemmas.{kept_rooted}
use Rattle.operators_loops.specs.Basis.{AreStored, Basis}
use Rattle.pager.specs.declared.header.Header.{Header}
use Rattle.logical_plan_queries.specs.Answers.{IsAnswerOf, IsPlannedOver, planned_data, work_of}
use Rattle.operators_runs.specs.execution.Given.{IsRowCause}
use Rattle.operators_scan.specs.scan.Coming.{Asks}
use Rattle.operators_scan.proofs.lemmas.scan.ComingLemmas.{seen_same}
use Rattle.operators_scan.specs.Coming.{IsRooted}
use Rattle.values.specs.Row.{rows_data}
use Rattle.logical_plan.specs.answers.Sources.{sources_of}
use Rattle.resolver_bodies.specs.NamedView.{query_data}
use Rattle.operators_runs.proofs.lemmas.nested_runs.StepLemmas.{rows_of_plan}
use Rattle.operators_runs.proofs.nested_runs.gathered.answer_rows.Goals as goal

pub returns-in_err-kept-clause-rows : goal.returns-in_err-kept-clause-rows
returns-in_err-kept-clause-rows g c = λ steady on said typed runs.
    let p = err_from_is_err_and c.from_residual.result c.from_residual.ensures.1 in
    rw (p.1, p.2) (c.in_err-kept.ensures.plan steady on said typed runs)

pub planned_rows-requires-clause-roots : goal.planned_rows-requires-clause-roots
planned_rows-requires-clause-roots g c =
    let tables = c.args.tables.now in
    let kept = c.in_ok-kept.field-0.kept.items in
    let all : c.new-sources.result ≡ sources_of tables kept = c.new-sources.ensures ∙ ap (λ rows. sources_of tables rows) c.as_slice.ensures.value in
    subst (λ sources. All (IsRooted c.kept_plan.new.pager.state.header) sources) (sym all)
    (subst (λ (header : Header). All (IsRooted header) (sources_of tables kept)) (sym c.kept_plan.ensures.reads.image.header)
    (kept_rooted c.args.pager.now.state.header tables kept c.requires))

pub planned_rows-requires-clause-planned : goal.planned_rows-requires-clause-planned
planned_rows-requires-clause-planned g c =
    let tables = c.args.tables.now in
    let kept = c.in_ok-kept.field-0.kept.items in
    let all : c.new-sources.result ≡ sources_of tables kept = c.new-sources.ensures ∙ ap (λ rows. sources_of tables rows) c.as_slice.ensures.value in
    subst (λ sources. IsPlannedOver sources (planned_data c.in_ok-kept.field-0.planned)) (sym all) c.in_ok-kept.ensures.over

pub returns-clause-rows : goal.returns-clause-rows
returns-clause-rows g c = λ steady on said typed runs.
    let tables = c.args.tables.now in
    let kept = c.in_ok-kept.field-0.kept.items in
    let planned = planned_data c.in_ok-kept.field-0.planned in
    let image = c.kept_plan.ensures.reads.image in
    let pages = pages_seen c.args.pager.now.state in
    let all : c.new-sources.result ≡ sources_of tables kept = c.new-sources.ensures ∙ ap (λ rows. sources_of tables rows) c.as_slice.ensures.value in
    let rows : (on : Basis) → AreStored pages (sources_of tables kept) on
    → MatchResult c.planned_rows.result (λ rows. IsAnswerOf on.w on.db planned (rows_data rows.items)) (IsRowCause on planned) =
    subst (λ (p : Pages). (on : Basis) → AreStored p (sources_of tables kept) on
    → MatchResult c.planned_rows.result (λ rows. IsAnswerOf on.w on.db planned (rows_data rows.items)) (IsRowCause on planned))
    (seen_same c.args.pager.now.state c.kept_plan.new.pager.state image)
    (rw all at (c.planned_rows.ensures.rows (rw image.steady steady))) in
    rows_of_plan pages tables (query_data c.args.query.now) kept planned on said (c.in_ok-kept.ensures.plan steady on said typed runs) c.planned_rows.result rows

pub returns-clause-pages : goal.returns-clause-pages
returns-clause-pages g c = λ steady on said typed runs.
    let tables = c.args.tables.now in
    let kept = c.in_ok-kept.field-0.kept.items in
    let planned = planned_data c.in_ok-kept.field-0.planned in
    let start = c.args.pager.now.state in
    let mid = c.kept_plan.new.pager.state in
    let now = c.planned_rows.new.pager.state in
    let image = c.kept_plan.ensures.reads.image in
    let all : c.new-sources.result ≡ sources_of tables kept = c.new-sources.ensures ∙ ap (λ rows. sources_of tables rows) c.as_slice.ensures.value in
    let asks : (on : Basis) → AreStored (pages_seen start) (sources_of tables kept) on → OnOk c.planned_rows.result (Asks on.local mid (work_of on.w on.db on.sizes planned) now 0) =
    subst (λ (p : Pages). (on : Basis) → AreStored p (sources_of tables kept) on → OnOk c.planned_rows.result (Asks on.local mid (work_of on.w on.db on.sizes planned) now 0))
    (seen_same start mid image)
    (rw all at (c.planned_rows.ensures.pages (rw image.steady steady))) in
    whole_asks tables start mid now on said (query_data c.args.query.now) kept planned (c.in_ok-kept.ensures.plan steady on said typed runs)
    (c.in_ok-kept.ensures.pages steady on said typed runs) c.planned_rows.result asks
