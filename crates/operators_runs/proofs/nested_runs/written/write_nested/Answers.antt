use Rattle.std.proofs.Common.{◌≡◌, ◌∙◌, All, OnOk, ap, subst, sym}
use Rattle.std.proofs.lemmas.Result.{err_from_is_err_and}
use Rattle.btree.specs.image.Pages.{Pages, pages_seen}
use Rattle.operators_runs.proofs.lemmas.inner_rows.AskedLemmas.{whole_asks}
use Rattle.operators_runs.proofs.lemmas.inner_rows.KeptLemmas.{kept_rooted}
use Rattle.operators_loops.specs.Basis.{AreStored, Basis}
use Rattle.pager.specs.declared.header.Header.{Header}
use Rattle.logical_plan_queries.specs.Answers.{IsPlannedOver, planned_data, work_of}
use Rattle.operators_runs.proofs.PrintedLemmas.{operator_fault}
use Rattle.operators_scan.specs.scan.Coming.{Asks}
use Rattle.operators_scan.proofs.lemmas.scan.ComingLemmas.{seen_same}
use Rattle.operators_scan.specs.Coming.{IsRooted, IsStoredSource}
use Rattle.logical_plan.specs.answers.Sources.{sources_of}
use Rattle.resolver_bodies.specs.NamedView.{query_data}
use Rattle.operators_runs.proofs.lemmas.nested_runs.NestedLemmas.{stopped_before, stored_behind, wrote_over, WritesOver}
use Rattle.operators_runs.proofs.nested_runs.written.write_nested.Goals as goal

pub returns-in_err-run-clause-rows : goal.returns-in_err-run-clause-rows
returns-in_err-run-clause-rows g c = λ steady typed runs all.
    let p = err_from_is_err_and c.from_residual.result c.from_residual.ensures.1 in
    rw (p.1, p.2)
    (stopped_before (pages_seen c.args.pager.now.state) c.args.tables.now (query_data c.args.query.now) (g.W.Sink.facts c.args.out.now) c.in_err-run.field-0.0
    c.in_err-run.ensures.reads.only (λ on said. c.in_err-run.ensures.plan steady on said typed runs))

pub returns-in_err-run-clause-only : goal.returns-in_err-run-clause-only
returns-in_err-run-clause-only g c =
    let p = err_from_is_err_and c.from_residual.result c.from_residual.ensures.1 in
    rw (p.1, p.2) (operator_fault _ c.in_err-run.ensures.reads.only)

pub write_answer-requires-clause-roots : goal.write_answer-requires-clause-roots
write_answer-requires-clause-roots g c =
    let tables = c.args.tables.now in
    let kept = c.in_ok-run.run'.kept.items in
    let all : c.new-sources.result ≡ sources_of tables kept = c.new-sources.ensures ∙ ap (λ rows. sources_of tables rows) c.as_slice.ensures.value in
    subst (λ sources. All (IsRooted c.kept_plan.new.pager.state.header) sources) (sym all)
    (subst (λ (header : Header). All (IsRooted header) (sources_of tables kept)) (sym c.kept_plan.ensures.reads.image.header)
    (kept_rooted c.args.pager.now.state.header tables kept c.requires))

pub write_answer-requires-clause-planned : goal.write_answer-requires-clause-planned
write_answer-requires-clause-planned g c =
    let tables = c.args.tables.now in
    let kept = c.in_ok-run.run'.kept.items in
    let all : c.new-sources.result ≡ sources_of tables kept = c.new-sources.ensures ∙ ap (λ rows. sources_of tables rows) c.as_slice.ensures.value in
    subst (λ sources. IsPlannedOver sources (planned_data c.in_ok-run.run'.planned)) (sym all) c.in_ok-run.ensures.over

pub returns-clause-rows : goal.returns-clause-rows
returns-clause-rows g c = λ steady typed runs stored.
    let tables = c.args.tables.now in
    let kept = c.in_ok-run.run'.kept.items in
    let planned = planned_data c.in_ok-run.run'.planned in
    let old = g.W.Sink.facts c.args.out.now in
    let new = g.W.Sink.facts c.write_answer.new.out in
    let image = c.kept_plan.ensures.reads.image in
    let pages = pages_seen c.args.pager.now.state in
    let all : c.new-sources.result ≡ sources_of tables kept = c.new-sources.ensures ∙ ap (λ rows. sources_of tables rows) c.as_slice.ensures.value in
    let wrote : All (IsStoredSource pages) (sources_of tables kept) → WritesOver pages tables kept planned old new c.write_answer.result =
    subst (λ (p : Pages). All (IsStoredSource p) (sources_of tables kept) → WritesOver p tables kept planned old new c.write_answer.result)
    (seen_same c.args.pager.now.state c.kept_plan.new.pager.state image)
    (rw all at (c.write_answer.ensures.rows (rw image.steady steady))) in
    wrote_over pages tables (query_data c.args.query.now) kept planned (λ on said. c.in_ok-run.ensures.plan steady on said typed runs) old new c.write_answer.result
    (wrote (stored_behind pages tables kept stored))

pub returns-clause-pages : goal.returns-clause-pages
returns-clause-pages g c = λ steady on said typed runs.
    let tables = c.args.tables.now in
    let kept = c.in_ok-run.run'.kept.items in
    let planned = planned_data c.in_ok-run.run'.planned in
    let start = c.args.pager.now.state in
    let mid = c.kept_plan.new.pager.state in
    let now = c.write_answer.new.pager.state in
    let image = c.kept_plan.ensures.reads.image in
    let all : c.new-sources.result ≡ sources_of tables kept = c.new-sources.ensures ∙ ap (λ rows. sources_of tables rows) c.as_slice.ensures.value in
    let asks : (on : Basis) → AreStored (pages_seen start) (sources_of tables kept) on → OnOk c.write_answer.result (Asks on.local mid (work_of on.w on.db on.sizes planned) now 0) =
    subst (λ (p : Pages). (on : Basis) → AreStored p (sources_of tables kept) on → OnOk c.write_answer.result (Asks on.local mid (work_of on.w on.db on.sizes planned) now 0))
    (seen_same start mid image)
    (rw all at (c.write_answer.ensures.pages (rw image.steady steady))) in
    whole_asks tables start mid now on said (query_data c.args.query.now) kept planned (c.in_ok-run.ensures.plan steady on said typed runs)
    (c.in_ok-run.ensures.pages steady on said typed runs) c.write_answer.result asks
