use Rattle.std.proofs.Common.{[], inl, subst}
use Rattle.std.proofs.lemmas.Result.{err_from_is_err_and}
use Rattle.btree.specs.image.Pages.{pages_seen}
use Rattle.operators_runs.proofs.lemmas.nested_runs.StepLemmas.{fewer, gathered, gathered_asks, gathered_going, giving, plan_asks, plan_going, plan_steps, reads_rows, stopped, waiting_asks}
use Rattle.operators_runs.specs.nested_runs.Steps.{HasGivenOf, IsAhead, IsQueryOver, NeedsNoPage}
use Rattle.operators_scan.proofs.lemmas.scan.ComingLemmas.{Asks-none}
use Rattle.operators_runs.specs.declared.nested_runs.steps.QueryRun.{QueryRun}
use Rattle.logical_plan.specs.answers.Sources.{sources_of}
use Rattle.resolver_bodies.specs.NamedView.{query_data}
use Rattle.operators_runs.proofs.nested_runs.steps.QueryRun.step.Goals as goal

pub next_planned-requires-clause-planned : goal.next_planned-requires-clause-planned
next_planned-requires-clause-planned g c =
    subst (λ (run : QueryRun). IsQueryOver (sources_of c.args.tables.now []) run) c.in-Planned.is c.requires.over

pub returns-in-Planned-clause-rows : goal.returns-in-Planned-clause-rows
returns-in-Planned-clause-rows g c = λ steady query given typed runs gave.
    let pages = pages_seen c.args.pager.now.state in
    let here = subst (λ (run : QueryRun). HasGivenOf pages c.args.tables.now query run given) c.in-Planned.is gave in
    plan_steps pages c.args.tables.now query typed c.in-Planned.running c.next_planned.new.running given here c.next_planned.result
    (c.next_planned.ensures.rows steady here.planned given here.gave)

pub returns-in-Planned-clause-pages : goal.returns-in-Planned-clause-pages
returns-in-Planned-clause-pages g c = λ steady query given typed runs gave on said ahead is.
    let pages = pages_seen c.args.pager.now.state in
    plan_asks pages c.args.tables.now query on c.args.pager.now.state ahead c.next_planned.new.pager.state c.next_planned.new.running c.next_planned.result
    (c.next_planned.ensures.pages steady on ahead said.stored
    (subst (λ (run : QueryRun). IsAhead pages c.args.tables.now on query run ahead) c.in-Planned.is is))

pub returns-in_err-rows-in-Nested-clause-rows : goal.returns-in_err-rows-in-Nested-clause-rows
returns-in_err-rows-in-Nested-clause-rows g c = λ steady query given typed runs gave.
    let p = err_from_is_err_and c.from_residual.result c.from_residual.ensures.1 in
    let pages = pages_seen c.args.pager.now.state in
    let waits = subst (λ (run : QueryRun). HasGivenOf pages c.args.tables.now query run given) c.in-Nested.is gave in
    rw (p.1, p.2)
    (stopped pages c.args.tables.now query typed runs (query_data c.in-Nested.query) waits.1 _ (c.in_err-rows-in-Nested.ensures.rows steady))

pub returns-in_err-rows-in-Nested-clause-pages : goal.returns-in_err-rows-in-Nested-clause-pages
returns-in_err-rows-in-Nested-clause-pages g c = λ steady query given typed runs gave on said ahead is.
    let p = err_from_is_err_and c.from_residual.result c.from_residual.ensures.1 in rw p.1 tt

pub returns-in_ok-rows-in-Nested-clause-rows : goal.returns-in_ok-rows-in-Nested-clause-rows
returns-in_ok-rows-in-Nested-clause-rows g c = λ steady query given typed runs gave.
    let pages = pages_seen c.args.pager.now.state in
    let waits = subst (λ (run : QueryRun). HasGivenOf pages c.args.tables.now query run given) c.in-Nested.is gave in
    gathered pages c.args.tables.now query typed runs (query_data c.in-Nested.query) waits.1 c.in_ok-rows-in-Nested.rows given c.new-left.result
    c.next_row-first.new.left c.next_row-first.result c.new-left.ensures.rows
    (c.in_ok-rows-in-Nested.ensures.rows steady) waits.0 c.next_row-first.ensures.rows

pub returns-in_ok-rows-in-Nested-clause-pages : goal.returns-in_ok-rows-in-Nested-clause-pages
returns-in_ok-rows-in-Nested-clause-pages g c = λ steady query given typed runs gave on said ahead is.
    let pages = pages_seen c.args.pager.now.state in
    let start = c.args.pager.now.state in
    let now = c.answer_rows.new.pager.state in
    let waits = subst (λ (run : QueryRun). HasGivenOf pages c.args.tables.now query run given) c.in-Nested.is gave in
    let whole = subst (λ (run : QueryRun). IsAhead pages c.args.tables.now on query run ahead) c.in-Nested.is is in
    gathered_asks pages c.args.tables.now query on start ahead now c.next_row-first.new.left c.next_row-first.result
    (rw whole (waiting_asks pages c.args.tables.now query typed runs (query_data c.in-Nested.query) waits.1 start now (c.in_ok-rows-in-Nested.ensures.pages steady) on said))

pub returns-in-Gathered-clause-rows : goal.returns-in-Gathered-clause-rows
returns-in-Gathered-clause-rows g c = λ steady query given typed runs gave.
    let pages = pages_seen c.args.pager.now.state in
    giving pages c.args.tables.now query given c.in-Gathered.left c.next_row.new.left c.next_row.result
    c.next_row.ensures.rows (subst (λ (run : QueryRun). HasGivenOf pages c.args.tables.now query run given) c.in-Gathered.is gave)

pub returns-in-Gathered-clause-pages : goal.returns-in-Gathered-clause-pages
returns-in-Gathered-clause-pages g c = λ steady query given typed runs gave on said ahead is.
    let pages = pages_seen c.args.pager.now.state in
    let start = c.args.pager.now.state in
    let none = subst (λ (run : QueryRun). IsAhead pages c.args.tables.now on query run ahead) c.in-Gathered.is is in
    gathered_asks pages c.args.tables.now query on start ahead start c.next_row.new.left c.next_row.result
    (rw none (Asks-none on.local start 0))

pub returns-in-Ended-clause-rows : goal.returns-in-Ended-clause-rows
returns-in-Ended-clause-rows g c = λ steady query given typed runs gave.
    absurd (subst (λ (run : QueryRun). HasGivenOf (pages_seen c.args.pager.now.state) c.args.tables.now query run given) c.in-Ended.is gave)

pub returns-in-Planned-clause-going : goal.returns-in-Planned-clause-going
returns-in-Planned-clause-going g c = plan_going c.next_planned.result c.next_planned.new.running

pub returns-in_ok-rows-in-Nested-clause-going : goal.returns-in_ok-rows-in-Nested-clause-going
returns-in_ok-rows-in-Nested-clause-going g c = gathered_going c.next_row-first.result c.next_row-first.new.left

pub returns-in-Gathered-clause-going : goal.returns-in-Gathered-clause-going
returns-in-Gathered-clause-going g c = gathered_going c.next_row.result c.next_row.new.left

pub returns-in-Planned-clause-reads : goal.returns-in-Planned-clause-reads
returns-in-Planned-clause-reads g c = reads_rows c.args.self.now c.next_planned.result _ _ c.next_planned.ensures.reads

pub returns-in_err-rows-in-Nested-clause-reads : goal.returns-in_err-rows-in-Nested-clause-reads
returns-in_err-rows-in-Nested-clause-reads g c =
    let p = err_from_is_err_and c.from_residual.result c.from_residual.ensures.1 in
    let reads = c.in_err-rows-in-Nested.ensures.reads in
    rw (p.1, p.2) (record { image = reads.image; failures = reads.failures; only = inl reads.only })

pub returns-in-Planned-clause-done : goal.returns-in-Planned-clause-done
returns-in-Planned-clause-done g c = λ needs. c.next_planned.ensures.done (subst NeedsNoPage c.in-Planned.is needs)

pub returns-in_err-rows-in-Nested-clause-done : goal.returns-in_err-rows-in-Nested-clause-done
returns-in_err-rows-in-Nested-clause-done g c = λ needs. absurd (subst NeedsNoPage c.in-Nested.is needs)

pub returns-in_ok-rows-in-Nested-clause-done : goal.returns-in_ok-rows-in-Nested-clause-done
returns-in_ok-rows-in-Nested-clause-done g c = λ needs. absurd (subst NeedsNoPage c.in-Nested.is needs)

pub returns-in_ok-rows-in-Nested-clause-left : goal.returns-in_ok-rows-in-Nested-clause-left
returns-in_ok-rows-in-Nested-clause-left g c =
    rw c.in-Nested.is (fewer c.next_row-first.result _ _ _ c.next_row-first.ensures.left c.new-left.ensures.few)
