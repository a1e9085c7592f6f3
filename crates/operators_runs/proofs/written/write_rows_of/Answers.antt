use Rattle.std.proofs.Common.{[], MatchResult, OnOk, ℕ}
use Rattle.std.proofs.lemmas.Result.{err_from_is_err_and}
use Rattle.logical_plan_queries.specs.Answers.{PlannedData, planned_data, work_of}
use Rattle.operators_loops.specs.Basis.{AreStored, Basis}
use Rattle.operators_scan.specs.scan.Coming.{Asks}
use Rattle.operators_runs.specs.Runs.{WritesAnswer, WritesBeginning}
use Rattle.operators_runs.specs.execution.Given.{HasAhead, HasGiven}
use Rattle.operators_runs.proofs.PrintedLemmas.{operator_fault}
use Rattle.operators_runs.proofs.WrittenLemmas.{asked_behind, none_written}
use Rattle.operators_runs.proofs.lemmas.inner_rows.AddingLemmas.{at_first}
use Rattle.operators_runs.proofs.written.write_rows_of.Goals as goal

pub returns-in_err-execution-clause-rows : goal.returns-in_err-execution-clause-rows
returns-in_err-execution-clause-rows g c =
    let p = err_from_is_err_and c.from_residual.result c.from_residual.ensures.1 in
    rw (p.1, p.2)
    (none_written c.args.pager.now.state c.args.sources.now (planned_data c.args.planned.now) _ _ c.in_err-execution.ensures.reads.only c.in_err-execution.ensures.rows)

pub returns-in_err-execution-clause-only : goal.returns-in_err-execution-clause-only
returns-in_err-execution-clause-only g c =
    let p = err_from_is_err_and c.from_residual.result c.from_residual.ensures.1 in
    rw (p.1, p.2) (operator_fault _ c.in_err-execution.ensures.reads.only)

pub returns-in_default-clause-rows : goal.returns-in_default-clause-rows
returns-in_default-clause-rows g c = λ steady.
    let sources = c.args.sources.now in
    let old = g.W.Sink.facts c.args.out.now in
    let new = g.W.Sink.facts c.write_each.new.out in
    at_first c.args.pager.now.state c.begin.new.pager.state c.begin.ensures.reads.image
    (λ pages. (planned : PlannedData) → HasGiven pages sources planned c.in_ok-execution.execution [] → MatchResult c.write_each.result
    (WritesAnswer pages sources planned old new) (WritesBeginning pages sources planned old new))
    c.write_each.ensures.rows steady (planned_data c.args.planned.now) (c.in_ok-execution.ensures.rows steady)

pub returns-in_default-clause-pages : goal.returns-in_default-clause-pages
returns-in_default-clause-pages g c = λ steady on has.
    let sources = c.args.sources.now in
    let start = c.args.pager.now.state in
    let mid = c.begin.new.pager.state in
    let now = c.write_each.new.pager.state in
    let begun = c.in_ok-execution.ensures.pages steady on has in
    asked_behind on.local start mid now (work_of on.w on.db on.sizes (planned_data c.args.planned.now)) begun.0 c.write_each.result begun.2
    (at_first start mid c.begin.ensures.reads.image
    (λ pages. (on : Basis) (ahead : ℕ) → AreStored pages sources on → HasAhead pages sources on c.in_ok-execution.execution ahead
    → OnOk c.write_each.result (Asks on.local mid ahead now 0))
    c.write_each.ensures.pages steady on begun.0 has begun.1)
