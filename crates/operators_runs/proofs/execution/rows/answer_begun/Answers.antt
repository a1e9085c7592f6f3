use Rattle.std.proofs.Common.{inl, inr, refl, sym, subst, List}
use Rattle.std.proofs.lemmas.Result.{err_from_is_err_and}
use Rattle.values.specs.Row.{Row}
use Rattle.btree.specs.image.Pages.{pages_seen}
use Rattle.logical_plan.specs.answers.Answers.{IsAnswer, answer_data}
use Rattle.logical_plan_queries.specs.Answers.{PlannedData, work_of}
use Rattle.operators_scan.proofs.lemmas.scan.ComingLemmas.{Asks-none}
use Rattle.operators_runs.proofs.execution.rows.answer_begun.Goals as goal

pub returns-in_err-execution-clause-rows : goal.returns-in_err-execution-clause-rows
returns-in_err-execution-clause-rows g c = λ steady.
    let p = err_from_is_err_and c.from_residual.result c.from_residual.ensures.1 in
    rw (p.1, p.2) (λ on has. inl (inr refl))

pub returns-in-Some-clause-rows : goal.returns-in-Some-clause-rows
returns-in-Some-clause-rows g c = λ steady.
    let opened = rw c.in-Some.is at c.in_ok-execution.ensures in opened.given (pages_seen c.args.pager.now.state) c.args.sources.now

pub returns-in-Some-clause-pages : goal.returns-in-Some-clause-pages
returns-in-Some-clause-pages g c = λ steady on has.
    let opened = rw c.in-Some.is at c.in_ok-execution.ensures in
    let work = work_of on.w on.db on.sizes (PlannedData.answer (answer_data c.args.answer.now)) in
    (work, opened.ahead (pages_seen c.args.pager.now.state) c.args.sources.now on, Asks-none on.local c.args.pager.now.state work)

pub returns-in-Some-clause-over : goal.returns-in-Some-clause-over
returns-in-Some-clause-over g c =
    let opened = rw c.in-Some.is at c.in_ok-execution.ensures in opened.over c.args.sources.now c.requires.planned

pub returns-in_err-gathered-clause-rows : goal.returns-in_err-gathered-clause-rows
returns-in_err-gathered-clause-rows g c = λ steady.
    let p = err_from_is_err_and c.from_residual-in_err-gathered.result c.from_residual-in_err-gathered.ensures.1 in
    rw (p.1, p.2) (λ on has. c.in_err-gathered.ensures.rows steady on has)

pub returns-clause-rows : goal.returns-clause-rows
returns-clause-rows g c = λ steady on has.
    subst (λ (rows : List Row). IsAnswer on.w on.db (answer_data c.args.answer.now) rows) (sym c.new.ensures.rows)
    (c.in_ok-gathered.ensures.rows steady on has).0

pub returns-clause-pages : goal.returns-clause-pages
returns-clause-pages g c = λ steady on has. (0, refl, (c.in_ok-gathered.ensures.rows steady on has).1)
