use Rattle.std.proofs.Common.{inl, inr, refl}
use Rattle.std.proofs.lemmas.Result.{err_from_is_err_and}
use Rattle.btree.specs.image.Pages.{pages_seen}
use Rattle.operators_scan.proofs.lemmas.scan.ComingLemmas.{Asks-none}
use Rattle.operators_runs.proofs.execution.rows.Execution.begin.Goals as goal

pub returns-in_err-execution-in-Columns-clause-rows : goal.returns-in_err-execution-in-Columns-clause-rows
returns-in_err-execution-in-Columns-clause-rows g c = λ steady.
    let p = err_from_is_err_and c.from_residual.result c.from_residual.ensures.1 in
    rw (p.1, p.2) (λ on has. inl (inr refl))

pub returns-in_ok-execution-in-Columns-clause-rows : goal.returns-in_ok-execution-in-Columns-clause-rows
returns-in_ok-execution-in-Columns-clause-rows g c = λ steady.
    let opened = rw c.as_slice.ensures.value at c.in_ok-execution-in-Columns.ensures in
    rw c.in-Columns.is (opened.given (pages_seen c.args.pager.now.state) c.args.sources.now)

pub returns-in_ok-execution-in-Columns-clause-pages : goal.returns-in_ok-execution-in-Columns-clause-pages
returns-in_ok-execution-in-Columns-clause-pages g c = λ steady on has.
    let opened = rw c.as_slice.ensures.value at c.in_ok-execution-in-Columns.ensures in
    rw c.in-Columns.is
    (_, opened.ahead (pages_seen c.args.pager.now.state) c.args.sources.now on, Asks-none on.local c.args.pager.now.state _)

pub returns-in_ok-execution-in-Columns-clause-over : goal.returns-in_ok-execution-in-Columns-clause-over
returns-in_ok-execution-in-Columns-clause-over g c =
    let opened = rw c.as_slice.ensures.value at c.in_ok-execution-in-Columns.ensures in
    opened.over c.args.sources.now (rw c.in-Columns.is at c.requires.planned)

pub answer_begun-requires-clause-planned : goal.answer_begun-requires-clause-planned
answer_begun-requires-clause-planned g c = rw c.in-Answer.is at c.requires.planned

pub returns-in-Answer-clause-rows : goal.returns-in-Answer-clause-rows
returns-in-Answer-clause-rows g c = λ steady. rw c.in-Answer.is (c.answer_begun.ensures.rows steady)

pub returns-in-Answer-clause-pages : goal.returns-in-Answer-clause-pages
returns-in-Answer-clause-pages g c = λ steady on has. rw c.in-Answer.is (c.answer_begun.ensures.pages steady on has)
