use Rattle.std.proofs.Common.{map, refl}
use Rattle.std.proofs.lemmas.Result.{err_from_is_err_and}
use Rattle.values.specs.Datum.{datum_of}
use Rattle.pager.proofs.CallLemmas.{SameImage-none}
use Rattle.operators_runs.proofs.PrintedLemmas.{operator_fault}
use Rattle.operators_runs.proofs.WrittenLemmas.{Writing-cut, Writing-done, Writing-few, Writing-next, Writing-start, Writing-stopped}
use Rattle.operators_runs.proofs.written.write_each.Goals as goal

pub rows-init : goal.rows-init
rows-init g c = Writing-start _ _ _ 0 _ (SameImage-none _) c.requires.planned refl

pub returns-in_err-next-clause-rows : goal.returns-in_err-next-clause-rows
returns-in_err-next-clause-rows g c =
    let p = err_from_is_err_and c.from_residual.result c.from_residual.ensures.1 in
    rw (p.1, p.2) (Writing-stopped _ _ _ _ _ _ _ _ c.rows.invariant _ c.in_err-next.ensures.reads.only c.in_err-next.ensures.rows)

pub returns-in_err-next-clause-only : goal.returns-in_err-next-clause-only
returns-in_err-next-clause-only g c =
    let p = err_from_is_err_and c.from_residual.result c.from_residual.ensures.1 in
    rw (p.1, p.2) (operator_fault _ c.in_err-next.ensures.reads.only)

pub returns-in_err-values_text-clause-rows : goal.returns-in_err-values_text-clause-rows
returns-in_err-values_text-clause-rows g c =
    let p = err_from_is_err_and c.from_residual-in_err-values_text.result c.from_residual-in_err-values_text.ensures.1 in
    rw (p.1, p.2)
    (Writing-cut _ _ _ _ _ _ _ _ c.rows.invariant c.next.new.self (map datum_of c.next.new.row.items) c.next.new.pager.state _ (g.W.Sink.facts c.values_text.new.out)
    (rw c.if-branch.true at c.in_ok-next.ensures.rows) c.in_err-values_text.ensures.only
    (rw c.as_slice.ensures.value at c.in_err-values_text.ensures.writes))

pub rows-preserved : goal.rows-preserved
rows-preserved g c =
    Writing-next _ _ _ _ _ _ _ _ c.rows.invariant c.next.new.self (map datum_of c.next.new.row.items) c.next.new.pager.state _ _
    (rw c.if-branch.true at c.in_ok-next.ensures.rows) (rw c.if-branch.true at c.in_ok-next.ensures.pages) c.next.ensures.reads.image
    c.in_ok-next.ensures.reads.failures c.next.ensures.over
    (rw c.as_slice.ensures.value at c.in_ok-values_text.ensures.writes) c.saturating_add-count.ensures

pub returns-clause-rows : goal.returns-clause-rows
returns-clause-rows g c = Writing-done _ _ _ _ _ _ _ _ c.rows.invariant (rw c.if-branch.false at c.in_ok-next.ensures.rows)

pub returns-clause-pages : goal.returns-clause-pages
returns-clause-pages g c =
    Writing-few _ _ _ _ _ _ _ _ c.rows.invariant c.next.new.pager.state (rw c.if-branch.false at c.in_ok-next.ensures.pages)
