use Rattle.std.proofs.Common.{map, refl}
use Rattle.std.proofs.lemmas.Result.{err_from_is_err_and}
use Rattle.values.specs.Datum.{datum_of}
use Rattle.operators_runs.proofs.WrittenLemmas.{Lines-counted, Lines-cut, Lines-done, Lines-next, Lines-start}
use Rattle.operators_runs.proofs.written.write_gathered.Goals as goal

pub lines-init : goal.lines-init
lines-init g c = Lines-start _ 0 _ refl

pub returns-in_err-values_text-clause-writes : goal.returns-in_err-values_text-clause-writes
returns-in_err-values_text-clause-writes g c =
    let p = err_from_is_err_and c.from_residual.result c.from_residual.ensures.1 in
    rw (p.1, p.2)
    (Lines-cut _ _ _ _ _ c.lines.invariant (map datum_of c.in-Some.row.items) c.take.new.self _ (rw c.in-Some.is at c.take.ensures.rows) _
    (rw c.as_slice.ensures.value at c.in_err-values_text.ensures.writes))

pub lines-preserved : goal.lines-preserved
lines-preserved g c =
    Lines-next _ _ _ _ _ c.lines.invariant (map datum_of c.in-Some.row.items) c.take.new.self _ (rw c.in-Some.is at c.take.ensures.rows) _
    (rw c.as_slice.ensures.value at c.in_ok-values_text.ensures.writes) c.saturating_add-written.ensures

pub returns-clause-counted : goal.returns-clause-counted
returns-clause-counted g c = Lines-counted _ _ _ _ _ c.lines.invariant (rw c.in_default.is at c.take.ensures.rows)

pub returns-clause-writes : goal.returns-clause-writes
returns-clause-writes g c = Lines-done _ _ _ _ _ c.lines.invariant (rw c.in_default.is at c.take.ensures.rows)
