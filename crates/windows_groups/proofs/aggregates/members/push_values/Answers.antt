use Rattle.std.proofs.Common.{◌≡◌, Err, Some, map, ap, add-one, arith}
use Rattle.std.proofs.lemmas.Result.{err_from_is_err_and}
use Rattle.values.specs.Datum.{datum_of}
use Rattle.values.specs.declared.fault.Fault.TheVariants.{Overflow}
use Rattle.expr.specs.Meaning.{eval}
use Rattle.semantics.specs.Groups.{taken_values}
use Rattle.windows_groups.proofs.lemmas.aggregates.MemberLemmas.{state_at, value_pushed}
use Rattle.windows_groups.proofs.aggregates.members.push_values.Goals as goal

pub returns-in_err-value-clause-overflow : goal.returns-in_err-value-clause-overflow
returns-in_err-value-clause-overflow c = λ is w asked rows same.
    let p = err_from_is_err_and c.from_residual.result c.from_residual.ensures.1 in
    let s = state_at w rows c.args.states.now asked c.loop-state.state-index c.state-item.result (omega arith) c.state-item.is same in
    let e : c.in_err-value.field-0.0 ≡ Overflow = cc (p.1, p.2, is) in (
      c.loop-state.state-index,
      s.aggregate,
      s.within,
      s.here,
      c.in_err-value.ensures.overflow (ap Err e) s.aggregate.function (taken_values (eval w) s.aggregate rows) s.is,
    )

pub loop-state-preserved : goal.loop-state-preserved
loop-state-preserved c = λ w asked rows same.
    let s = state_at w rows c.args.states.now asked c.loop-state.state-index c.state-item.result (omega arith) c.state-item.is same in
    rw (add-one c.loop-state.state-index)
    (value_pushed w rows (map datum_of c.args.out.now.items) c.loop-state.out.items c.push.new.self.items asked c.loop-state.state-index c.in_ok-value.field-0
    s.aggregate c.in_ok-push.ensures.items s.next (c.in_ok-value.ensures.value (Some w) s.aggregate.function (taken_values (eval w) s.aggregate rows) s.is)
    (c.loop-state.invariant w asked rows same))
