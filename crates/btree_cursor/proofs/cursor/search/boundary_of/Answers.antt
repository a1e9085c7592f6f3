use Rattle.std.proofs.Common.{◌<◌, ◌+◌, ◌-◌, ◌/◌, arith}
use Rattle.btree_cursor.proofs.cursor.search.boundary_of.Goals as goal

pub returns-in_err-rowid-clause-sure : goal.returns-in_err-rowid-clause-sure
returns-in_err-rowid-clause-sure c = λ each.
    let middle = c.loop-low.low + (c.loop-low.high - c.loop-low.low) / 2 in
    let less : middle < c.loop-low.high = omega (arith, c.loop-low-test.true) in
    let most = c.loop-low.invariant.most in
    let here = each middle (omega (arith, less, most)) in
    absurd (c.in_err-rowid.ensures.none here.0 here.1)
