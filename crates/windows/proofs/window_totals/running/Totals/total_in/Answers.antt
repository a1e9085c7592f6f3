use Rattle.std.proofs.Common.{map, arith}
use Rattle.std.proofs.lemmas.Int.{ints}
use Rattle.values.specs.Datum.{datum_of}
use Rattle.windows.proofs.lemmas.window_totals.TotalLemmas.{total-slices}
use Rattle.windows.proofs.window_totals.running.Totals.total_in.Goals as goal

pub returns : goal.returns
returns c =
    let a = c.sum_between-front.ensures in
    let b = c.sum_between-middle.ensures in
    let d = c.sum_between-back.ensures in
    let whole = total-slices c.args.ranges.now (map datum_of c.args.self.now.values.items) in
    omega (arith, ints, a.low, a.high, a.sum, b.low, b.high, b.sum, d.low, d.high, d.sum, whole)
