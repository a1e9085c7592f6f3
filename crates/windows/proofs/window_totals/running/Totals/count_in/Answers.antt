use Rattle.std.proofs.Common.{map, arith}
use Rattle.values.specs.Datum.{datum_of}
use Rattle.windows.proofs.lemmas.window_totals.TotalLemmas.{count-slices}
use Rattle.windows.proofs.window_totals.running.Totals.count_in.Goals as goal

pub returns : goal.returns
returns c =
    let a = c.count_between-front.ensures in
    let b = c.count_between-middle.ensures in
    let d = c.count_between-back.ensures in
    let whole = count-slices c.args.ranges.now (map datum_of c.args.self.now.values.items) in
    omega (arith, a.count, b.count, d.count, whole)
