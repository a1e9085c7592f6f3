use Rattle.std.proofs.Common.{◌≡◌, ◌∙◌, ◌<◌, ◌++◌, ◌∷◌, [], get_or, length, map, ap, sym, to_z, of_z, arith}
use Rattle.std.specs.Int.{w128}
use Rattle.std.proofs.lemmas.Int.{ints}
use Rattle.values.specs.Datum.{datum_of, null}
use Rattle.windows.proofs.lemmas.window_totals.TotalLemmas.{added_more, datum_at, length-data}
use Rattle.windows.proofs.window_totals.running.Totals.new.Goals as goal

pub loop-value-preserved : goal.loop-value-preserved
loop-value-preserved c =
    let given = c.as_slice-given.result.now in
    let xs = map datum_of given in
    let i = c.loop-value.value-index in
    let w = c.loop-value.invariant in
    let within : i < length given = omega arith in
    let inside : i < length xs = omega (arith, length-data given) in
    let v = datum_of c.value-item.result in
    let is : get_or xs i null ≡ v = datum_at given i c.value-item.result within ∙ ap datum_of (sym c.value-item.is) in
    let more = c.add.ensures in
    let whole : to_z w128 (of_z w128 c.add.new.self.sum) ≡ c.add.new.self.sum = omega (arith, ints, c.add.new.self.bounded.low, c.add.new.self.bounded.high) in
    record {
      once = omega (arith, more.added, w.once);
      totals = added_more xs i _ _ c.loop-value.sums.items c.loop-value.counts.items w.totals inside v is more.small _ _ _ _ more.sum more.count
          (c.in_ok-push-3.ensures.items ∙ ap (λ z. c.loop-value.sums.items ++ z ∷ []) whole) c.in_ok-push-4.ensures.items;
    }
