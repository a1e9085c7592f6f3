use Rattle.std.proofs.Common.{◌∙◌, ◌<◌, Some, length, map, ap, sym, arith}
use Rattle.std.proofs.lemmas.List.{length-map}
use Rattle.std.proofs.lemmas.Result.{IfOk-weaker}
use Rattle.values.specs.Datum.{datum_of}
use Rattle.windows.proofs.lemmas.window_totals.TotalLemmas.{datum_at}
use Rattle.windows.specs.window_extremes.Stretches.{in_ranges}
use Rattle.windows.proofs.lemmas.window_extremes.ChosenLemmas.{none_value, some_value}
use Rattle.windows.proofs.lemmas.window_extremes.StretchLemmas.{best_inside}
use Rattle.windows.proofs.window_extremes.firsts.Firsts.first.Goals as goal

pub index-requires : goal.index-requires
index-requires c =
    let s = c.args.self.now in
    let inside = best_inside s.side (map datum_of s.values.items) (in_ranges c.args.ranges.now) (Some c.in-Some.place) c.in-Some.ensures in
    omega (arith, inside, length-map s.values.items datum_of, s.values.ok.0)

pub returns-in-Some : goal.returns-in-Some
returns-in-Some c =
    let s = c.args.self.now in
    let values = s.values.items in
    let xs = map datum_of values in
    let r = c.args.ranges.now in
    let place = c.in-Some.place in
    let inside : place < length xs = best_inside s.side xs (in_ranges r) (Some place) c.in-Some.ensures in
    let within : place < length values = omega (arith, inside, length-map values datum_of) in
    IfOk-weaker c.to_value.result _ _
    (λ v e o. some_value s.side xs r c.requires o place inside c.in-Some.ensures
    ∙ ap Some (datum_at values place c.index.result.now within ∙ ap datum_of (sym c.index.ensures) ∙ sym c.as_ref.ensures ∙ sym e)) c.to_value.ensures

pub returns-in-None : goal.returns-in-None
returns-in-None c = λ o.
    let s = c.args.self.now in
    none_value s.side (map datum_of s.values.items) c.args.ranges.now c.requires o c.in-None.ensures
