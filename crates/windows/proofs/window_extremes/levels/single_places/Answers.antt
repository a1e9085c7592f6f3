use Rattle.std.proofs.Common.{◌+◌, ◌==◌, map, arith}
use Rattle.std.proofs.lemmas.List.{length-map}
use Rattle.values.specs.Datum.{datum_of}
use Rattle.windows.specs.window_extremes.Stretches.{stretch}
use Rattle.windows.proofs.lemmas.window_extremes.StretchLemmas.{all_filled, filled_more, one_place, same_set}
use Rattle.windows.proofs.window_extremes.levels.single_places.Goals as goal

pub loop-at-preserved : goal.loop-at-preserved
loop-at-preserved c = λ side.
    let xs = map datum_of c.args.values.now in
    let at = c.loop-at.at in
    filled_more side xs 1 at c.loop-at.level.items _ c.own_place.result (c.loop-at.invariant side) c.in_ok-push.ensures.items
    (same_set side xs (λ k. k == at) (stretch at (at + 1)) c.own_place.result (one_place at) (c.own_place.ensures.first side))

pub returns : goal.returns
returns c = λ side.
    all_filled side (map datum_of c.args.values.now) 1 c.loop-at.at c.loop-at.level.items (c.loop-at.invariant side) (omega (arith, c.loop-at-test.false, length-map c.args.values.now datum_of))
