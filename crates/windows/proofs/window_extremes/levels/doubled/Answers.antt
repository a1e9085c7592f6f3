use Rattle.std.proofs.Common.{◌+◌, None, get_or, map, refl, sym, subst, arith}
use Rattle.values.specs.Datum.{datum_of}
use Rattle.windows.specs.first_values.Best.{IsBest}
use Rattle.windows.specs.window_extremes.Stretches.{stretch}
use Rattle.windows.proofs.lemmas.window_extremes.StretchLemmas.{filled_more, inside_values, of_stretch, overlap}
use Rattle.windows.proofs.window_extremes.levels.doubled.Goals as goal

pub better-requires-clause-a : goal.better-requires-clause-a
better-requires-clause-a c =
    let values = c.args.values.now in
    let level = c.args.level.now in
    let at = c.loop-at.at in
    inside_values c.args.side values values refl (stretch at (at + c.args.width)) (get_or level at None) (of_stretch c.args.side (map datum_of values) c.args.width level c.requires at)

pub better-requires-clause-b : goal.better-requires-clause-b
better-requires-clause-b c =
    let values = c.args.values.now in
    let level = c.args.level.now in
    let next = c.loop-at.at + c.args.width in
    let S = stretch next (next + c.args.width) in
    inside_values c.args.side values values refl S c.place_behind-behind.result
    (subst (IsBest c.args.side (map datum_of values) S) (sym c.place_behind-behind.ensures) (of_stretch c.args.side (map datum_of values) c.args.width level c.requires next))

pub loop-at-preserved : goal.loop-at-preserved
loop-at-preserved c =
    let xs = map datum_of c.args.values.now in
    let at = c.loop-at.at in
    let width = c.args.width in
    filled_more c.args.side xs (width + width) at c.loop-at.wider.items _ c.better.result c.loop-at.invariant c.in_ok-push.ensures.items
    (overlap c.args.side xs width c.args.level.now c.requires at (at + width) (at + (width + width)) (omega arith) (omega arith) (omega arith) c.better.result
    (λ S T p q. c.better.ensures.first S T p (subst (IsBest c.args.side xs T) (sym c.place_behind-behind.ensures) q)))
