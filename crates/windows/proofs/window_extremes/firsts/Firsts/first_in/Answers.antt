use Rattle.std.proofs.Common.{◌||◌}
use Rattle.windows.specs.window_extremes.Stretches.{in_ranges, stretch}
use Rattle.windows.proofs.lemmas.window_extremes.StretchLemmas.{from_copy, in_copy, inside_values}
use Rattle.windows.proofs.window_extremes.firsts.Firsts.first_in.Goals as goal

pub better-requires-clause-a : goal.better-requires-clause-a
better-requires-clause-a c =
    let s = c.args.self.now in
    let r = c.args.ranges.now in
    inside_values s.side s.values.items c.as_slice-values.result.now c.as_slice-values.ensures.value (stretch r.middle r.after) c.first_between-middle.result c.first_between-middle.ensures

pub better-requires-clause-b : goal.better-requires-clause-b
better-requires-clause-b c =
    let s = c.args.self.now in
    let r = c.args.ranges.now in
    inside_values s.side s.values.items c.as_slice-values.result.now c.as_slice-values.ensures.value (stretch r.to r.end) c.first_between-back.result c.first_between-back.ensures

pub better-requires-2-clause-a : goal.better-requires-2-clause-a
better-requires-2-clause-a c =
    let s = c.args.self.now in
    let r = c.args.ranges.now in
    inside_values s.side s.values.items c.as_slice-values.result.now c.as_slice-values.ensures.value (stretch r.start r.from) c.first_between-front.result c.first_between-front.ensures

pub returns : goal.returns
returns c =
    let s = c.args.self.now in
    let r = c.args.ranges.now in
    let values = s.values.items in
    let vs = c.as_slice-values.result.now in
    let same = c.as_slice-values.ensures.value in
    let front = in_copy s.side values vs same (stretch r.start r.from) c.first_between-front.result c.first_between-front.ensures in
    let middle = in_copy s.side values vs same (stretch r.middle r.after) c.first_between-middle.result c.first_between-middle.ensures in
    let back = in_copy s.side values vs same (stretch r.to r.end) c.first_between-back.result c.first_between-back.ensures in
    from_copy s.side values vs same (in_ranges r) c.better-2.result
    (c.better-2.ensures.first (stretch r.start r.from) (λ k. stretch r.middle r.after k || stretch r.to r.end k) front
    (c.better.ensures.first (stretch r.middle r.after) (stretch r.to r.end) middle back))
