use Rattle.std.proofs.Common.{◌+◌, ◌-◌, ◌^◌, ◌<◌, None, Option, Global, Vec, ℕ, get_or, length, map, arith}
use Rattle.std.proofs.lemmas.List.{length-map}
use Rattle.std.proofs.lemmas.Nat.{pow_pos}
use Rattle.values.specs.Datum.{datum_of}
use Rattle.windows.specs.window_extremes.Stretches.{stretch}
use Rattle.windows.proofs.lemmas.window_extremes.StretchLemmas.{from_copy, in_copy, inside_values, level_read, level_there, of_stretch, overlap}
use Rattle.windows.proofs.window_extremes.firsts.Firsts.first_between.Goals as goal

pub index-requires : goal.index-requires
index-requires c =
    let s = c.args.self.now in
    let xs = map datum_of s.values.items in
    let items = map (λ (level : Vec (Option ℕ) Global). level.items) s.levels.items in
    let there = level_there s.side xs items c.ilog2-power.result s.levels_are (omega (arith, c.ilog2-power.ensures.power_le, c.requires.within)) in
    omega (arith, there, length-map s.levels.items (λ (level : Vec (Option ℕ) Global). level.items), s.levels.ok.0)

pub bounds-level-from : goal.bounds-level-from
bounds-level-from c =
    let s = c.args.self.now in
    let xs = map datum_of s.values.items in
    let items = map (λ (level : Vec (Option ℕ) Global). level.items) s.levels.items in
    let p = c.ilog2-power.result in
    let there = level_there s.side xs items p s.levels_are (omega (arith, c.ilog2-power.ensures.power_le, c.requires.within)) in
    let within : p < length s.levels.items = omega (arith, there, length-map s.levels.items (λ (level : Vec (Option ℕ) Global). level.items)) in
    let level = level_read s.side xs s.levels.items c.index.result.now p c.as_slice-level.result.now s.levels_are within c.index.ensures c.as_slice-level.ensures.value in
    omega (arith, level.size, c.requires.within, pow_pos p, c.ilog2-power.ensures.power_le)

pub bounds-level-last : goal.bounds-level-last
bounds-level-last c =
    let s = c.args.self.now in
    let xs = map datum_of s.values.items in
    let items = map (λ (level : Vec (Option ℕ) Global). level.items) s.levels.items in
    let p = c.ilog2-power.result in
    let there = level_there s.side xs items p s.levels_are (omega (arith, c.ilog2-power.ensures.power_le, c.requires.within)) in
    let within : p < length s.levels.items = omega (arith, there, length-map s.levels.items (λ (level : Vec (Option ℕ) Global). level.items)) in
    let level = level_read s.side xs s.levels.items c.index.result.now p c.as_slice-level.result.now s.levels_are within c.index.ensures c.as_slice-level.ensures.value in
    omega (arith, level.size, c.requires.within, pow_pos p, c.ilog2-power.ensures.power_le, c.pow.ensures)

pub better-requires-clause-a : goal.better-requires-clause-a
better-requires-clause-a c =
    let s = c.args.self.now in
    let xs = map datum_of s.values.items in
    let items = map (λ (level : Vec (Option ℕ) Global). level.items) s.levels.items in
    let p = c.ilog2-power.result in
    let there = level_there s.side xs items p s.levels_are (omega (arith, c.ilog2-power.ensures.power_le, c.requires.within)) in
    let within : p < length s.levels.items = omega (arith, there, length-map s.levels.items (λ (level : Vec (Option ℕ) Global). level.items)) in
    let l = c.as_slice-level.result.now in
    let level = level_read s.side xs s.levels.items c.index.result.now p l s.levels_are within c.index.ensures c.as_slice-level.ensures.value in
    let from = c.args.from in
    inside_values s.side s.values.items c.as_slice.result.now c.as_slice.ensures.value (stretch from (from + 2 ^ p)) (get_or l from None) (of_stretch s.side xs (2 ^ p) l level from)

pub better-requires-clause-b : goal.better-requires-clause-b
better-requires-clause-b c =
    let s = c.args.self.now in
    let xs = map datum_of s.values.items in
    let items = map (λ (level : Vec (Option ℕ) Global). level.items) s.levels.items in
    let p = c.ilog2-power.result in
    let there = level_there s.side xs items p s.levels_are (omega (arith, c.ilog2-power.ensures.power_le, c.requires.within)) in
    let within : p < length s.levels.items = omega (arith, there, length-map s.levels.items (λ (level : Vec (Option ℕ) Global). level.items)) in
    let l = c.as_slice-level.result.now in
    let level = level_read s.side xs s.levels.items c.index.result.now p l s.levels_are within c.index.ensures c.as_slice-level.ensures.value in
    let last = c.args.to - c.pow.result in
    inside_values s.side s.values.items c.as_slice.result.now c.as_slice.ensures.value (stretch last (last + 2 ^ p)) (get_or l last None) (of_stretch s.side xs (2 ^ p) l level last)

pub returns : goal.returns
returns c =
    let s = c.args.self.now in
    let xs = map datum_of s.values.items in
    let vs = c.as_slice.result.now in
    let same = c.as_slice.ensures.value in
    let items = map (λ (level : Vec (Option ℕ) Global). level.items) s.levels.items in
    let p = c.ilog2-power.result in
    let there = level_there s.side xs items p s.levels_are (omega (arith, c.ilog2-power.ensures.power_le, c.requires.within)) in
    let within : p < length s.levels.items = omega (arith, there, length-map s.levels.items (λ (level : Vec (Option ℕ) Global). level.items)) in
    let l = c.as_slice-level.result.now in
    let level = level_read s.side xs s.levels.items c.index.result.now p l s.levels_are within c.index.ensures c.as_slice-level.ensures.value in
    let from = c.args.from in
    let last = c.args.to - c.pow.result in
    overlap s.side xs (2 ^ p) l level from last c.args.to
    (omega (arith, c.ilog2-power.ensures.power_le, c.pow.ensures, c.requires.ordered))
    (omega (arith, c.ilog2-power.ensures.next_power_gt, c.pow.ensures, c.requires.ordered))
    (omega (arith, c.ilog2-power.ensures.power_le, c.pow.ensures, c.requires.ordered)) c.better.result
    (λ S T a b. from_copy s.side s.values.items vs same _ c.better.result
    (c.better.ensures.first S T (in_copy s.side s.values.items vs same S (get_or l from None) a) (in_copy s.side s.values.items vs same T (get_or l last None) b)))
