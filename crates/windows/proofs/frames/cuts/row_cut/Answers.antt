use Rattle.std.proofs.Common.{◌≡◌, ◌∙◌, ◌+ℤ◌, if◌then◌else◌, int_le, length, not, pos, sym, ap, subst, arith, to_z, of_z}
use Rattle.std.specs.Int.{w128}
use Rattle.std.proofs.lemmas.Int.{ints}
use Rattle.windows_groups.specs.window_order.Placed.{keys_in, ways_in}
use Rattle.windows_groups.proofs.lemmas.window_order.EntryLemmas.{length-keys_of}
use Rattle.windows.specs.frames.Cuts.{CutsPlaces, is_end}
use Rattle.windows.proofs.lemmas.frames.CutLemmas.{rows_cut}
use Rattle.windows.proofs.frames.cuts.row_cut.Goals as goal

pub returns : goal.returns
returns c =
    let s = c.args.sequence.now in
    let here = c.args.here in
    let t = to_z w128 (of_z w128 c.counted.result) in
    let by : to_z w128 (of_z w128 c.args.by) ≡ c.args.by = omega (arith, ints) in
    let off : t ≡ c.counted.result = omega (arith, ints) in
    let is = off ∙ c.counted.ensures ∙ ap (λ b. if is_end c.args.side then (pos here +ℤ b) +ℤ pos 1 else (pos here +ℤ b)) by in
    let cut : CutsPlaces (λ k. not (int_le t (pos k))) (length s.entries.now) c.place_cut.result = c.place_cut.ensures in
    rows_cut (ways_in s) (keys_in s) here c.args.by t c.args.side c.place_cut.result is
    (subst (λ n. CutsPlaces (λ k. not (int_le t (pos k))) n c.place_cut.result) (sym (length-keys_of s.entries.now)) cut)
