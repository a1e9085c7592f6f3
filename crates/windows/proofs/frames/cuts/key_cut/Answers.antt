use Rattle.std.proofs.Common.{◌≡◌, ◌∙◌, ◌+◌, ◌-◌, ◌/◌, ◌<◌, true, false, length, sym, arith, to_z, of_z}
use Rattle.std.specs.Int.{w128}
use Rattle.semantics.specs.Query.{FrameUnit}
use Rattle.windows_groups.specs.window_order.Placed.{keys_in, ways_in}
use Rattle.windows.specs.frames.Cuts.{ahead}
use Rattle.windows.proofs.lemmas.frames.CutLemmas.{ahead_back, ahead_on}
use Rattle.windows.proofs.frames.cuts.key_cut.Goals as goal

pub loop-low-preserved-then-is_ahead : goal.loop-low-preserved-then-is_ahead
loop-low-preserved-then-is_ahead c =
    let s = c.args.sequence.now in
    let by = to_z w128 (of_z w128 c.args.by) in
    let middle = c.loop-low.low + (c.loop-low.high - c.loop-low.low) / 2 in
    let here : ahead c.args.side (ways_in s) FrameUnit.range (keys_in s) c.args.here by middle ≡ true = sym c.is_ahead.ensures ∙ c.if-is_ahead.true in
    let inside : middle < length (keys_in s) = omega arith in
    record {
      ordered = omega arith;
      within = c.loop-low.invariant.within;
      before = λ k below. ahead_back (ways_in s) (keys_in s) s.in_order c.args.here by c.args.side k middle (omega arith) inside here;
      beyond = c.loop-low.invariant.beyond;
    }

pub loop-low-preserved : goal.loop-low-preserved
loop-low-preserved c =
    let s = c.args.sequence.now in
    let by = to_z w128 (of_z w128 c.args.by) in
    let middle = c.loop-low.low + (c.loop-low.high - c.loop-low.low) / 2 in
    let here : ahead c.args.side (ways_in s) FrameUnit.range (keys_in s) c.args.here by middle ≡ false = sym c.is_ahead.ensures ∙ c.if-is_ahead.false in
    record {
      ordered = omega arith;
      within = omega arith;
      before = c.loop-low.invariant.before;
      beyond = λ k low high. ahead_on (ways_in s) (keys_in s) s.in_order c.args.here by c.args.side middle k low high here;
    }
