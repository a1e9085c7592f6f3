use Rattle.std.proofs.Common.{◌-◌, ◌≡◌, ◌<◌, ◌≤◌, ℕ, true, false, length}
use Rattle.semantics.specs.Query.{FrameUnit}
use Rattle.windows_groups.specs.window_order.Placed.{keys_in, ways_in}
use Rattle.windows.specs.frames.Cuts.{ahead}
use Rattle.windows.proofs.frames.cuts.key_cut.Given as goal

abbrev pub invariant-loop-low : goal.invariant-loop-low
invariant-loop-low l = record {
  ordered : l.low ≤ l.high;
  within : l.high ≤ length (keys_in l.sequence);
  before : (k : ℕ) → k < l.low → ahead l.side (ways_in l.sequence) FrameUnit.range (keys_in l.sequence) l.here l.by k ≡ true;
  beyond : (k : ℕ) → l.high ≤ k → k < length (keys_in l.sequence) → ahead l.side (ways_in l.sequence) FrameUnit.range (keys_in l.sequence) l.here l.by k ≡ false;
}

abbrev pub decreases-loop-low : goal.decreases-loop-low
decreases-loop-low l = l.high - l.low
