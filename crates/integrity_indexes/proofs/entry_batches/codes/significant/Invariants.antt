use Rattle.std.proofs.Common.{◌≡◌, ◌<◌, ◌≤◌, ℕ, get_or, length}
use Rattle.integrity_indexes.proofs.entry_batches.codes.significant.Given as goal

abbrev pub invariant-loop-size : goal.invariant-loop-size
invariant-loop-size l = record {
  most : l.size ≤ length l.bytes;
  zeros : (i : ℕ) → l.size ≤ i → i < length l.bytes → get_or l.bytes i 0 ≡ 0;
}

abbrev pub decreases-loop-size : goal.decreases-loop-size
decreases-loop-size l = l.size
