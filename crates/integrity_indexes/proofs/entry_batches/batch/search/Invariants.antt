use Rattle.std.proofs.Common.{◌-◌, ◌≡◌, ◌<◌, ◌≤◌, ◌<ℤ◌, ◌≤ℤ◌, ℕ, Some, length, slice_get}
use Rattle.integrity_indexes.specs.declared.entry_batches.batch.Slot.{Slot}
use Rattle.integrity_indexes.proofs.entry_batches.batch.search.Given as goal

abbrev pub invariant-loop-low : goal.invariant-loop-low
invariant-loop-low l = record {
  within : l.high ≤ length l.slots;
  order : l.low ≤ l.high;
  below : (i : ℕ) (slot : Slot) → i < l.low → slice_get l.slots i ≡ Some slot → slot.key <ℤ l.key;
  above : (i : ℕ) (slot : Slot) → l.high ≤ i → slice_get l.slots i ≡ Some slot → l.key ≤ℤ slot.key;
}

abbrev pub decreases-loop-low : goal.decreases-loop-low
decreases-loop-low l = l.high - l.low
