use Rattle.values.specs.Bounds.{counted}
use Rattle.std.proofs.Common.{◌≡◌, ◌⊎◌, ◌+◌, ◌<◌, ◌≤◌, ℕ, Some, length, slice_get}
use Rattle.integrity_trees.proofs.entry_prefixes.counting.count_from.Given as goal

abbrev pub invariant-loop-columns : goal.invariant-loop-columns
invariant-loop-columns l =
    (length l.distinct ≡ length l.fn.distinct)
    × ((at count : ℕ) → (at < l.shared) ⊎ (l.columns ≤ at) → slice_get l.fn.distinct at ≡ Some count → slice_get l.distinct at ≡ Some count)
    × ((at count : ℕ) → l.shared ≤ at → at < l.columns → slice_get l.fn.distinct at ≡ Some count → slice_get l.distinct at ≡ Some (counted (count + 1)))
