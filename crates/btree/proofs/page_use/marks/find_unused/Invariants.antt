use Rattle.std.proofs.Common.{◌≡◌, ◌+◌, ◌<◌, ◌≤◌, ℕ, true}
use Rattle.btree.specs.page_use.Marks.{is_marked}
use Rattle.btree.proofs.page_use.marks.find_unused.Given as goal

abbrev pub invariant-loop-i : goal.invariant-loop-i
invariant-loop-i l = (n : ℕ) → 1 ≤ n → n < l.i + 1 → is_marked l.used n ≡ true
