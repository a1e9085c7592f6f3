-- What is said of the different rows that the program keeps.
use Rattle.std.specs.Prelude.{◌≤◌, All, Bool, ℕ, List, Option, drop, length, take}
use Rattle.values.specs.Row.{Row}
use Rattle.windows_groups.specs.declared.order.ResultKey.{ResultKey}
use Rattle.windows_groups.specs.Firsts.{AreAtMost, HasRoom, IsBehind, KeepsOf}
use Rattle.windows_groups.specs.Keys.{comes_before}
use Rattle.windows_groups.specs.distinct_rows.Firsts.{firsts}
use Rattle.windows_groups.specs.declared.distinct_rows.distinct_in_order.DistinctInOrder.{DistinctInOrder}

-- the first of those that were put in order, and those that came since
abbrev pub first_of : DistinctInOrder → List Row
first_of kept = take kept.ordered kept.kept.keys

abbrev pub more_of : DistinctInOrder → List Row
more_of kept = drop kept.ordered kept.kept.keys

-- of all these elements some are kept, and what was dropped is behind the first of them, so that it doesn't come back
pub record KeepsFirmly {X : Type 0} (less : X → X → Bool) (most : Option ℕ) (first more all : List X) : Type 0 where
  pub keeps : KeepsOf less most first more all
  pub firm : All (IsBehind less most first) keeps.of_all.dropped

-- of the rows that came each once, they are the first in order
pub record KeepsOnce (order : List ResultKey) (kept : DistinctInOrder) (came : List Row) : Type 0 where
  pub within : kept.ordered ≤ length kept.kept.keys
  pub keeps : KeepsFirmly (comes_before order) kept.most (first_of kept) (more_of kept) (firsts came)

-- no more than are looked for, and some that came since
pub record FewAreKeptOnce (kept : DistinctInOrder) : Type 0 where
  pub within : kept.ordered ≤ length kept.kept.keys
  pub first : AreAtMost kept.most (length (first_of kept))
  pub more : HasRoom kept.most (length (more_of kept))
