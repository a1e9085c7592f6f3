-- What is said of the rows that the program keeps.
use Rattle.std.specs.Prelude.{List, length}
use Rattle.values.specs.Row.{Row, rows_data}
use Rattle.windows_groups.specs.declared.first_in_order.FirstInOrder.{FirstInOrder}
use Rattle.windows_groups.specs.declared.order.ResultKey.{ResultKey}
use Rattle.windows_groups.specs.Firsts.{AreAtMost, HasRoom, KeepsOf}
use Rattle.windows_groups.specs.Keys.{comes_before}

-- they are the first in order of all that came
abbrev pub KeepsFirst : List ResultKey → FirstInOrder → List Row → Type 0
KeepsFirst order kept = KeepsOf (comes_before order) kept.most (rows_data kept.first.items) (rows_data kept.more.items)

-- no more than are looked for, and some that came since
pub record FewAreKept (kept : FirstInOrder) : Type 0 where
  pub first : AreAtMost kept.most (length kept.first.items)
  pub more : HasRoom kept.most (length kept.more.items)
