use Rattle.std.proofs.Common.{◌∙◌}
use Rattle.values.proofs.RowLemmas.{pointwise-rows}
use Rattle.values.proofs.row.RowPartialEq.eq.Goals as goal

pub returns : goal.returns
returns c = rw (← c.self.view_is, ← c.other.view_is) (c.eq.ensures ∙ pointwise-rows c.self.inside.values.items c.other.inside.values.items)
