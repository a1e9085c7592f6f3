use Rattle.std.proofs.Common.{◌∙◌}
use Rattle.values.proofs.RowLemmas.{slice_cmp-rows}
use Rattle.values.proofs.row.RowOrd.cmp.Goals as goal

pub returns : goal.returns
returns c = rw (← c.self.view_is, ← c.other.view_is) (c.cmp.ensures ∙ slice_cmp-rows c.self.inside.values.items c.other.inside.values.items)
