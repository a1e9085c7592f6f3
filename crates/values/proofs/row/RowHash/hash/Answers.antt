use Rattle.std.proofs.Common.{◌∙◌, ap}
use Rattle.std.specs.List.{fold}
use Rattle.values.proofs.RowLemmas.{slice-rows}
use Rattle.values.proofs.row.RowHash.hash.Goals as goal

pub returns : goal.returns
returns g c = rw (← c.self.view_is) (c.hash.ensures ∙ ap (fold g.H.Hasher.write c.args.state.now) (slice-rows c.self.inside.values.items))
