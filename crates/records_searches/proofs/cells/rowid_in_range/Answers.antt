use Rattle.std.proofs.Common.{◌≡◌, None, Some, sym, ◌∙◌}
use Rattle.records_searches.proofs.cells.rowid_in_range.Goals as goal

pub returns-in-None-clause-met : goal.returns-in-None-clause-met
returns-in-None-clause-met c = λ number is. absurd (let e : None ≡ Some number = sym c.in-None.is ∙ is in cc)
