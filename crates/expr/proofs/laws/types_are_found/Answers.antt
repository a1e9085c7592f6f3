use Rattle.expr.proofs.TermTypeLemmas.{types_are_found}
use Rattle.expr.proofs.laws.types_are_found.Goals as goal

pub returns : goal.returns
returns c = types_are_found
