use Rattle.operators_scan.proofs.StepLemmas.{tables_alone}
use Rattle.operators_scan.proofs.laws.tables_alone.Goals as goal

pub returns : goal.returns
returns c = tables_alone
