use Rattle.expr.proofs.TypeLemmas.{values_have_types, eval_has_type}
use Rattle.expr.proofs.laws.values_have_types.Goals as goal

pub returns-clause-run : goal.returns-clause-run
returns-clause-run c = values_have_types

pub returns-clause-value : goal.returns-clause-value
returns-clause-value c = eval_has_type
