use Rattle.expr.proofs.TypeLemmas.{types_of_examples}
use Rattle.expr.proofs.laws.types_of_examples.Goals as goal

pub returns : goal.returns
returns c = types_of_examples
