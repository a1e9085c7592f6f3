use Rattle.operators_results.proofs.lemmas.compound_results.ExampleLemmas.{joined_examples}
use Rattle.operators_results.proofs.laws.joined_examples.Goals as goal

pub returns : goal.returns
returns c = joined_examples
