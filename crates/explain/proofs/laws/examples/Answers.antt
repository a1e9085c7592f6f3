use Rattle.explain.proofs.ExampleLemmas.{example_numbers}
use Rattle.explain.proofs.laws.examples.Goals as goal

pub returns-clause-numbers : goal.returns-clause-numbers
returns-clause-numbers c = example_numbers
