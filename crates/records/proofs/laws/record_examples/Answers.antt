use Rattle.records.proofs.Examples.{number_and_text, zero_and_one, no_values}
use Rattle.records.proofs.laws.record_examples.Goals as goal

pub returns-clause-number_and_text : goal.returns-clause-number_and_text
returns-clause-number_and_text c = number_and_text

pub returns-clause-zero_and_one : goal.returns-clause-zero_and_one
returns-clause-zero_and_one c = zero_and_one

pub returns-clause-no_values : goal.returns-clause-no_values
returns-clause-no_values c = no_values
