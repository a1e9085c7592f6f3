use Rattle.sql_reader_grammar.proofs.Examples.{examples}
use Rattle.sql_reader_grammar.proofs.laws.examples.Goals as goal

pub returns : goal.returns
returns c = examples
