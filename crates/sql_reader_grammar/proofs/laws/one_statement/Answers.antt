use Rattle.sql_reader_grammar.proofs.StatementLemmas.{one_statement}
use Rattle.sql_reader_grammar.proofs.laws.one_statement.Goals as goal

pub returns : goal.returns
returns c = one_statement
