use Rattle.sql_reader.proofs.TextLemmas.{one_text}
use Rattle.sql_reader.proofs.laws.one_statement.Goals as goal

pub returns : goal.returns
returns c = one_text
