use Rattle.sql_reader_grammar.proofs.SoundStatements.{says}
use Rattle.sql_reader_grammar.proofs.laws.reader_says.Goals as goal

pub returns : goal.returns
returns c = says
