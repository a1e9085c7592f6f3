use Rattle.sql_reader_tokens.proofs.ReadLemmas as read
use Rattle.sql_reader_tokens.proofs.laws.one_stop.Goals as goal

pub returns : goal.returns
returns c grammar text first second x y = read.one_stop x y
