use Rattle.sql_reader_tokens.proofs.ReadLemmas as read
use Rattle.sql_reader_tokens.proofs.laws.no_list.Goals as goal

pub returns : goal.returns
returns c grammar text place tokens x y = read.no_list x tokens y
