use Rattle.sql_reader_tokens.proofs.ReadLemmas as read
use Rattle.sql_reader_tokens.proofs.laws.one_token.Goals as goal

pub returns : goal.returns
returns c grammar text rest left first second x y = read.one_token x y
