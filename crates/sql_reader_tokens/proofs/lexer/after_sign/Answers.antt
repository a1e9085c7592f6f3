use Rattle.sql_reader_tokens.proofs.SignLemmas.{first_byte}
use Rattle.sql_reader_tokens.proofs.lexer.after_sign.Goals as goal

pub after_first-after-requires-clause-ascii : goal.after_first-after-requires-clause-ascii
after_first-after-requires-clause-ascii c = (first_byte c.args.sign c.args.text.now c.requires).1
