use Rattle.std.proofs.Common.{◌≡◌, drop}
use Rattle.sql_reader_grammar.specs.phrases.Texts.{lexemes_of}
use Rattle.sql_reader_creates.specs.IndexGrammar.{has_query}
use Rattle.sql_reader_creates.proofs.conditions.query_place.Given as goal

abbrev pub invariant-loop-token : goal.invariant-loop-token
invariant-loop-token l = has_query (lexemes_of l.tokens) ≡ has_query (lexemes_of (drop l.token-index l.tokens))
