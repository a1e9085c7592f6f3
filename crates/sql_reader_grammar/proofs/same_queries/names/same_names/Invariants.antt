-- The lists are the same where what is left of each is.
use Rattle.std.proofs.Common.{string_bytes}
use Rattle.sql_reader_grammar.proofs.lemmas.same_queries.ListLemmas.{AreSame}
use Rattle.sql_reader_grammar.proofs.same_queries.names.same_names.Given as goal

abbrev pub invariant-loop-x : goal.invariant-loop-x
invariant-loop-x l = AreSame (λ name. string_bytes name) l.a l.b l.rest l.x-index
