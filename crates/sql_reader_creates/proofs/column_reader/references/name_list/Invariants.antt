use Rattle.std.proofs.Common.{◌<◌, length, string_bytes}
use Rattle.sql_reader_grammar.proofs.lemmas.phrases.ListLemmas.{GoesOn}
use Rattle.sql_reader_grammar.specs.phrases.Steps.{after_comma, listed, name}
use Rattle.sql_reader_grammar.specs.phrases.Texts.{lexemes_of}
use Rattle.sql_reader_creates.proofs.column_reader.references.name_list.Given as goal

abbrev pub invariant-loop-more : goal.invariant-loop-more
invariant-loop-more l = record {
  all : GoesOn (λ n. string_bytes n) after_comma name (listed name (lexemes_of l.tokens)) l.names.items (lexemes_of l.rest);
  shorter : length l.rest < length l.tokens;
}

abbrev pub decreases-loop-more : goal.decreases-loop-more
decreases-loop-more l = length l.rest
