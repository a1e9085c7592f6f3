use Rattle.std.proofs.Common.{◌≤◌, length}
use Rattle.sql_reader_grammar.proofs.lemmas.phrases.TurnLemmas.{GoesOn}
use Rattle.sql_reader_grammar.specs.phrases.Texts.{lexemes_of}
use Rattle.sql_reader_exprs.specs.clause_reader.Seen.{bytes_of}
use Rattle.sql_reader_grammar.specs.Reading.{a_name, names}
use Rattle.sql_reader_grammar.specs.phrases.Steps.{after_comma}
use Rattle.sql_reader_exprs.proofs.clause_reader.name_lists.names.Given as goal

-- what was read so far, before what is still to come, is all
abbrev pub invariant-loop-start : goal.invariant-loop-start
invariant-loop-start l = record {
  all : GoesOn bytes_of (λ place. a_name) after_comma (names (lexemes_of l.tokens)) l.names.items l.levels
      (lexemes_of l.rest);
  within : l.levels ≤ 0;
}

abbrev pub decreases-loop-start : goal.decreases-loop-start
decreases-loop-start l = length l.rest
