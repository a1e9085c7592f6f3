use Rattle.std.proofs.Common.{◌<◌, length}
use Rattle.sql_reader_grammar.proofs.lemmas.phrases.ListLemmas.{GoesOn}
use Rattle.sql_reader_grammar.specs.phrases.Steps.{after_comma, listed}
use Rattle.sql_reader_grammar.specs.phrases.Texts.{lexemes_of}
use Rattle.sql_reader_creates.proofs.keys.indexed_list.Given as goal
use Rattle.sql_reader_creates.specs.CreateReading.{indexed}
use Rattle.sql_reader_grammar.specs.create_trees.CreateView.{indexed_of}

abbrev pub invariant-loop-more : goal.invariant-loop-more
invariant-loop-more l = record {
  all : GoesOn indexed_of after_comma indexed (listed indexed (lexemes_of l.tokens)) l.columns.items (lexemes_of l.rest);
  shorter : length l.rest < length l.tokens;
}

abbrev pub decreases-loop-more : goal.decreases-loop-more
decreases-loop-more l = length l.rest
