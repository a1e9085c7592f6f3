use Rattle.std.proofs.Common.{length}
use Rattle.sql_reader_grammar.proofs.lemmas.phrases.ListLemmas.{GoesOn}
use Rattle.sql_reader_grammar.specs.phrases.Steps.{after_comma, listed}
use Rattle.sql_reader_grammar.specs.phrases.Texts.{lexemes_of}
use Rattle.sql_reader_creates.proofs.options.table_options.Given as goal
use Rattle.sql_reader_creates.specs.CreateReading.{table_option}
use Rattle.sql_reader_grammar.specs.declared.create_trees.create.TableOption.{TableOption}

abbrev pub invariant-loop-more : goal.invariant-loop-more
invariant-loop-more l =
    GoesOn (λ (o : TableOption). o) after_comma table_option (listed table_option (lexemes_of l.fn.tokens)) l.options.items
    (lexemes_of l.rest)

abbrev pub decreases-loop-more : goal.decreases-loop-more
decreases-loop-more l = length l.rest
