use Rattle.std.proofs.Common.{length}
use Rattle.sql_reader_grammar.proofs.lemmas.phrases.ListLemmas.{GoesOn}
use Rattle.sql_reader_grammar.specs.phrases.Steps.{after_comma}
use Rattle.sql_reader_grammar.specs.phrases.Texts.{lexemes_of}
use Rattle.sql_reader_creates.proofs.definitions.definitions.Given as goal
use Rattle.sql_reader_creates.specs.CreateReading.{constraint, constraints}
use Rattle.sql_reader_grammar.specs.create_trees.CreateView.{table_constraint_of}

abbrev pub invariant-loop-more : goal.invariant-loop-more
invariant-loop-more l =
    GoesOn table_constraint_of after_comma constraint (constraints (lexemes_of l.initial.rest)) l.constraints.items
    (lexemes_of l.rest)

abbrev pub decreases-loop-more : goal.decreases-loop-more
decreases-loop-more l = length l.rest
