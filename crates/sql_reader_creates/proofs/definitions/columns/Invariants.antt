use Rattle.std.proofs.Common.{length}
use Rattle.sql_reader_grammar.proofs.lemmas.phrases.ListLemmas.{GoesOn}
use Rattle.sql_reader_creates.proofs.definitions.columns.Given as goal
use Rattle.sql_reader_creates.specs.column_reader.ColumnReading.{column}
use Rattle.sql_reader_creates.specs.CreateReading.{another_column, columns}
use Rattle.sql_reader_grammar.specs.create_trees.CreateView.{column_of}
use Rattle.sql_reader_grammar.specs.phrases.Texts.{lexemes_of}

abbrev pub invariant-loop-more : goal.invariant-loop-more
invariant-loop-more l =
    GoesOn column_of another_column column (columns (lexemes_of l.tokens)) l.columns.items (lexemes_of l.rest)

abbrev pub decreases-loop-more : goal.decreases-loop-more
decreases-loop-more l = length l.rest
