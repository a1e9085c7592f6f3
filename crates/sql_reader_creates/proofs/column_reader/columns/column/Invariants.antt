use Rattle.std.proofs.Common.{length, ◌≤◌}
use Rattle.sql_reader_grammar.proofs.lemmas.phrases.ListLemmas.{GoesOn}
use Rattle.sql_reader_creates.proofs.column_reader.columns.column.Given as goal
use Rattle.sql_reader_creates.specs.column_reader.ColumnReading.{at_constraint, constraint, constraints}
use Rattle.sql_reader_grammar.specs.create_trees.CreateView.{constraint_of}
use Rattle.sql_reader_grammar.specs.phrases.Texts.{lexemes_of}

abbrev pub invariant-loop-alloc : goal.invariant-loop-alloc
invariant-loop-alloc l =
    GoesOn constraint_of at_constraint constraint (constraints (lexemes_of l.initial.rest)) l.constraints.items
    (lexemes_of l.rest)
    × (length l.rest ≤ length l.initial.rest)

abbrev pub decreases-loop-alloc : goal.decreases-loop-alloc
decreases-loop-alloc l = length l.rest
