use Rattle.std.proofs.Common.{◌+◌, ◌≤◌}
use Rattle.sql_reader_grammar.specs.create_trees.CreateView.{table_of}
use Rattle.schema_keys.proofs.lemmas.table_keys.AutomaticLemmas.{AreSoFar}
use Rattle.schema_keys.proofs.table_keys.automatic.automatic_indexes.Given as goal

abbrev pub invariant-loop-key : goal.invariant-loop-key
invariant-loop-key l =
    (l.number ≤ l.key-index + 1) × AreSoFar (table_of l.fn.created) l.keys l.key-index l.number l.indexes.items
