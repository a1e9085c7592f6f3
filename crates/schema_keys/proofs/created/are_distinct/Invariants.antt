use Rattle.std.proofs.Common.{map, take}
use Rattle.sql_reader_grammar.specs.create_trees.CreateView.{column_of}
use Rattle.schema_keys.specs.Names.{AreDistinct}
use Rattle.schema_keys.proofs.created.are_distinct.Given as goal

abbrev pub invariant-loop-place : goal.invariant-loop-place
invariant-loop-place l = AreDistinct (map (λ c. (column_of c).name) (take l.place l.columns))
