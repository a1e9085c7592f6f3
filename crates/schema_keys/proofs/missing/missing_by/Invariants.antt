use Rattle.std.proofs.Common.{map}
use Rattle.sql_reader_grammar.specs.create_trees.CreateView.{constraint_of}
use Rattle.schema_keys.specs.Missing.{IsMissingValue}
use Rattle.schema_tables.specs.MissingView.{missing_of}
use Rattle.schema_keys.proofs.missing.missing_by.Given as goal

abbrev pub invariant-loop-constraint : goal.invariant-loop-constraint
invariant-loop-constraint l = IsMissingValue (map constraint_of l.yielded) (missing_of l.missing)
