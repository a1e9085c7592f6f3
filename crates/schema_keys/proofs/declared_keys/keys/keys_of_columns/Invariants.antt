use Rattle.std.proofs.Common.{◌≡◌, ◌++◌, drop, map}
use Rattle.sql_reader_grammar.specs.create_trees.CreateView.{column_of}
use Rattle.schema_keys.specs.declared_keys.Keys.{keys_of_columns}
use Rattle.schema_keys.specs.declared_keys.KeyView.{key_data}
use Rattle.schema_keys.proofs.declared_keys.keys.keys_of_columns.Given as goal

abbrev pub invariant-loop-column : goal.invariant-loop-column
invariant-loop-column l =
    map key_data l.keys.items ++ keys_of_columns (map column_of (drop l.column-index l.columns))
    ≡ map key_data l.initial.keys.items ++ keys_of_columns (map column_of l.columns)
