use Rattle.std.proofs.Common.{◌≡◌, ◌++◌, drop, map, string_bytes}
use Rattle.sql_reader_grammar.specs.create_trees.CreateView.{indexed_of}
use Rattle.schema_keys.specs.declared_keys.Keys.{names_of}
use Rattle.schema_keys.proofs.declared_keys.keys.of_columns.Given as goal

abbrev pub invariant-loop-column : goal.invariant-loop-column
invariant-loop-column l =
    map (λ n. string_bytes n) l.names.items ++ names_of (map indexed_of (drop l.column-index l.columns))
    ≡ names_of (map indexed_of l.columns)
