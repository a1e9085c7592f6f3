use Rattle.std.proofs.Common.{◌≡◌, ◌++◌, drop, map}
use Rattle.sql_reader_grammar.specs.create_trees.CreateView.{constraint_of}
use Rattle.schema_keys.specs.declared_keys.Keys.{keys_at}
use Rattle.schema_keys.specs.declared_keys.KeyView.{key_data}
use Rattle.schema_keys.proofs.declared_keys.keys.keys_at.Given as goal

abbrev pub invariant-loop-constraint : goal.invariant-loop-constraint
invariant-loop-constraint l =
    map key_data l.keys.items ++ keys_at l.name (map constraint_of (drop l.constraint-index l.constraints))
    ≡ map key_data l.initial.keys.items ++ keys_at l.name (map constraint_of l.constraints)
