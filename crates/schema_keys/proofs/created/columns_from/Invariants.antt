use Rattle.std.proofs.Common.{map}
use Rattle.std.specs.List.{AllZip}
use Rattle.sql_reader_grammar.specs.create_trees.CreateView.{column_of}
use Rattle.schema_keys.specs.declared_keys.KeyView.{key_data}
use Rattle.schema_keys.specs.Created.{IsColumn}
use Rattle.schema_keys.proofs.created.columns_from.Given as goal

abbrev pub invariant-loop-definition : goal.invariant-loop-definition
invariant-loop-definition l = AllZip (IsColumn l.fn.options (map key_data l.fn.keys)) (map column_of l.yielded) l.columns.items
