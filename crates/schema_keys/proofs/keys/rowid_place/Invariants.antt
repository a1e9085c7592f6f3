use Rattle.std.proofs.Common.{map}
use Rattle.std.specs.List.{AllWithin}
use Rattle.sql_reader_grammar.specs.create_trees.CreateView.{column_of}
use Rattle.sql_reader_grammar.specs.declared.create_trees.create.Column.{Column}
use Rattle.schema_keys.specs.declared_keys.KeyView.{key_data}
use Rattle.schema_keys.specs.Created.{IsRowid}
use Rattle.schema_keys.proofs.keys.rowid_place.Given as goal

abbrev pub invariant-loop-place : goal.invariant-loop-place
invariant-loop-place l = AllWithin (λ (c : Column). ¬ IsRowid l.options (map key_data l.keys) (column_of c)) l.columns 0 l.place
