use Rattle.std.proofs.Common.{string_bytes}
use Rattle.std.specs.List.{AllWithin}
use Rattle.sql_reader_grammar.specs.declared.create_trees.create.Column.{Column}
use Rattle.schema_keys.specs.Names.{IsSameName}
use Rattle.schema_keys.proofs.keys.place_of.Given as goal

abbrev pub invariant-loop-place : goal.invariant-loop-place
invariant-loop-place l = AllWithin (λ (c : Column). ¬ IsSameName (string_bytes c.name) l.name) l.columns 0 l.place
