use Rattle.std.proofs.Common.{◌≡◌, map}
use Rattle.schema.specs.KeyedView.{keyed_data}
use Rattle.schema.specs.declared.keyed.KeyedTable.{KeyedTable}
use Rattle.schema.proofs.keyed.tables_from.Given as goal

abbrev pub invariant-loop-keyed_table : goal.invariant-loop-keyed_table
invariant-loop-keyed_table l = l.tables.items ≡ map (λ (k : KeyedTable). (keyed_data k).table) l.yielded
