-- The types so far are those of the tables before this one.
use Rattle.std.proofs.Common.{◌≡◌, map, take}
use Rattle.schema_tables.specs.ColumnTypes.{types_of}
use Rattle.resolver.proofs.known.column_types.Given as goal

abbrev pub invariant-loop-table : goal.invariant-loop-table
invariant-loop-table l = map (λ types. types.items) l.all.items ≡ map types_of (take l.table-index l.tables)
