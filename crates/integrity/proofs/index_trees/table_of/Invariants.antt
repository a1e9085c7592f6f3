use Rattle.std.proofs.Common.{All, take}
use Rattle.schema.specs.indexes.IndexView.{index_data}
use Rattle.schema_keys.specs.Names.{IsSameName}
use Rattle.integrity.proofs.index_trees.table_of.Given as goal

abbrev pub invariant-loop-table : goal.invariant-loop-table
invariant-loop-table l = All (λ table. ¬ IsSameName (index_data l.index).table table.name) (take l.table-index l.tables)
