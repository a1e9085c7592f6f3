use Rattle.std.proofs.Common.{◌≡◌, ◌++◌, drop}
use Rattle.schema.proofs.indexes.key_indexes.copied.Given as goal

abbrev pub invariant-loop-column : goal.invariant-loop-column
invariant-loop-column l = l.all.items ++ drop l.column-index l.columns ≡ l.columns
