use Rattle.std.proofs.Common.{map, take}
use Rattle.schema.specs.Keyed.{AreKeyedOf}
use Rattle.schema.specs.KeyedView.{keyed_data}
use Rattle.schema.proofs.whole.tables_of.Given as goal

abbrev pub invariant-loop-row : goal.invariant-loop-row
invariant-loop-row l = AreKeyedOf l.pages (take l.row-index l.rows) (map keyed_data l.tables.items)
