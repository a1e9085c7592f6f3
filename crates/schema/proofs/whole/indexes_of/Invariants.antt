use Rattle.std.proofs.Common.{map, take}
use Rattle.schema.specs.indexes.IndexView.{index_data}
use Rattle.schema.specs.Keyed.{tables_in}
use Rattle.schema.specs.KeyedView.{keyed_data}
use Rattle.schema.specs.Picks.{Picks}
use Rattle.schema.specs.Says.{IsNoIndex, SaysAnyIndex}
use Rattle.schema.proofs.whole.indexes_of.Given as goal

abbrev pub invariant-loop-row : goal.invariant-loop-row
invariant-loop-row l =
    Picks (SaysAnyIndex l.pages l.fn.rows (tables_in (map keyed_data l.fn.tables))) IsNoIndex (take l.row-index l.rows) (map index_data l.indexes.items)
