-- What a scan of a table's rows has written, and the pages that it asks for.
use Rattle.std.specs.Prelude.{◌≡◌, ◌+◌, ◌≤◌, ℕ, List, ◌++◌, map}
use Rattle.values.specs.Sink.{SinkFacts}
use Rattle.values.specs.declared.fault.Fault.{Fault}
use Rattle.pager.specs.PagerState.{PagerState}
use Rattle.btree.specs.image.Pages.{Pages}
use Rattle.schema_tables.specs.TableData.{TableData}
use Rattle.values.specs.Row.{Row}
use Rattle.semantics.specs.OneTable.{shown}
use Rattle.operators_scan.specs.scan.Coming.{AreUnchained, size_of}
use Rattle.operators_runs.specs.Faults.{IsOutsideFault}
use Rattle.operators_runs.specs.Printed.{Prints, PrintsUntil}

-- these columns of all the rows
abbrev pub Streams : List ℕ → List Row → ℕ → SinkFacts → SinkFacts → Type 0
Streams columns rows counted old new = Prints (map (shown columns) rows) counted old new

-- of the first of the rows, up to a fault, which comes from outside
pub record StreamsUntil (fault : Fault) (columns : List ℕ) (rows : List Row) (old new : SinkFacts) : Type 0 where
  pub given : List Row
  pub rest : List Row
  pub whole : given ++ rest ≡ rows
  pub prints : PrintsUntil fault (map (shown columns) given) old new
  pub outside : IsOutsideFault fault

-- No more pages were asked for than a table's tree has, and none of overflow chains where no cell has one.
pub record AsksFew (pages : Pages) (table : TableData) (levels : ℕ) (old new : PagerState) : Type 0 where
  pub asked : new.asked ≤ old.asked + size_of pages table levels
  pub unchained : AreUnchained pages table levels → new.chained ≡ old.chained
