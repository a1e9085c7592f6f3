use Rattle.std.proofs.Common.{◌≡◌, ◌++◌, List}
use Rattle.values.specs.Row.{Row}
use Rattle.semantics.specs.Query.{QueryData}
use Rattle.shell.specs.Stepped.{IsSteppedOver, HasGivenSoFar, rows_ahead}
use Rattle.shell_sessions.specs.Stands.{KeepsImage}
use Rattle.shell_sessions.proofs.slot.rows_behind.Given as goal

abbrev pub invariant-loop-rows : goal.invariant-loop-rows
invariant-loop-rows g l = record {
  behind : (query : QueryData) (given : List Row) → HasGivenSoFar l.initial.engine query l.initial.statement given
      → HasGivenSoFar l.engine query l.statement (given ++ l.rows.items);
  over : IsSteppedOver l.engine.tables l.statement;
  image : KeepsImage l.initial.engine l.engine;
  unfailed : l.engine.pager.source.failures ≡ l.initial.engine.pager.source.failures;
}

abbrev pub decreases-loop-rows : goal.decreases-loop-rows
decreases-loop-rows g l = rows_ahead l.engine.tables l.statement
