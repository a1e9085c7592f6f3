use Rattle.std.proofs.Common.{◌≡◌, ℕ, []}
use Rattle.pager.specs.Calls.{SameImage}
use Rattle.btree.specs.image.Pages.{WhereSteady}
use Rattle.operators_loops.specs.Basis.{AreStored, Basis}
use Rattle.logical_plan_queries.specs.Answers.{PlannedData}
use Rattle.operators_runs.specs.execution.Given.{HasAhead, HasGiven, IsRunOver, steps_left}
use Rattle.values.specs.Row.{rows_data}
use Rattle.operators_scan.specs.scan.Coming.{Asks}
use Rattle.operators_runs.proofs.inner_rows.rows.rows_of_run.Given as goal

abbrev pub invariant-rows : goal.invariant-rows
invariant-rows g l = record {
  image : SameImage l.fn.pager.state l.pager.state;
  failures : l.pager.state.source.failures ≡ l.fn.pager.state.source.failures;
  over : IsRunOver l.sources l.running;
  given : WhereSteady l.fn.pager.state (λ pages. (planned : PlannedData) → HasGiven pages l.sources planned l.fn.running []
      → HasGiven pages l.sources planned l.running (rows_data l.rows.items));
  asked : WhereSteady l.fn.pager.state (λ pages. (on : Basis) (ahead : ℕ) → AreStored pages l.sources on → HasAhead pages l.sources on l.fn.running ahead
      → (left : ℕ) × HasAhead pages l.sources on l.running left × Asks on.local l.fn.pager.state ahead l.pager.state left);
}

abbrev pub decreases-rows : goal.decreases-rows
decreases-rows g l = steps_left l.sources l.running
