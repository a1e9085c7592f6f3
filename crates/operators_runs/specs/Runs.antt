-- What the run of a plan writes over sources that have rows. (SELECT)
use Rattle.std.specs.Prelude.{ℕ, List, ◌++◌}
use Rattle.values.specs.Database.{Database}
use Rattle.values.specs.Datum.{Datum}
use Rattle.values.specs.Row.{Row}
use Rattle.values.specs.Sink.{SinkFacts}
use Rattle.values.specs.declared.fault.Fault.{Fault}
use Rattle.btree.specs.image.Pages.{Pages}
use Rattle.logical_plan.specs.answers.Sources.{SourceData}
use Rattle.operators_loops.specs.Basis.{AreStored, Basis}
use Rattle.logical_plan_queries.specs.Answers.{IsAnswerOf, PlannedData}
use Rattle.operators_runs.specs.Faults.{IsRunCause}
use Rattle.operators_runs.specs.Printed.{Prints, PrintsUntil}

-- an answer of the plan may begin with these rows
abbrev pub BeginsAnswer : Datum → Database → PlannedData → List Row → Type 0
BeginsAnswer w db planned given = (rest : List Row) × IsAnswerOf w db planned (given ++ rest)

-- What was written is the text of one list of rows, which the plan answers whatever stands for results out of range.
pub record WritesAnswer (pages : Pages) (sources : List SourceData) (planned : PlannedData) (old new : SinkFacts) (counted : ℕ) : Type 0 where
  pub given : List Row
  pub answer : (on : Basis) → AreStored pages sources on → IsAnswerOf on.w on.db planned given
  pub prints : Prints given counted old new

-- The same of the rows that were given before a fault, which an answer may begin with; and the fault has its cause.
pub record WritesBeginning (pages : Pages) (sources : List SourceData) (planned : PlannedData) (old new : SinkFacts) (fault : Fault) : Type 0 where
  pub given : List Row
  pub begins : (on : Basis) → AreStored pages sources on → BeginsAnswer on.w on.db planned given
  pub prints : PrintsUntil fault given old new
  pub cause : (on : Basis) → AreStored pages sources on → IsRunCause on planned fault
