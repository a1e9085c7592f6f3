use Rattle.std.proofs.Common.{◌≡◌, ◌++◌, List, map, take}
use Rattle.values.specs.Datum.{Datum, datum_of}
use Rattle.values.specs.Row.{Row}
use Rattle.expr.specs.Meaning.{eval}
use Rattle.semantics.specs.Groups.{aggregate_value}
use Rattle.semantics.specs.Query.{Aggregate}
use Rattle.windows_groups.specs.aggregates.State.{state_of, states_after}
use Rattle.windows_groups.proofs.aggregates.members.push_values.Given as goal

abbrev pub invariant-loop-state : goal.invariant-loop-state
invariant-loop-state l = (w : Datum) (asked : List Aggregate) (rows : List Row) → map state_of l.states ≡ states_after w asked rows
    → map datum_of l.out.items ≡ map datum_of l.fn.out.items ++ map (aggregate_value (eval w) w rows) (take l.state-index asked)
