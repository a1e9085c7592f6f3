use Rattle.std.proofs.Common.{◌≡◌, ◌++◌, [], ◌∷◌, List, drop, map, take}
use Rattle.values.specs.Datum.{Datum, datum_of}
use Rattle.values.specs.Row.{Row}
use Rattle.windows_groups.specs.aggregates.State.{state_of, states_after}
use Rattle.windows_groups.proofs.aggregates.members.add_row.Given as goal
use Rattle.resolver_terms.specs.SelectView.{aggregate_of}

abbrev pub invariant-loop-at : goal.invariant-loop-at
invariant-loop-at l = (w : Datum) (rows : List Row) → map state_of l.fn.states ≡ states_after w (map aggregate_of l.aggregates) rows
    → map state_of l.states ≡ states_after w (take l.at (map aggregate_of l.aggregates)) (rows ++ map datum_of l.row ∷ [])
    ++ states_after w (drop l.at (map aggregate_of l.aggregates)) rows
