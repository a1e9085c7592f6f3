use Rattle.std.proofs.Common.{◌≡◌, [], map, take}
use Rattle.values.specs.Datum.{Datum}
use Rattle.windows_groups.specs.aggregates.State.{state_of, states_after}
use Rattle.windows_groups.proofs.aggregates.members.first_states.Given as goal
use Rattle.resolver_terms.specs.SelectView.{aggregate_of}

abbrev pub invariant-loop-aggregate : goal.invariant-loop-aggregate
invariant-loop-aggregate l = (w : Datum) → map state_of l.states.items ≡ states_after w (map aggregate_of (take l.aggregate-index l.aggregates)) []
