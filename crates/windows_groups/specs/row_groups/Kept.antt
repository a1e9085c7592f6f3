-- What is kept of the groups of rows.
use Rattle.std.specs.Prelude.{◌≡◌, ℕ, List, length, map}
use Rattle.values.specs.Datum.{Datum}
use Rattle.values.specs.Row.{Row}
use Rattle.expr.specs.Meaning.{eval}
use Rattle.semantics.specs.Groups.{group_of}
use Rattle.windows_groups.specs.aggregates.State.{State, state_of, states_after}
use Rattle.windows_groups.specs.row_groups.GroupView.{GroupTermsData}
use Rattle.windows_groups.specs.row_groups.Gathered.{first_keys}
use Rattle.windows_groups.specs.declared.row_groups.gathered.Groups.{Groups}

abbrev pub states_of : Groups → List (List State)
states_of groups = map (λ states. map state_of states.items) groups.states.items

abbrev pub count_of : Groups → ℕ
count_of groups = length groups.keys.keys

-- what is kept of the rows with this key
abbrev pub group_states : Datum → GroupTermsData → List Row → Row → List State
group_states w terms rows key = states_after w terms.aggregates (group_of (eval w) terms.by rows key).members

-- they are the groups of these rows, in the order in which the keys first come
pub record AreGroupsOf (w : Datum) (terms : GroupTermsData) (groups : Groups) (rows : List Row) : Type 0 where
  pub keys : groups.keys.keys ≡ first_keys w terms.by rows
  pub states : states_of groups ≡ map (group_states w terms rows) (first_keys w terms.by rows)
