-- Rows gathered by the values of GROUP BY, in the order in which these first come. (SELECT, "Generation of the set of result
-- rows")
use Rattle.std.specs.Prelude.{◌≡◌, Any, Bool, true, false, ℕ, suc, List, [], ◌∷◌, ◌++◌, drop, map, reverse, None, IsPermutation}
use Rattle.values.specs.Datum.{Datum}
use Rattle.values.specs.Row.{Row}
use Rattle.expr.specs.Meaning.{Overflows, eval}
use Rattle.expr.specs.Term.{Term}
use Rattle.semantics.specs.Groups.{Group, aggregate_result, group_of, group_row, group_rows, groups}
use Rattle.semantics.specs.Hits.{AggregateLeaves}
use Rattle.semantics.specs.Query.{Aggregate, Grouping}
use Rattle.semantics.specs.Times.{once}
use Rattle.semantics.specs.Valuation.{term_values}
use Rattle.windows_groups.specs.row_groups.GroupView.{GroupTermsData}

-- each row once, in the order in which they first come
abbrev pub firsts : List Row → List Row
firsts rows = reverse (once (reverse rows))

-- the values of GROUP BY that some row has; without terms there is one group, also of no rows
abbrev pub first_keys : Datum → List Term → List Row → List Row
first_keys w [] rows = [] ∷ []
first_keys w (term ∷ terms) rows = firsts (map (term_values (eval w) (term ∷ terms)) rows)

abbrev pub groups_in_order : Datum → List Term → List Row → List Group
groups_in_order w by rows = map (group_of (eval w) by rows) (first_keys w by rows)

-- a row for each group: the values of GROUP BY, and then the aggregates
abbrev pub gathered_rows : Datum → GroupTermsData → List Row → List Row
gathered_rows w terms rows = map (group_row (eval w) w terms.aggregates) (groups_in_order w terms.by rows)

-- a term reaches an operation out of range on a row
abbrev pub ReachesIn : GroupTermsData → Row → Type 0
ReachesIn terms row = Any (λ t. Overflows t row) (terms.by ++ map (λ a. a.argument) terms.aggregates)

-- the number of an aggregate of the group leaves 64 bits
abbrev pub IsLeaving : Datum → List Aggregate → Group → Type 0
IsLeaving w aggregates group = Any (λ a. aggregate_result (eval w) None a group.members ≡ None) aggregates

-- the row at a place, or none
abbrev pub GivesRowAt : Bool → List Row → ℕ → Row → Type 0
GivesRowAt true rows at row = drop at rows ≡ row ∷ drop (suc at) rows
GivesRowAt false rows at row = drop at rows ≡ []

-- they are the bag that GROUP BY gives
abbrev pub GatheredAreGroups : Type 0
GatheredAreGroups = (w : Datum) (g : Grouping) (rows : List Row)
    → IsPermutation (group_rows (eval w) w g rows) (gathered_rows w (record { by = g.by; aggregates = g.aggregates }) rows)

abbrev pub GatheredLeaveAsGroups : Type 0
GatheredLeaveAsGroups = (w : Datum) (g : Grouping) (rows : List Row) → Any (IsLeaving w g.aggregates) (groups_in_order w g.by rows)
    → Any (AggregateLeaves (eval w) g) (groups (eval w) g.by rows)
