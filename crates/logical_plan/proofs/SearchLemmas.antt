-- Tables that no search reads.
use Rattle.std.proofs.Common.{◌≡◌, ◌⊎◌, inl, inr, arith, Any, List, None, subst}
use Rattle.values.specs.Database.{Database}
use Rattle.values.specs.Datum.{Datum}
use Rattle.values.specs.Row.{Row}
use Rattle.logical_plan.specs.Plan.{NestedData, PlanData, ReachesBeside, ReachesOverflow, bound_terms, rows_of, source_rows}

-- without a search no bound reaches an operation out of range
nothing_reached : (row : Row) → ReachesOverflow (bound_terms None) row → ⊥
nothing_reached row (k, t, within, is, reach) = absurd (omega (arith, within))

pub no_bound_reached : (rows : List Row) → Any (ReachesOverflow (bound_terms None)) rows → ⊥
no_bound_reached rows (k, row, within, is, reach) = nothing_reached row reach

-- so it is a condition that does
pub test_reached : (w : Datum) (db : Database) (left : PlanData) (nest : NestedData) → nest.search ≡ None
    → ReachesBeside nest.tests (rows_of w db left) (source_rows db nest) ⊎ Any (ReachesOverflow (bound_terms nest.search)) (rows_of w db left)
    → ReachesBeside nest.tests (rows_of w db left) (source_rows db nest)
test_reached w db left nest scanned (inl here) = here
test_reached w db left nest scanned (inr reached) =
    absurd (no_bound_reached (rows_of w db left) (subst (λ search. Any (ReachesOverflow (bound_terms search)) (rows_of w db left)) scanned reached))
