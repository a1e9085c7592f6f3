-- What the expressions of one SELECT are on a row.
use Rattle.std.specs.Prelude.{Bool, List, ◌++◌, filter, map}
use Rattle.values.specs.Datum.{Datum}
use Rattle.expr.specs.Conjuncts.{keeps}
use Rattle.expr.specs.Filled.{filled}
use Rattle.expr.specs.Meaning.{eval}
use Rattle.expr.specs.operations.Operations.{truth}
use Rattle.expr.specs.Term.{Term}
use Rattle.values.specs.Row.{Row}

-- the value of each expression on each row
abbrev pub Valuation : Type 0
Valuation = Term → Row → Datum

-- the values where `w` stands for results out of range, and these are the answers of the SELECT's inner queries
abbrev pub with_answers : Datum → List (List Datum) → Valuation
with_answers w answers t = eval w (filled answers t)

module _ (value : Valuation) where
  abbrev pub term_values : List Term → Row → Row
  term_values terms row = map (λ t. value t row) terms

  abbrev pub holds_on : Term → Row → Bool
  holds_on condition row = keeps (truth (value condition row))

  -- the rows on which the condition is true
  abbrev pub kept : Term → List Row → List Row
  kept condition = filter (holds_on condition)

  -- the condition is true of two rows side by side
  abbrev pub meets : Term → Row → Row → Bool
  meets on l r = holds_on on (l ++ r)
