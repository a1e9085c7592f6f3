-- A condition split at AND, a BETWEEN as two.
use Rattle.std.specs.Prelude.{Bool, true, false, List, [], ◌∷◌, ◌++◌, Option, Some, None}
use Rattle.expr.specs.declared.operations.kinds.Comparison.TheVariants.{Ge, Le}
use Rattle.values.specs.Datum.{Datum}
use Rattle.expr.specs.operations.Operations.{truth}
use Rattle.expr.specs.Term.{Term, and, between, compare}

abbrev pub conjuncts : Term → List Term
conjuncts (and a b) = conjuncts a ++ conjuncts b
conjuncts (between x a b) = compare Ge x a ∷ compare Le x b ∷ []
conjuncts t = t ∷ []

abbrev pub is_conjunction : Term → Bool
is_conjunction (and a b) = true
is_conjunction (between x a b) = true
is_conjunction t = false

-- a condition that is true keeps its row
abbrev pub keeps : Option Bool → Bool
keeps (Some true) = true
keeps _ = false

abbrev pub is_true : Option Datum → Bool
is_true None = false
is_true (Some v) = keeps (truth v)
