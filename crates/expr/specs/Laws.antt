-- What holds of every expression and row.
use Rattle.std.specs.Prelude.{◌≡◌, Bool, true, false, not, List, Option, Some, None}
use Rattle.std.specs.List.{list_all, list_any}
use Rattle.values.specs.Datum.{Datum}
use Rattle.expr.specs.Term.{Term}
use Rattle.expr.specs.Meaning.{run, eval, exact}
use Rattle.expr.specs.Conjuncts.{conjuncts, is_conjunction, is_true}

-- a value with nothing out of range is the value, whatever stands for results out of range
abbrev pub StandsForAll : Type 0
StandsForAll = (w : Datum) (t : Term) (row : List Datum) (v : Datum) → exact t row ≡ Some v → run (Some w) row t ≡ Some v

-- there always is a value, where something stands for results out of range
abbrev pub IsTotal : Type 0
IsTotal = (w : Datum) (t : Term) (row : List Datum) → run (Some w) row t ≡ Some (eval w t row)

-- a condition is true exactly where each of its conjuncts is
abbrev pub KeepsConjuncts : Type 0
KeepsConjuncts = (o : Option Datum) (row : List Datum) (t : Term) → is_true (run o row t) ≡ list_all (λ c. is_true (run o row c)) (conjuncts t)

-- no conjunct is an AND or a BETWEEN
abbrev pub ConjunctsAreLeaves : Type 0
ConjunctsAreLeaves = (t : Term) → list_all (λ c. not (is_conjunction c)) (conjuncts t) ≡ true

abbrev pub is_none : {A : Type 0} → Option A → Bool
is_none None = true
is_none (Some _) = false

-- where a condition reaches an operation out of range, some conjunct does
abbrev pub AddsNoOverflow : Type 0
AddsNoOverflow = (row : List Datum) (t : Term) → exact t row ≡ None → list_any (λ c. is_none (exact c row)) (conjuncts t) ≡ true
