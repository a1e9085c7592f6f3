-- Which terms stand over the columns that are read, and what expressions over these stand for.
use Rattle.std.specs.Prelude.{◌≡◌, ◌≤◌, All, Contains, ℕ, List, length}
use Rattle.std.specs.List.{range_with_len}
use Rattle.values.specs.Datum.{Datum}
use Rattle.expr.specs.Columns.{columns_of}
use Rattle.expr.specs.Conjuncts.{conjuncts}
use Rattle.expr.specs.Filled.{filled}
use Rattle.expr.specs.Term.{Term}
use Rattle.logical_plan.specs.Stands.{AreTestsOf, StandsFor}
use Rattle.expr.specs.Names.{answers_of}

-- each column that a term names is read, and it names the answer of none of so many inner queries
pub record IsOver (read : List ℕ) (inner : ℕ) (t : Term) : Type 0 where
  pub columns : All (Contains read) (columns_of t)
  pub answers : All (λ at. inner ≤ at) (answers_of t)

-- an expression over the columns that are read stands for a term, whatever so many inner queries answer
abbrev pub StandsOver : List ℕ → ℕ → Term → Term → Type 0
StandsOver read inner e t = (answers : List (List Datum)) → length answers ≤ inner → StandsFor read e (filled answers t)

-- tests stand for the conjuncts of a condition, one by one
abbrev pub AreTestsOver : List ℕ → ℕ → List Term → Term → Type 0
AreTestsOver read inner tests condition =
    (answers : List (List Datum)) → length answers ≤ inner → AreTestsOf read tests (conjuncts (filled answers condition))

-- each column up to some place is read, in its place
abbrev pub AreWhole : List ℕ → Type 0
AreWhole read = read ≡ range_with_len 0 (length read)

-- an expression is the term itself, whatever so many inner queries answer
abbrev pub IsItself : ℕ → Term → Term → Type 0
IsItself inner e t = (answers : List (List Datum)) → length answers ≤ inner → e ≡ filled answers t
