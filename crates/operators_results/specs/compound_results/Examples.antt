-- Two lists of rows, one of them with NULLs, and what each operator makes of them.
use Rattle.std.specs.Prelude.{◌≡◌, ℕ, pos, List, [], ◌∷◌}
use Rattle.values.specs.Datum.{int, null}
use Rattle.values.specs.Row.{Row}
use Rattle.semantics.specs.Query.{union, union_all, intersect, except}
use Rattle.logical_plan.specs.answers.Joined.{joined_rows}

abbrev pub number : ℕ → Row
number n = int (pos n) ∷ []

abbrev pub none : Row
none = null ∷ []

abbrev pub left_rows : List Row
left_rows = number 1 ∷ none ∷ number 1 ∷ number 2 ∷ none ∷ []

abbrev pub right_rows : List Row
right_rows = none ∷ number 2 ∷ number 2 ∷ number 3 ∷ []

pub record JoinedExamples : Type 0 where
  pub union : joined_rows union left_rows right_rows ≡ number 1 ∷ none ∷ number 2 ∷ number 3 ∷ []
  pub union_all : joined_rows union_all left_rows right_rows
      ≡ number 1 ∷ none ∷ number 1 ∷ number 2 ∷ none ∷ none ∷ number 2 ∷ number 2 ∷ number 3 ∷ []
  pub intersect : joined_rows intersect left_rows right_rows ≡ none ∷ number 2 ∷ []
  pub except : joined_rows except left_rows right_rows ≡ number 1 ∷ []
