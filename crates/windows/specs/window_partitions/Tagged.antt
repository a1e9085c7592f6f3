-- Rows with their numbers in a list, and lists that hold equal rows in one order.
use Rattle.std.specs.Prelude.{◌≡◌, ◌+◌, ℕ, All, List, [], ◌∷◌, filter, map}
use Rattle.values.specs.Row.{Row}
use Rattle.expr.specs.Term.{Term}
use Rattle.semantics.specs.Query.{SortTerm}
use Rattle.semantics.specs.Times.{same_row}

-- from a number on
abbrev pub tagged : {X : Type 0} → ℕ → List X → List (X × ℕ)
tagged n [] = []
tagged n (x ∷ xs) = (x, n) ∷ tagged (n + 1) xs

abbrev pub rows_of_tags : List (Row × ℕ) → List Row
rows_of_tags tags = map (λ t. t.0) tags

-- those that are equal to a row
abbrev pub copies : Row → List (Row × ℕ) → List (Row × ℕ)
copies row tags = filter (λ t. same_row row t.0) tags

-- the rows that are equal to one of these stand here in the order that they have there
abbrev pub AreAlike : List (Row × ℕ) → List (Row × ℕ) → Type 0
AreAlike given tags = All (λ t. copies t.0 tags ≡ copies t.0 given) tags

abbrev pub terms_of : List SortTerm → List Term
terms_of order = map (λ s. s.term) order
