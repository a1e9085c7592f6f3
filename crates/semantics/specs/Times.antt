-- How often a bag holds a row, and bags that are stated so. (SELECT, "Compound Select Statements")
--
-- A bag is a list, and two bags are equal where one list is a permutation of the other.
use Rattle.std.specs.Prelude.{◌≡◌, ◌↔◌, ◌==◌, ℕ, ◌+◌, min, Bool, if◌then◌else◌, List, [], ◌∷◌, ◌++◌, flat_map, replicate, IsPermutation}
use Rattle.std.specs.List.{list_any}
use Rattle.std.specs.Ordering.{is_eq}
use Rattle.values.specs.Order.{row_cmp}
use Rattle.values.specs.Row.{Row}
use Rattle.semantics.specs.Query.{Operator, union, union_all, intersect, except}

-- NULLs count as equal
abbrev pub same_row : Row → Row → Bool
same_row a b = is_eq (row_cmp a b)

abbrev pub times : Row → List Row → ℕ
times row [] = 0
times row (x ∷ xs) = (if same_row row x then 1 else 0) + times row xs

-- each row of the bag once
abbrev pub once : List Row → List Row
once [] = []
once (x ∷ xs) = if list_any (same_row x) xs then once xs else (x ∷ once xs)

-- the bag that holds each row as often as the rule says, by how often the two bags hold it
abbrev pub by_times : (ℕ → ℕ → ℕ) → List Row → List Row → List Row
by_times rule xs ys = flat_map (λ row. replicate (rule (times row xs) (times row ys)) row) (once (xs ++ ys))

abbrev pub rule_of : Operator → ℕ → ℕ → ℕ
rule_of union m n = min 1 (m + n)
rule_of union_all m n = m + n
rule_of intersect m n = min 1 (min m n)
rule_of except m n = if n == 0 then min 1 m else 0

abbrev pub combined : Operator → List Row → List Row → List Row
combined operator = by_times (rule_of operator)

-- the rule of an operator is how often its bag holds a row
abbrev pub RulesAreTimes : Type 0
RulesAreTimes = (operator : Operator) (xs ys : List Row) (row : Row) → times row (combined operator xs ys) ≡ rule_of operator (times row xs) (times row ys)

-- two bags are equal exactly where they hold each row as often
abbrev pub BagsAreTimes : Type 0
BagsAreTimes = (xs ys : List Row) → IsPermutation xs ys ↔ ((row : Row) → times row xs ≡ times row ys)
