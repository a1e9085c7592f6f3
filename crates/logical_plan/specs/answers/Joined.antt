-- The rows of two SELECTs that an operator joins. (SELECT, "Compound Select Statements")
use Rattle.std.specs.Prelude.{not, Bool, true, false, List, [], ◌∷◌, ◌++◌, filter, if◌then◌else◌, IsPermutation}
use Rattle.std.specs.List.{list_any}
use Rattle.values.specs.Row.{Row}
use Rattle.semantics.specs.Query.{Operator, union, union_all, intersect, except}
use Rattle.semantics.specs.Times.{combined, same_row}
use Rattle.windows_groups.specs.distinct_rows.Firsts.{firsts}

-- whether a list has a row; NULLs count as equal
abbrev pub has_row : List Row → Row → Bool
has_row rows row = list_any (same_row row) rows

-- of these rows those that the others have, or those that they haven't
abbrev pub filtered : Bool → List Row → List Row → List Row
filtered true rows others = filter (has_row others) rows
filtered false rows others = filter (λ row. not (has_row others row)) rows

-- whether the row stays whose mark is the first
abbrev pub is_kept : Bool → List Bool → Bool
is_kept wanted [] = false
is_kept wanted (mark ∷ marks) = if wanted then mark else not mark

-- The rows of both sides, each once; all of them; each row of the left side once that the right side has, or that it hasn't.
abbrev pub joined_rows : Operator → List Row → List Row → List Row
joined_rows union xs ys = firsts (xs ++ ys)
joined_rows union_all xs ys = xs ++ ys
joined_rows intersect xs ys = firsts (filtered true xs ys)
joined_rows except xs ys = firsts (filtered false xs ys)

-- as a bag they are what the operator makes of the two sides, in whatever order these come
abbrev pub JoinedIsCombined : Type 0
JoinedIsCombined = (operator : Operator) (xs first ys second : List Row) → IsPermutation xs first → IsPermutation ys second
    → IsPermutation (combined operator xs ys) (joined_rows operator first second)
