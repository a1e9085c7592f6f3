-- Lists put in order. (SELECT, "The ORDER BY clause")
use Rattle.std.specs.Prelude.{ℕ, Bool, true, false, if◌then◌else◌, List, [], ◌∷◌, drop, slice_index_or}
use Rattle.std.specs.Ordering.{nat_cmp, is_lt, on, then_cmp, flip_args}
use Rattle.std.specs.declared.cmp.Ordering.{Ordering}
use Rattle.std.specs.declared.cmp.Ordering.TheVariants.{Equal}
use Rattle.values.specs.Datum.{Datum, null}
use Rattle.values.specs.Order.{datum_cmp}
use Rattle.values.specs.Row.{Row}
use Rattle.expr.specs.operations.Operations.{is_null}
use Rattle.semantics.specs.Query.{Direction}

-- the value at a place of a row, and NULL past its end
abbrev pub value_at : Row → ℕ → Datum
value_at row at = slice_index_or row at null

-- where NULL stands beside other values
abbrev pub null_rank : Bool → Datum → ℕ
null_rank first value = if is_null value then (if first then 0 else 2) else 1

abbrev pub along : Bool → (Datum → Datum → Ordering) → Datum → Datum → Ordering
along true cmp = flip_args cmp
along false cmp = cmp

-- NULLs first or last, and the other values ascending or descending
abbrev pub directed_cmp : Direction → Datum → Datum → Ordering
directed_cmp d = then_cmp (on (null_rank d.nulls_first) nat_cmp) (along d.descending datum_cmp)

-- by the first value in which they differ, each by its direction
abbrev pub keys_cmp : List Direction → Row → Row → Ordering
keys_cmp [] x y = Equal
keys_cmp (d ∷ ds) x y = then_cmp (on (λ row. value_at row 0) (directed_cmp d)) (on (drop 1) (keys_cmp ds)) x y

-- a list in ascending order: each element is put before the first that is not less
module _ {X : Type 0} (lt : X → X → Bool) where
  abbrev pub inserted : X → List X → List X
  inserted x [] = x ∷ []
  inserted x (y ∷ ys) = if lt y x then y ∷ inserted x ys else (x ∷ y ∷ ys)

  abbrev pub ascending : List X → List X
  ascending [] = []
  ascending (x ∷ xs) = inserted x (ascending xs)

abbrev pub sorted : {X : Type 0} → (X → X → Ordering) → List X → List X
sorted cmp = ascending (λ x y. is_lt (cmp x y))
