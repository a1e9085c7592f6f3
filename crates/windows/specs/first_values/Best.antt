-- The first of the values at a set of places that aren't NULL. (Built-in Aggregate Functions)
use Rattle.std.specs.Prelude.{◌≡◌, ℕ, Bool, true, false, List, Option, Some, None}
use Rattle.std.specs.Ordering.{flip_args, is_lt}
use Rattle.std.specs.declared.cmp.Ordering.{Ordering}
use Rattle.values.specs.Datum.{Datum}
use Rattle.values.specs.Order.{datum_cmp}
use Rattle.expr.specs.operations.Operations.{is_null}
use Rattle.semantics.specs.Sequence.{value_at}
use Rattle.windows.specs.declared.first_values.best.Side.{Side}
use Rattle.windows.specs.declared.first_values.best.Side.TheVariants as sides

abbrev pub side_cmp : Side → Datum → Datum → Ordering
side_cmp sides.Least = datum_cmp
side_cmp sides.Greatest = flip_args datum_cmp

-- no value of the set comes before that at this place
pub record IsFirst (side : Side) (xs : List Datum) (S : ℕ → Bool) (place : ℕ) : Type 0 where
  pub inside : S place ≡ true
  pub whole : is_null (value_at xs place) ≡ false
  pub first : (i : ℕ) → S i ≡ true → is_null (value_at xs i) ≡ false → is_lt (side_cmp side (value_at xs i) (value_at xs place)) ≡ false

-- the place of the first, or none where all are NULL
pub record IsBest (side : Side) (xs : List Datum) (S : ℕ → Bool) (best : Option ℕ) : Type 0 where
  pub none : best ≡ None → (i : ℕ) → S i ≡ true → is_null (value_at xs i) ≡ true
  pub some : (place : ℕ) → best ≡ Some place → IsFirst side xs S place
