-- What is known of the values of a set.
use Rattle.std.specs.Prelude.{◌≡◌, ℕ, ℤ, Bool, List}
use Rattle.std.specs.List.{list_any}
use Rattle.values.specs.Datum.{Datum}
use Rattle.expr.specs.operations.Operations.{is_null}
use Rattle.expr.specs.value_sets.Numbers.{AreNumbersOf}
use Rattle.expr.specs.value_sets.Order.{IsOrderOf}

-- the values' places in their order, the numbers among them, and whether NULL is
pub record IsSetOf (values : List Datum) (order : List ℕ) (numbers : List ℤ) (has_null : Bool) : Type 0 where
  pub ordered : IsOrderOf values order
  pub numbered : AreNumbersOf values numbers
  pub nulls : has_null ≡ list_any is_null values
