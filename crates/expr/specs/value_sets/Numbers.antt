-- The whole numbers of a list of values.
use Rattle.std.specs.Prelude.{ℤ, List, None, Option, Some, IsPermutation, IsSorted}
use Rattle.std.specs.List.{filter_map}
use Rattle.std.specs.Ordering.{int_cmp}
use Rattle.values.specs.Datum.{Datum, null, int, text, blob}

abbrev pub number_in : Datum → Option ℤ
number_in (int n) = Some n
number_in null = None
number_in (text _) = None
number_in (blob _) = None

-- the numbers of these values, ascending
pub record AreNumbersOf (values : List Datum) (numbers : List ℤ) : Type 0 where
  pub same : IsPermutation (filter_map number_in values) numbers
  pub ascends : IsSorted int_cmp numbers
