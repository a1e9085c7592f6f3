-- Where rows have the values of ORDER BY. (SELECT, "The ORDER BY clause")
use Rattle.std.specs.Prelude.{◌≡◌, ◌+◌, ◌<◌, ◌^◌, ◌++◌, ℕ, List, length}
use Rattle.values.specs.Datum.{Datum}
use Rattle.values.specs.Row.{Row}
use Rattle.expr.specs.Meaning.{eval}
use Rattle.expr.specs.Term.{Term}
use Rattle.semantics.specs.Body.{key_value}
use Rattle.semantics.specs.Hits.{key_terms}
use Rattle.semantics.specs.Query.{Direction, KeyTerm}
use Rattle.semantics.specs.Sequence.{value_at}
use Rattle.semantics.specs.Valuation.{term_values}
use Rattle.logical_plan_queries.specs.Made.{KeyTermStandsOver}

-- Rows have so many result columns, other values after them, and then that of the term, if it is no result column: at this place
-- they have its value.
abbrev pub IsPlaceOf : KeyTerm → ℕ → ℕ → ℕ → Type 0
IsPlaceOf by width next at =
    (w : Datum) (shown after more row : Row) (d : Direction) → length shown ≡ width → length shown + length after ≡ next
    → length (shown ++ (after ++ (term_values (eval w) (key_terms by) row ++ more))) < 2 ^ 64
    → value_at (shown ++ (after ++ (term_values (eval w) (key_terms by) row ++ more))) at ≡ key_value (eval w) shown row (record { by = by; direction = d })

-- a term of ORDER BY over the columns that are read, after these columns if it is no result column, and the place of its values
pub record IsPlacedOver (read : List ℕ) (width : ℕ) (whole : KeyTerm) (before columns : List Term) (at : ℕ) : Type 0 where
  pub by : KeyTerm
  pub stands : KeyTermStandsOver read by whole
  pub columns_are : columns ≡ before ++ key_terms by
  pub place : IsPlaceOf by width (length before) at
