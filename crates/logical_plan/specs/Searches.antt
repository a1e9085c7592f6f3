-- Searches that leave out only what the conditions of their table leave out. (The SQLite Query Optimizer Overview, "WHERE Clause
-- Analysis")
use Rattle.std.specs.Prelude.{◌≡◌, ◌+◌, ◌<◌, ◌++◌, ⊤, All, Bool, true, false, ℕ, List, [], ◌∷◌, length, Option, None, Some, slice_get}
use Rattle.std.specs.List.{Contains}
use Rattle.values.specs.Datum.{Datum}
use Rattle.values.specs.Row.{Row}
use Rattle.expr.specs.Columns.{columns_of}
use Rattle.expr.specs.Term.{Term}
use Rattle.semantics.specs.OneTable.{shown}
use Rattle.index_choice.specs.ColumnBounds.{bounds_of}
use Rattle.index_choice.specs.declared.comparisons.Side.{Side}
use Rattle.index_choice.specs.declared.comparisons.Side.TheVariants.{Equal, Lower, Upper}
use Rattle.logical_plan.specs.Plan.{EdgeTerm, NestedData, SearchData, are_true, is_sought}

-- A column of a table is bounded from a side by this value, as one of the table's conditions says, after rows of `before` values, to
-- which the value belongs.
pub record IsPromised (before : ℕ) (nest : NestedData) (side : Side) (strict : Bool) (value : Term) (c : ℕ) : Type 0 where
  pub at : ℕ
  pub column_is : slice_get nest.columns at ≡ Some c
  pub test : Term
  pub among : Contains nest.tests test
  pub bounds : Contains (bounds_of test) (record { side = side; strict = strict; column = before + at; value = value })
  pub early : All (λ named. named < before) (columns_of value)

module _ (before : ℕ) (nest : NestedData) where
  -- the first of these columns has this end
  abbrev pub IsEdgePromised : Side → List ℕ → Option EdgeTerm → Type 0
  IsEdgePromised side key None = ⊤
  IsEdgePromised side [] (Some edge) = ⊥
  IsEdgePromised side (c ∷ key) (Some edge) = IsPromised before nest side edge.strict edge.value c

  -- the first of these columns equal these values, and the one after them has these ends
  abbrev pub AreBoundsPromised : List ℕ → List Term → Option EdgeTerm → Option EdgeTerm → Type 0
  AreBoundsPromised key [] lower upper = IsEdgePromised Lower key lower × IsEdgePromised Upper key upper
  AreBoundsPromised [] (value ∷ equal) lower upper = ⊥
  AreBoundsPromised (c ∷ key) (value ∷ equal) lower upper = IsPromised before nest Equal false value c × AreBoundsPromised key equal lower upper

-- each bound of a search is one of the conditions of its table
abbrev pub IsSearchPromised : ℕ → NestedData → SearchData → Type 0
IsSearchPromised before nest s = AreBoundsPromised before nest s.key s.equal s.lower s.upper

-- so a row on which these are all true meets its range
abbrev pub SearchesLeaveOut : Type 0
SearchesLeaveOut = (w : Datum) (nest : NestedData) (s : SearchData) (l r : Row) → IsSearchPromised (length l) nest s
    → are_true w nest.tests (l ++ shown nest.columns r) ≡ true → is_sought w s l r ≡ true
