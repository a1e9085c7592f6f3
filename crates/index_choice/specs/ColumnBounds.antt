-- The bounds of columns that a conjunct says. (The SQLite Query Optimizer Overview, "WHERE Clause Analysis")
use Rattle.std.specs.Prelude.{◌≡◌, Bool, true, false, ℕ, List, [], ◌++◌, Option, Some, None, option_to_list, slice_index_or}
use Rattle.std.specs.List.{Contains}
use Rattle.std.specs.Ordering.{is_eq}
use Rattle.values.specs.Datum.{Datum, null}
use Rattle.expr.specs.declared.operations.kinds.Comparison.{Comparison}
use Rattle.expr.specs.declared.operations.kinds.Comparison.TheVariants.{Eq, Ne, Lt, Le, Gt, Ge}
use Rattle.expr.specs.Conjuncts.{is_true}
use Rattle.expr.specs.Meaning.{run}
use Rattle.expr.specs.Term.{Term, column, compare}
use Rattle.btree_cursor.specs.key_ranges.Ranges.{above, below, holds}
use Rattle.index_choice.specs.declared.comparisons.Side.{Side}
use Rattle.index_choice.specs.declared.comparisons.Side.TheVariants.{Equal, Lower, Upper}

-- a comparison of a column with a value, and whether it is one of `>` and `<`
pub record BoundTerm : Type 0 where
  pub side : Side
  pub strict : Bool
  pub column : ℕ
  pub value : Term

-- the column that an expression is
abbrev pub column_of : Term → Option ℕ
column_of (column c) = Some c
column_of t = None

-- `e op c` says of c what `c turned(op) e` says
abbrev pub turned : Comparison → Comparison
turned Eq = Eq
turned Ne = Ne
turned Lt = Gt
turned Le = Ge
turned Gt = Lt
turned Ge = Le

-- the bound that `c op value` says, where op isn't `<>`
abbrev pub bound_by : Comparison → ℕ → Term → Option BoundTerm
bound_by Eq c value = Some (record { side = Equal; strict = false; column = c; value = value })
bound_by Ne c value = None
bound_by Lt c value = Some (record { side = Upper; strict = true; column = c; value = value })
bound_by Le c value = Some (record { side = Upper; strict = false; column = c; value = value })
bound_by Gt c value = Some (record { side = Lower; strict = true; column = c; value = value })
bound_by Ge c value = Some (record { side = Lower; strict = false; column = c; value = value })

abbrev pub bound_at : Comparison → Option ℕ → Term → Option BoundTerm
bound_at op None value = None
bound_at op (Some c) value = bound_by op c value

abbrev pub column_bound : Comparison → Term → Term → Option BoundTerm
column_bound op left value = bound_at op (column_of left) value

-- the bound that a comparison says of its left side
abbrev pub left_bound : Term → Option BoundTerm
left_bound (compare op a b) = column_bound op a b
left_bound t = None

-- a comparison bounds either side that is a column by the other side
abbrev pub bounds_of : Term → List BoundTerm
bounds_of (compare op a b) = option_to_list (column_bound op a b) ++ option_to_list (column_bound (turned op) b a)
bounds_of t = []

-- what a bound says of the value of its column; a comparison with NULL is never true
abbrev pub says : Side → Bool → Datum → Datum → Bool
says Equal strict x value = holds is_eq x value
says Lower strict x value = holds (above strict) x value
says Upper strict x value = holds (below strict) x value

-- a conjunct is true on a row exactly where its bound says so of the column's value, whatever stands for results out of
-- range, if anything does
abbrev pub BoundSaysConjunct : Type 0
BoundSaysConjunct = (t : Term) (bound : BoundTerm) → Contains (bounds_of t) bound → (o : Option Datum) (row : List Datum) (value : Datum)
    → run o row bound.value ≡ Some value
    → is_true (run o row t) ≡ says bound.side bound.strict (slice_index_or row bound.column null) value
