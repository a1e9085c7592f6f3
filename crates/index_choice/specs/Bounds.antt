-- What a choice of paths sees of a conjunct. (The SQLite Query Optimizer Overview, "WHERE Clause Analysis")
--
-- Columns are told by their places in the row of the whole FROM; `known` tells of each whether its source is placed.
use Rattle.std.specs.Prelude.{◌≡◌, Bool, true, false, ◌&&◌, ℕ, nat_eq, List, map, Option, Some, slice_get, slice_index_or}
use Rattle.std.specs.List.{Contains, list_all, list_any, position}
use Rattle.expr.specs.Columns.{columns_of}
use Rattle.expr.specs.Term.{Term}
use Rattle.index_choice.specs.declared.comparisons.Side.{Side}
use Rattle.index_choice.specs.declared.comparisons.Side.TheVariants.{Equal, Lower, Upper}
use Rattle.index_choice.specs.declared.conjuncts.Bound.{Bound}
use Rattle.index_choice.specs.declared.conjuncts.Conjunct.{Conjunct}
use Rattle.index_choice.specs.ColumnBounds.{BoundTerm, bounds_of}

-- a column that is bounded on a side, and the columns that the value names by which it is
pub record BoundData : Type 0 where
  pub side : Side
  pub column : ℕ
  pub over : List ℕ

abbrev pub bound_data : Bound → BoundData
bound_data b = record { side = b.side; column = b.column; over = b.over.items }

abbrev pub seen_bound : BoundTerm → BoundData
seen_bound b = record { side = b.side; column = b.column; over = columns_of b.value }

-- a conjunct as it is seen: the columns that it names, and its bounds
pub record ConjunctData : Type 0 where
  pub names : List ℕ
  pub bounds : List BoundData

abbrev pub conjunct_data : Conjunct → ConjunctData
conjunct_data c = record { names = c.names.items; bounds = map bound_data c.bounds.items }

abbrev pub seen_of : Term → ConjunctData
seen_of t = record { names = columns_of t; bounds = map seen_bound (bounds_of t) }

abbrev pub are_known : List Bool → List ℕ → Bool
are_known known columns = list_all (λ c. slice_index_or known c false) columns

abbrev pub same_side : Side → Side → Bool
same_side Equal Equal = true
same_side Lower Lower = true
same_side Upper Upper = true
same_side a b = false

-- it bounds a column on a side, by a value of known columns alone
abbrev pub is_bound_on : List Bool → Side → ℕ → BoundData → Bool
is_bound_on known side column bound = same_side bound.side side && nat_eq bound.column column && are_known known bound.over

abbrev pub bounds_column : List Bool → Side → ℕ → ConjunctData → Bool
bounds_column known side column conjunct = list_any (is_bound_on known side column) conjunct.bounds

-- the same of one in memory
abbrev pub has_bound_on : List Bool → Side → ℕ → Conjunct → Bool
has_bound_on known side column conjunct = list_any (λ bound. is_bound_on known side column (bound_data bound)) conjunct.bounds.items

-- the first of some conjuncts that does
abbrev pub first_bound : List Bool → List ConjunctData → Side → ℕ → Option ℕ
first_bound known conjuncts side column = position (bounds_column known side column) conjuncts

-- the conjunct at a place bounds a column on a side, by a value of known columns alone
pub record IsBoundAt (known : List Bool) (terms : List Term) (side : Side) (c at : ℕ) : Type 0 where
  pub term : Term
  pub there : slice_get terms at ≡ Some term
  pub bound : BoundTerm
  pub among : Contains (bounds_of term) bound
  pub side_is : bound.side ≡ side
  pub column_is : bound.column ≡ c
  pub known_is : are_known known (columns_of bound.value) ≡ true

-- the first conjunct that does, where some does
abbrev pub FirstBoundIsBound : Type 0
FirstBoundIsBound = (known : List Bool) (terms : List Term) (side : Side) (c at : ℕ)
    → first_bound known (map seen_of terms) side c ≡ Some at → IsBoundAt known terms side c at
