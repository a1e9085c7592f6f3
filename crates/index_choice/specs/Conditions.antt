-- Which conjuncts imply a condition of a partial index. (Partial Indexes, "Queries Using Partial Indexes")
use Rattle.std.specs.Prelude.{◌≡◌, ◌⊎◌, ◌↔◌, ◌<◌, Bool, true, false, ◌||◌, ℕ, ◌+◌, nat_eq, length, if◌then◌else◌, List, [], ◌∷◌, ◌++◌, Option, Some, None}
use Rattle.std.specs.List.{Contains, HoldsAt}
use Rattle.values.specs.Datum.{Datum, null}
use Rattle.expr.specs.declared.operations.kinds.Function.TheVariants.{Not}
use Rattle.expr.specs.Conjuncts.{is_true}
use Rattle.expr.specs.Meaning.{run}
use Rattle.expr.specs.Term.{Term, call, compare, is, literal}
use Rattle.index_choice.specs.ColumnBounds.{column_of}
use Rattle.semantics_names.specs.Same.{is_same_term}

abbrev pub is_null_literal : Term → Bool
is_null_literal (literal null) = true
is_null_literal t = false

-- the column of `c IS NULL`
abbrev pub null_column : Term → Option ℕ
null_column (is a b) = if is_null_literal b then column_of a else None
null_column t = None

-- the column of `c IS NOT NULL`
abbrev pub not_null_column : Term → Option ℕ
not_null_column (call Not t) = null_column t
not_null_column t = None

abbrev pub is_column : ℕ → Option ℕ → Bool
is_column c None = false
is_column c (Some other) = nat_eq other c

-- a comparison of a column
abbrev pub compares : ℕ → Term → Bool
compares c (compare op a b) = is_column c (column_of a) || is_column c (column_of b)
compares c t = false

abbrev pub compares_some : Option ℕ → Term → Bool
compares_some None t = false
compares_some (Some c) t = compares c t

-- A conjunct implies a condition that is the same tree; and a comparison of a column that this isn't NULL.
abbrev pub Implies : Term → Term → Type 0
Implies conjunct condition = (conjunct ≡ condition) ⊎ (compares_some (not_null_column condition) conjunct ≡ true)

-- the same as a test
abbrev pub implies : Term → Term → Bool
implies conjunct condition = is_same_term conjunct condition || compares_some (not_null_column condition) conjunct

-- the places, from one on, of those of these conjuncts that imply a condition
abbrev pub implying_from : ℕ → Term → List Term → List ℕ
implying_from at condition [] = []
implying_from at condition (t ∷ ts) = (if implies t condition then at ∷ [] else []) ++ implying_from (at + 1) condition ts

-- those of conjuncts that imply a condition
abbrev pub implying : List Term → Term → List ℕ
implying conjuncts condition = implying_from 0 condition conjuncts

-- these are the places of the conjuncts of which each implies a condition
abbrev pub AreImplying : List Term → Term → List ℕ → Type 0
AreImplying conjuncts condition places =
    (at : ℕ) → Contains places at ↔ ((at < length conjuncts) × HoldsAt (λ conjunct. Implies conjunct condition) conjuncts at)

abbrev pub ImplyingAreImplying : Type 0
ImplyingAreImplying = (conjuncts : List Term) (condition : Term) → AreImplying conjuncts condition (implying conjuncts condition)

-- where a conjunct is true on a row, so is a condition that it implies, whatever stands for results out of range, if
-- anything does
abbrev pub ImpliedIsTrue : Type 0
ImpliedIsTrue = (conjunct condition : Term) → Implies conjunct condition → (o : Option Datum) (row : List Datum)
    → is_true (run o row conjunct) ≡ true → is_true (run o row condition) ≡ true
