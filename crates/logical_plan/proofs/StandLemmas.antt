-- Expressions over the columns that are read.
use Rattle.std.proofs.Common.{◌≡◌, ◌∙◌, ◌&&◌, ◌<◌, All, Bool, ℕ, List, [], ◌∷◌, Option, Some, None, IsPermutation, ◌||◌, true, false, not, refl, sym, ap, arith, unwrap_or}
use Rattle.std.specs.List.{list_all, list_any, range_with_len}
use Rattle.std.proofs.lemmas.List.Elements.{All-head, All-tail}
use Rattle.std.proofs.lemmas.List.FromFn.{get_or-map-range_with_len}
use Rattle.std.proofs.lemmas.List.Sorted.{list_any-IsPermutation}
use Rattle.values.specs.Datum.{Datum, null}
use Rattle.values.specs.Row.{Row}
use Rattle.expr.specs.Columns.{Agree, columns_of}
use Rattle.expr.specs.Conjuncts.{conjuncts, is_true, keeps}
use Rattle.expr.specs.Meaning.{eval, run}
use Rattle.expr.specs.operations.Operations.{truth}
use Rattle.expr.specs.Term.{Term}
use Rattle.expr.proofs.ColumnLemmas.{depends_on_columns}
use Rattle.expr.proofs.ConjunctLemmas.{keeps_conjuncts}
use Rattle.semantics.specs.OneTable.{shown}
use Rattle.semantics.specs.Sequence.{value_at}
use Rattle.semantics.specs.Valuation.{holds_on}
use Rattle.logical_plan.specs.Plan.{are_true}
use Rattle.logical_plan.specs.Stands.{AreTestsOf, StandsFor, StandsForItself}

whole_agrees : (width : ℕ) (row : Row) (columns : List ℕ) → All (λ at. at < width) columns → Agree (shown (range_with_len 0 width) row) row columns
whole_agrees width row [] within = tt
whole_agrees width row (at ∷ columns) within = (
  get_or-map-range_with_len (value_at row) 0 width at at null (All-head (λ at. at < width) at columns within) (omega arith),
  whole_agrees width row columns (All-tail (λ at. at < width) at columns within),
)

pub stands_for_itself : StandsForItself
stands_for_itself width t within = λ o row. depends_on_columns o (shown (range_with_len 0 width) row) row t (whole_agrees width row (columns_of t) within)

keeps_value : (value : Option Datum) → keeps (truth (unwrap_or value null)) ≡ is_true value
unfolding truth
keeps_value None = refl
keeps_value (Some v) = refl

-- a condition is true or not
pub holds_is_true : (w : Datum) (t : Term) (row : Row) → holds_on (eval w) t row ≡ is_true (run (Some w) row t)
holds_is_true w t row = keeps_value (run (Some w) row t)

module _ (w : Datum) (columns : List ℕ) where
  stands_value : (test t : Term) (row : Row) → StandsFor columns test t → holds_on (eval w) test (shown columns row) ≡ holds_on (eval w) t row
  stands_value test t row stands = ap (λ value. keeps (truth (unwrap_or value null))) (stands (Some w) row)

  -- the tests are true where the conditions are that they stand for
  pub tests_agree : (tests conditions : List Term) (row : Row) → AreTestsOf columns tests conditions
      → are_true w tests (shown columns row) ≡ are_true w conditions row
  tests_agree [] [] row all = refl
  tests_agree [] (t ∷ conditions) row all = absurd all
  tests_agree (test ∷ tests) [] row all = absurd all
  tests_agree (test ∷ tests) (t ∷ conditions) row all =
      rw (stands_value test t row all.0, tests_agree tests conditions row all.1) refl

-- all conjuncts of a condition are true where it is
pub conjuncts_are_true : (w : Datum) (t : Term) (row : Row) → are_true w (conjuncts t) row ≡ holds_on (eval w) t row
conjuncts_are_true w t row = each (conjuncts t) ∙ sym (keeps_conjuncts (Some w) row t) ∙ sym (holds_is_true w t row)
  where
    each : (ts : List Term) → are_true w ts row ≡ list_all (λ c. is_true (run (Some w) row c)) ts
    each [] = refl
    each (c ∷ ts) = rw (holds_is_true w c row, each ts) refl

not_any : {X : Type 0} (p : X → Bool) (xs : List X) → list_all p xs ≡ not (list_any (λ x. not (p x)) xs)
not_any p [] = refl
not_any p (x ∷ xs) = rw (not_any p xs) (elim (p x) as (λ b. (b && not (list_any (λ x. not (p x)) xs)) ≡ not (not b || list_any (λ x. not (p x)) xs)) [ true ↦ refl | false ↦ refl ])

pub list_all-IsPermutation : {X : Type 0} (p : X → Bool) (xs ys : List X) → IsPermutation xs ys → list_all p xs ≡ list_all p ys
list_all-IsPermutation p xs ys same =
    not_any p xs ∙ ap not (list_any-IsPermutation (λ x. not (p x)) xs ys same) ∙ sym (not_any p ys)
