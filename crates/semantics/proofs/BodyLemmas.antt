-- The body over tables that are the same bags.
use Rattle.std.proofs.Common.{◌≡◌, ℕ, zero, suc, Bool, true, false, cond, List, [], ◌∷◌, ◌++◌, slice_index_or, Some, unwrap_or, refl, subst, arith, IsPermutation}
use Rattle.std.specs.List.{AllZip}
use Rattle.std.proofs.lemmas.List.Sorted.{IsPermutation-refl, IsPermutation-map, length_permutation}
use Rattle.values.specs.Datum.{Datum, null}
use Rattle.expr.proofs.FilledLemmas.{answers_are_bags}
use Rattle.semantics.specs.Sequence.{value_at}
use Rattle.semantics.specs.Query.{Body, From, InnerQuery, Key, Select, Source, compound, derived, from_width, joined, nothing, schema, select, source_width, table, values_of, exists, with_inner}
use Rattle.values.specs.Row.{Row}
use Rattle.semantics.specs.Valuation.{Valuation, holds_on, meets, term_values, with_answers}
use Rattle.values.specs.Database.{Database}
use Rattle.semantics.specs.Body.{SameTables, Output, answer_of, answers_in, body_rows, distinct, from_rows, one_if_some, output, outputs, plain_outputs, results, rows_of, select_outputs, select_rows, source_rows, values_over}
use Rattle.expr.proofs.BagLemmas.{IsPermutation-filter, IsPermutation-same}
use Rattle.semantics.proofs.TimesLemmas.{IsPermutation-combined, IsPermutation-once}
use Rattle.semantics.proofs.JoinLemmas.{IsPermutation-join}
use Rattle.semantics.proofs.GroupLemmas.{grouped-same, windowed-same}

same_table : (db other : List (List Row)) (at : ℕ) → AllZip IsPermutation db other
    → IsPermutation (slice_index_or db at []) (slice_index_or other at [])
same_table [] [] at same = IsPermutation-refl []
same_table (rows ∷ db) (others ∷ other) zero same = same.0
same_table (rows ∷ db) (others ∷ other) (suc at) same = same_table db other at same.1
same_table [] (others ∷ other) at same = absurd same
same_table (rows ∷ db) [] at same = absurd same

distinct-same : (b : Bool) (xs ys : List Row) → IsPermutation xs ys → IsPermutation (distinct b xs) (distinct b ys)
distinct-same true xs ys p = IsPermutation-once xs ys p
distinct-same false xs ys p = p

module _ (value : Valuation) (w : Datum) where
  pub select_rows-same : (s : Select) (xs ys : List Row) → IsPermutation xs ys → IsPermutation (select_rows value w s xs) (select_rows value w s ys)
  select_rows-same s xs ys p =
      windowed-same value w s.windows _ _ (grouped-same value w s.grouping _ _ (IsPermutation-filter (holds_on value s.condition) xs ys p))

  pub results-same : (s : Select) (xs ys : List Row) → IsPermutation xs ys → IsPermutation (results value w s xs) (results value w s ys)
  results-same s xs ys p =
      distinct-same s.distinct _ _ (IsPermutation-map (term_values value s.columns) _ _ (select_rows-same s xs ys p))

-- the values of expressions depend on the bags of answers alone
pub same_values : (w : Datum) (answers others : List (List Datum)) → AllZip IsPermutation answers others → with_answers w answers ≡ with_answers w others
same_values w answers others same = λ i t row. unwrap_or (answers_are_bags (Some w) row t answers others same i) null

one_if_some-same : (xs ys : List Row) → IsPermutation xs ys → one_if_some xs ≡ one_if_some ys
one_if_some-same [] [] p = refl
one_if_some-same (x ∷ xs) (y ∷ ys) p = refl
one_if_some-same [] (y ∷ ys) p = let long = length_permutation [] (y ∷ ys) p in absurd (omega (arith, long))
one_if_some-same (x ∷ xs) [] p = let long = length_permutation (x ∷ xs) [] p in absurd (omega (arith, long))

pub AllZip-append : {A B : Type 0} (R : A → B → Type 0) (xs : List A) (ys : List B) (x : A) (y : B) → AllZip R xs ys → R x y → AllZip R (xs ++ x ∷ []) (ys ++ y ∷ [])
AllZip-append R [] [] x y all last = (last, tt)
AllZip-append R [] (b ∷ ys) x y all last = absurd all
AllZip-append R (a ∷ xs) [] x y all last = absurd all
AllZip-append R (a ∷ xs) (b ∷ ys) x y all last = (all.0, AllZip-append R xs ys x y all.1 last)

module _ (w : Datum) (db other : Database) (same : SameTables db other) where
  -- over equal values of expressions
  results_over : (s : Select) (answers others : List (List Datum)) (xs ys : List Row) → AllZip IsPermutation answers others → IsPermutation xs ys
      → IsPermutation (results (with_answers w answers) w s xs) (results (with_answers w others) w s ys)
  results_over s answers others xs ys alike p =
      subst (λ value. IsPermutation (results (with_answers w answers) w s xs) (results value w s ys)) (same_values w answers others alike)
      (results-same (with_answers w answers) w s xs ys p)

  -- the results of a SELECT, from the answers of its inner queries and the rows of its sources
  selected : (from : From) (s : Select) → AllZip IsPermutation (answers_in w db from) (answers_in w other from)
      → ((value : Valuation) → IsPermutation (from_rows w db value from) (from_rows w other value from))
      → IsPermutation (results (values_over w db from) w s (rows_of w db from)) (results (values_over w other from) w s (rows_of w other from))
  selected from s alike rows =
      results_over s (answers_in w db from) (answers_in w other from) _ _ alike
      (subst (λ value. IsPermutation (from_rows w db (values_over w db from) from) (from_rows w other value from))
      (same_values w (answers_in w db from) (answers_in w other from) alike) (rows (values_over w db from)))

  mutual
    pub source_rows-same : (source : Source) → IsPermutation (source_rows w db source) (source_rows w other source)
    source_rows-same (table at width) = same_table db.tables other.tables at same.tables
    source_rows-same schema = same.schema
    source_rows-same (derived body) = body_rows-same body

    pub from_rows-same : (value : Valuation) (from : From) → IsPermutation (from_rows w db value from) (from_rows w other value from)
    from_rows-same value nothing = IsPermutation-refl _
    from_rows-same value (joined from kind source on) =
        IsPermutation-join kind (from_width from) (source_width source) (meets value on) _ _ _ _ (from_rows-same value from) (source_rows-same source)
    from_rows-same value (with_inner from query) = from_rows-same value from

    answer-same : (query : InnerQuery) → IsPermutation (answer_of w db query) (answer_of w other query)
    answer-same (values_of body) = IsPermutation-map (λ row. value_at row 0) _ _ (body_rows-same body)
    answer-same (exists body) = IsPermutation-same _ _ (one_if_some-same _ _ (body_rows-same body))

    pub answers-same : (from : From) → AllZip IsPermutation (answers_in w db from) (answers_in w other from)
    answers-same nothing = tt
    answers-same (joined from kind source on) = answers-same from
    answers-same (with_inner from query) = AllZip-append IsPermutation _ _ _ _ (answers-same from) (answer-same query)

    pub body_rows-same : (body : Body) → IsPermutation (body_rows w db body) (body_rows w other body)
    body_rows-same (select from s) = selected from s (answers-same from) (λ value. from_rows-same value from)
    body_rows-same (compound body operator from s) =
        IsPermutation-combined operator _ _ _ _ (body_rows-same body) (selected from s (answers-same from) (λ value. from_rows-same value from))

  values_over-same : (from : From) → values_over w db from ≡ values_over w other from
  values_over-same from = same_values w (answers_in w db from) (answers_in w other from) (answers-same from)

  plain-same : (order : List Key) (from : From) (body : Body)
      → IsPermutation (plain_outputs (values_over w db from) order (body_rows w db body)) (plain_outputs (values_over w other from) order (body_rows w other body))
  plain-same order from body =
      subst (λ value. IsPermutation (plain_outputs (values_over w db from) order (body_rows w db body)) (plain_outputs value order (body_rows w other body))) (values_over-same from)
      (IsPermutation-map (λ shown. output (values_over w db from) order shown []) _ _ (body_rows-same body))

  select_outputs-same : (order : List Key) (from : From) (s : Select)
      → IsPermutation (select_outputs (values_over w db from) w order s (rows_of w db from)) (select_outputs (values_over w other from) w order s (rows_of w other from))
  select_outputs-same order from s =
      subst (λ value. IsPermutation (select_outputs (values_over w db from) w order s (rows_of w db from)) (select_outputs value w order s (from_rows w other value from))) (values_over-same from)
      (IsPermutation-map (λ row. output (values_over w db from) order (term_values (values_over w db from) s.columns row) row) _ _
      (select_rows-same (values_over w db from) w s _ _ (from_rows-same (values_over w db from) from)))

  either : (b : Bool) (ps qs ps' qs' : List Output) → IsPermutation ps ps' → IsPermutation qs qs' → IsPermutation (cond b ps qs) (cond b ps' qs')
  either true ps qs ps' qs' p q = p
  either false ps qs ps' qs' p q = q

  pub outputs-same : (order : List Key) (body : Body) → IsPermutation (outputs w db order body) (outputs w other order body)
  outputs-same order (select from s) = either s.distinct _ _ _ _ (plain-same order from (select from s)) (select_outputs-same order from s)
  outputs-same order (compound body operator from s) = plain-same order from (compound body operator from s)
