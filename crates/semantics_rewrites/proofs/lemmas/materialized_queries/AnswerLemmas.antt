-- The values of the inner queries of a body, in their order.
use Rattle.std.proofs.Common.{◌≡◌, ℕ, ◌+◌, List, [], ◌∷◌, ◌++◌, drop, length, map, take, refl, sym, ap, subst, ◌∙◌, arith, IsPermutation}
use Rattle.std.specs.List.{AllZip}
use Rattle.std.proofs.lemmas.List.{map-append}
use Rattle.std.proofs.lemmas.List.Sorted.{IsPermutation-map, IsPermutation-refl, IsPermutation-sym, length_permutation}
use Rattle.expr.proofs.BagLemmas.{IsPermutation-same}
use Rattle.expr.specs.Filled.{filled}
use Rattle.values.specs.Database.{Database}
use Rattle.values.specs.Datum.{Datum}
use Rattle.values.specs.Row.{Row}
use Rattle.semantics.specs.Body.{answer_of, answers_in, body_rows, one_if_some}
use Rattle.semantics.specs.Query.{Body, From, InnerQuery, QueryData, compound, exists, joined, nothing, select, values_of, with_inner}
use Rattle.semantics.specs.Sequence.{value_at}
use Rattle.semantics.specs.Mapped.{mapped_key, mapped_select}
use Rattle.semantics_rewrites.specs.materialized_queries.Flat.{flat, materialized_body, materialized_from, kept_of, last_from}
use Rattle.semantics_rewrites.specs.materialized_queries.FlatWith.{AreAnswers, answer_from, body_in, materialized_body_with, materialized_with, last_answers, queries_in, queries_of}

module _ {A B C : Type 0} (R : B → C → Type 0) (g : A → B) where
  pub zip_front : (xs ys : List A) (zs : List C) → AllZip R (map g (xs ++ ys)) zs → AllZip R (map g xs) (take (length xs) zs)
  zip_front [] ys zs all = tt
  zip_front (x ∷ xs) ys [] all = absurd all
  zip_front (x ∷ xs) ys (z ∷ zs) all = (all.0, zip_front xs ys zs all.1)

  pub zip_back : (xs ys : List A) (zs : List C) → AllZip R (map g (xs ++ ys)) zs → AllZip R (map g ys) (drop (length xs) zs)
  zip_back [] ys zs all = all
  zip_back (x ∷ xs) ys [] all = absurd all
  zip_back (x ∷ xs) ys (z ∷ zs) all = zip_back xs ys zs all.1

pub all_same : {A : Type 0} (xs : List (List A)) → AllZip IsPermutation xs xs
all_same [] = tt
all_same (x ∷ xs) = (IsPermutation-refl x, all_same xs)

pub zip_turned : {A : Type 0} (xs ys : List (List A)) → AllZip IsPermutation xs ys → AllZip IsPermutation ys xs
zip_turned [] [] all = tt
zip_turned [] (y ∷ ys) all = absurd all
zip_turned (x ∷ xs) [] all = absurd all
zip_turned (x ∷ xs) (y ∷ ys) all = (IsPermutation-sym x y all.0, zip_turned xs ys all.1)

front_is : {A B : Type 0} (g : A → B) (xs ys : List A) → take (length xs) (map g (xs ++ ys)) ≡ map g xs
front_is g [] ys = refl
front_is g (x ∷ xs) ys = ap (λ rest. g x ∷ rest) (front_is g xs ys)

back_is : {A B : Type 0} (g : A → B) (xs ys : List A) → drop (length xs) (map g (xs ++ ys)) ≡ map g ys
back_is g [] ys = refl
back_is g (x ∷ xs) ys = back_is g xs ys

some_alike : (xs ys : List Row) → IsPermutation xs ys → one_if_some xs ≡ one_if_some ys
some_alike [] [] p = refl
some_alike (x ∷ xs) (y ∷ ys) p = refl
some_alike [] (y ∷ ys) p = let long = length_permutation [] (y ∷ ys) p in absurd (omega (arith, long))
some_alike (x ∷ xs) [] p = let long = length_permutation (x ∷ xs) [] p in absurd (omega (arith, long))

module _ (w : Datum) (db : Database) where
  -- the values of a body's own inner queries
  abbrev pub answers_of : Body → List (List Datum)
  answers_of of = map (answer_of w db) (queries_of of)

  pub are_own : (of : Body) → AreAnswers w db of (answers_of of)
  are_own of = all_same (answers_of of)

  answers_are : (from : From) → answers_in w db from ≡ map (answer_of w db) (queries_in from)
  answers_are nothing = refl
  answers_are (joined from kind source on) = answers_are from
  answers_are (with_inner from query) =
      ap (λ before. before ++ answer_of w db query ∷ []) (answers_are from) ∙ sym (map-append (answer_of w db) (queries_in from) (query ∷ []))

  pub as_answers : (from : From) (answers : List (List Datum)) → AllZip IsPermutation (map (answer_of w db) (queries_in from)) answers
      → AllZip IsPermutation (answers_in w db from) answers
  as_answers from answers alike = subst (λ own. AllZip IsPermutation own answers) (sym (answers_are from)) alike

  last_are : (of : Body) → last_answers (answers_of of) of ≡ answers_in w db (last_from of)
  last_are (select from s) = sym (answers_are from)
  last_are (compound before operator from s) = back_is (answer_of w db) (queries_of before) (queries_in from) ∙ sym (answers_are from)

  pub materialized_body_is : (place : ℕ) (of : Body) → materialized_body_with (answers_of of) place of ≡ materialized_body w db place of
  materialized_body_is place (select from s) =
      ap (λ answers. select (materialized_from (filled answers) place from) (mapped_select (filled answers) s)) (sym (answers_are from))
  materialized_body_is place (compound before operator from s) =
      let at = place + length (kept_of before) in
      let own = drop (length (queries_of before)) (answers_of (compound before operator from s)) in
      ap (λ answers. compound (materialized_body_with answers place before) operator (materialized_from (filled own) at from) (mapped_select (filled own) s))
      (front_is (answer_of w db) (queries_of before) (queries_in from))
      ∙ ap (λ body. compound body operator (materialized_from (filled own) at from) (mapped_select (filled own) s)) (materialized_body_is place before)
      ∙ ap (λ answers. compound (materialized_body w db place before) operator (materialized_from (filled answers) at from) (mapped_select (filled answers) s))
      (last_are (compound before operator from s))

  pub materialized_is : (place : ℕ) (query : QueryData) → materialized_with (answers_of query.body) place query ≡ flat w db place query
  materialized_is place query =
      ap (λ (of : Body). record query { body = of; order = map (mapped_key (filled (last_answers (answers_of query.body) query.body))) query.order }) (materialized_body_is place query.body)
      ∙ ap (λ (answers : List (List Datum)). record query { body = materialized_body w db place query.body; order = map (mapped_key (filled answers)) query.order }) (last_are query.body)

  -- the values of an inner query, from its rows in whichever order
  pub answer_alike : (query : InnerQuery) (rows : List Row) → IsPermutation (body_rows w db (body_in query)) rows
      → IsPermutation (answer_of w db query) (answer_from query rows)
  answer_alike (values_of of) rows same = IsPermutation-map (λ (row : Row). value_at row 0) _ _ same
  answer_alike (exists of) rows same = IsPermutation-same _ _ (some_alike (body_rows w db of) rows same)
