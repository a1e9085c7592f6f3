-- What a query without queries in it reaches, over tables whose rows stand in whichever order.
use Rattle.std.proofs.Common.{◌≡◌, ◌⊎◌, ℕ, ◌+◌, Bool, false, true, ◌||◌, List, [], ◌∷◌, ◌++◌, drop, length, map, take, refl, sym, ap, subst, ◌∙◌, arith, inl, inr, None, IsPermutation}
use Rattle.std.specs.List.{AllZip}
use Rattle.std.proofs.lemmas.List.Sorted.{Contains-permutation, IsPermutation-refl, length_permutation}
use Rattle.values.specs.Database.{Database}
use Rattle.values.specs.Datum.{Datum}
use Rattle.values.specs.Row.{Row}
use Rattle.expr.specs.Conjuncts.{conjuncts}
use Rattle.expr.specs.Filled.{filled}
use Rattle.expr.specs.Laws.{is_none}
use Rattle.expr.specs.Reaches.{reaches}
use Rattle.expr.specs.Term.{Term}
use Rattle.expr.proofs.FilledLemmas.{answers_are_bags, fills_conjuncts}
use Rattle.expr.proofs.ReachLemmas.{reached_is_none}
use Rattle.semantics.proofs.BodyLemmas.{from_rows-same, source_rows-same}
use Rattle.semantics.specs.Body.{SameTables, answer_of, answers_in, from_rows, rows_of, source_rows, values_over}
use Rattle.semantics.specs.Hits.{BodyHits, FromHits, Hits, HitsOrdered, IsChoice, IsChosen, SelectHits, SomeReaches, SourceHits, order_terms}
use Rattle.semantics.specs.Joins.{pads_left, pads_right}
use Rattle.semantics.specs.Query.{Body, From, Key, QueryData, Select, Source, compound, derived, joined, nothing, schema, select, source_width, table, with_inner}
use Rattle.semantics.specs.Valuation.{Valuation}
use Rattle.semantics_rewrites.proofs.lemmas.schema_sources.MappedLemmas.{order_terms_mapped}
use Rattle.semantics_rewrites.proofs.lemmas.schema_sources.SelectHitLemmas.{any_mapped, any_weaker}
use Rattle.semantics.specs.Mapped.{mapped_key, mapped_select}
use Rattle.semantics_rewrites.specs.schema_sources.Within.{IsBodyWithin, IsFromWithin, IsSourceWithin}
use Rattle.semantics_rewrites.proofs.lemmas.materialized_queries.AnswerLemmas.{all_same, answers_of, are_own, as_answers, materialized_is, zip_back, zip_front}
use Rattle.semantics_rewrites.proofs.lemmas.materialized_queries.FilledLemmas.{again}
use Rattle.semantics_rewrites.proofs.lemmas.materialized_queries.FlatLemmas.{AreFrom, all_from, behind, first_of, from_same, last_of, source_same, source_wide}
use Rattle.semantics_rewrites.proofs.lemmas.materialized_queries.SelectHitLemmas.{select_hits}
use Rattle.semantics_rewrites.specs.materialized_queries.Flat.{flat, materialized_from, materialized_source, kept_in, kept_of, kept_source, with_kept}
use Rattle.semantics_rewrites.specs.materialized_queries.FlatWith.{AreAnswers, materialized_body_with, materialized_with, last_answers, queries_in, queries_of}

-- ---- rows in another order

none_permuted : (xs ys : List Row) → IsPermutation xs ys → xs ≡ [] → ys ≡ []
none_permuted xs [] same none = refl
none_permuted xs (y ∷ ys) same none = let long = length_permutation xs (y ∷ ys) same in let short = ap length none in absurd (omega (arith, long, short))

chosen_permuted : (padded : Bool) (width : ℕ) (xs ys : List Row) (row : Row) → IsPermutation xs ys → IsChosen padded width xs row → IsChosen padded width ys row
chosen_permuted padded width xs ys row same (inl held) = inl (Contains-permutation xs ys row same held)
chosen_permuted padded width xs ys row same (inr (inl is, nulls)) = inr (inl is, nulls)
chosen_permuted padded width xs ys row same (inr (inr none, nulls)) = inr (inr (none_permuted xs ys same none), nulls)

-- an expression reaches the same with the values of inner queries in another order
reaches_alike : (w : Datum) (row : Row) (answers others : List (List Datum)) (t : Term) → AllZip IsPermutation answers others
    → reaches w row (filled others t) ≡ reaches w row (filled answers t)
reaches_alike w row answers others t alike =
    reached_is_none w row (filled others t) ∙ ap is_none (sym (answers_are_bags None row t answers others alike)) ∙ sym (reached_is_none w row (filled answers t))

module _ (w : Datum) (db : Database) (kept : List Source) (others : Database) (same : SameTables others (with_kept w db kept)) where
  abbrev other : Database
  other = with_kept w db kept

  abbrev count : ℕ
  count = length db.tables

  source_permuted : (place : ℕ) (source : Source) → IsSourceWithin count source → AreFrom w db other.tables place (kept_source source)
      → IsPermutation (source_rows w others (materialized_source place source)) (source_rows w db source)
  source_permuted place source is are =
      subst (IsPermutation (source_rows w others (materialized_source place source))) (source_same w db kept place source is are)
      (source_rows-same w others other same (materialized_source place source))

  choice_same : (f : Term → Term) (place : ℕ) (from : From) (padded : Bool) (row : Row) → IsFromWithin count from → AreFrom w db other.tables place (kept_in from)
      → IsChoice w others padded (materialized_from f place from) row → IsChoice w db padded from row
  choice_same f place nothing padded row is are chosen = chosen
  choice_same f place (joined from kind source on) padded row is are chosen =
      let at = place + length (kept_in from) in (
        chosen.0,
        chosen.1,
        chosen.2,
        choice_same f place from (padded || pads_left kind) chosen.0 is.0 (first_of w db other.tables place (kept_in from) (kept_source source) are) chosen.3,
        chosen_permuted (padded || pads_right kind) (source_width source) _ _ chosen.1
            (source_permuted at source is.1 (last_of w db other.tables place (kept_in from) (kept_source source) are))
            (subst (λ (width : ℕ). IsChosen (padded || pads_right kind) width (source_rows w others (materialized_source at source)) chosen.1) (source_wide w db kept at source) chosen.4),
      )
  choice_same f place (with_inner from query) padded row is are chosen = choice_same f place from padded row is.0 are chosen

  no_source_hits : (place : ℕ) (source : Source) → SourceHits w others (materialized_source place source) → ⊥
  no_source_hits place (table at width) hits = hits
  no_source_hits place schema hits = hits
  no_source_hits place (derived of) hits = hits

  module _ (answers : List (List Datum)) where
    abbrev f : Term → Term
    f = filled answers

    module _ (own : List (List Datum)) (alike : AllZip IsPermutation own answers) where
      -- of conditions with answers in the places of inner queries
      reached_is : (none : List (List Datum)) (row : Row) (t : Term) → reaches w row (filled none (f t)) ≡ reaches w row (filled own t)
      reached_is none row t = ap (reaches w row) (again answers none t) ∙ reaches_alike w row own answers t alike

      reached_same : (none : List (List Datum)) (row : Row) (on : Term) → SomeReaches w none row (conjuncts (f on)) → SomeReaches w own row (conjuncts on)
      reached_same none row on any =
          any_weaker (λ t. reaches w row (filled none (f t)) ≡ true) (λ t. reaches w row (filled own t) ≡ true)
          (λ t reached. sym (reached_is none row t) ∙ reached) (conjuncts on)
          (any_mapped (λ t. reaches w row (filled none t) ≡ true) f (conjuncts on)
          (subst (SomeReaches w none row) (fills_conjuncts answers on) any))

      from_hits : (none : List (List Datum)) (place : ℕ) (from : From) (padded : Bool) → IsFromWithin count from → AreFrom w db other.tables place (kept_in from)
          → FromHits w others none (materialized_from f place from) padded → FromHits w db own from padded
      from_hits none place nothing padded is are hits = hits
      from_hits none place (joined from kind source on) padded is are (inl hits) =
          inl (from_hits none place from (padded || pads_left kind) is.0 (first_of w db other.tables place (kept_in from) (kept_source source) are) hits)
      from_hits none place (joined from kind source on) padded is are (inr (inl hits)) =
          absurd (no_source_hits (place + length (kept_in from)) source hits)
      from_hits none place (joined from kind source on) padded is are (inr (inr (row, chosen, reached))) =
          inr (inr (row, choice_same f place (joined from kind source on) padded row is are chosen, reached_same none row on reached))
      from_hits none place (with_inner from query) padded is are hits = inl (from_hits none place from padded is.0 are hits)

    module _ (place : ℕ) (from : From) (is : IsFromWithin count from) (are : AreFrom w db other.tables place (kept_in from))
        (alike : AllZip IsPermutation (answers_in w db from) answers) where
      abbrev materialized_one : From
      materialized_one = materialized_from f place from

      rows_permuted : IsPermutation (rows_of w others materialized_one) (rows_of w db from)
      rows_permuted =
          subst (IsPermutation (rows_of w others materialized_one))
          (from_same w db kept (values_over w others materialized_one) f place from is are ∙ ap (λ (v : Valuation). from_rows w db v from) (behind w db others answers place from alike))
          (from_rows-same w others other same (values_over w others materialized_one) materialized_one)

      selected : (s : Select) (terms : List Term) → SelectHits w others materialized_one (mapped_select f s) (map f terms) → SelectHits w db from s terms
      selected s terms hits =
          select_hits w db others from materialized_one s f (behind w db others answers place from alike)
          (λ row t. reached_is (answers_in w db from) alike (answers_in w others materialized_one) row t) (fills_conjuncts answers)
          rows_permuted (λ row. choice_same f place from false row is are) terms hits

      one_hits : (s : Select) (terms : List Term)
          → FromHits w others (answers_in w others materialized_one) materialized_one false ⊎ SelectHits w others materialized_one (mapped_select f s) (map f terms)
          → FromHits w db (answers_in w db from) from false ⊎ SelectHits w db from s terms
      one_hits s terms (inl hits) = inl (from_hits (answers_in w db from) alike (answers_in w others materialized_one) place from false is are hits)
      one_hits s terms (inr hits) = inr (selected s terms hits)

  last_alike : (before : Body) (from : From) (answers : List (List Datum)) → AllZip IsPermutation (map (answer_of w db) (queries_of before ++ queries_in from)) answers
      → AllZip IsPermutation (answers_in w db from) (drop (length (queries_of before)) answers)
  last_alike before from answers alike =
      as_answers w db from (drop (length (queries_of before)) answers) (zip_back IsPermutation (answer_of w db) (queries_of before) (queries_in from) answers alike)

  body_hits : (answers : List (List Datum)) (place : ℕ) (of : Body) → IsBodyWithin count of → AreFrom w db other.tables place (kept_of of) → AreAnswers w db of answers
      → BodyHits w others (materialized_body_with answers place of) → BodyHits w db of
  body_hits answers place (select from s) is are alike hits = one_hits answers place from is are (as_answers w db from answers alike) s [] hits
  body_hits answers place (compound before operator from s) is are alike (inl hits) =
      inl (body_hits (take (length (queries_of before)) answers) place before is.0 (first_of w db other.tables place (kept_of before) (kept_in from) are)
      (zip_front IsPermutation (answer_of w db) (queries_of before) (queries_in from) answers alike) hits)
  body_hits answers place (compound before operator from s) is are alike (inr hits) =
      inr (one_hits (drop (length (queries_of before)) answers) (place + length (kept_of before)) from is.1
      (last_of w db other.tables place (kept_of before) (kept_in from) are) (last_alike before from answers alike) s [] hits)

  ordered_hits : (answers : List (List Datum)) (place : ℕ) (order : List Key) (of : Body) → IsBodyWithin count of → AreFrom w db other.tables place (kept_of of)
      → AreAnswers w db of answers
      → HitsOrdered w others (map (mapped_key (filled (last_answers answers of))) order) (materialized_body_with answers place of) → HitsOrdered w db order of
  ordered_hits answers place order (select from s) is are alike hits =
      one_hits answers place from is are (as_answers w db from answers alike) s (order_terms order)
      (subst (λ (terms : List Term). FromHits w others (answers_in w others (materialized_from (filled answers) place from)) (materialized_from (filled answers) place from) false
      ⊎ SelectHits w others (materialized_from (filled answers) place from) (mapped_select (filled answers) s) terms) (order_terms_mapped (filled answers) order) hits)
  ordered_hits answers place order (compound before operator from s) is are alike hits =
      body_hits answers place (compound before operator from s) is are alike hits

module _ (w : Datum) (db : Database) (query : QueryData) (is : IsBodyWithin (length db.tables) query.body) where
  pub materialized_with_hits : (others : Database) (answers : List (List Datum)) → SameTables others (with_kept w db (kept_of query.body)) → AreAnswers w db query.body answers
      → Hits w others (materialized_with answers (length db.tables) query) → Hits w db query
  materialized_with_hits others answers same alike hits =
      ordered_hits w db (kept_of query.body) others same answers (length db.tables) query.order query.body is (all_from w db (kept_of query.body)) alike hits

  -- with the values of its own inner queries, in their order
  pub materialized_hits_over : (others : Database) → SameTables others (with_kept w db (kept_of query.body))
      → Hits w others (flat w db (length db.tables) query) → Hits w db query
  materialized_hits_over others same hits =
      materialized_with_hits others (answers_of w db query.body) same (are_own w db query.body) (subst (Hits w others) (sym (materialized_is w db (length db.tables) query)) hits)

  own_tables : SameTables (with_kept w db (kept_of query.body)) (with_kept w db (kept_of query.body))
  own_tables = record { schema = IsPermutation-refl db.schema; tables = all_same (with_kept w db (kept_of query.body)).tables }

  pub materialized_hits : Hits w (with_kept w db (kept_of query.body)) (flat w db (length db.tables) query) → Hits w db query
  materialized_hits hits = materialized_hits_over (with_kept w db (kept_of query.body)) own_tables hits
