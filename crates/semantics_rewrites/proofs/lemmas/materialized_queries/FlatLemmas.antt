-- The rows of a query without queries in it.
use Rattle.std.proofs.Common.{◌≡◌, Bool, ℕ, ◌+◌, suc, List, [], ◌∷◌, ◌++◌, drop, length, map, take, slice_index_or, cond, refl, sym, ap, subst, ◌∙◌, arith, IsPermutation, IsSortedByKey}
use Rattle.std.specs.List.{AllZip}
use Rattle.std.proofs.lemmas.List.{get_or_append_left, length-append}
use Rattle.std.proofs.Math.Seq.{get_or-append_seam}
use Rattle.values.specs.Database.{Database}
use Rattle.values.specs.Datum.{Datum}
use Rattle.values.specs.Row.{Row}
use Rattle.expr.specs.Filled.{filled}
use Rattle.expr.specs.Term.{Term}
use Rattle.semantics.specs.Answer.{Permits, key_directions}
use Rattle.semantics.specs.Body.{Output, SameTables, answer_of, answers_in, body, body_rows, from_rows, outputs, plain_outputs, results, rows_of, select_outputs, source_rows, values_over}
use Rattle.semantics.proofs.AnswerLemmas.{Permits-bags}
use Rattle.semantics.proofs.BodyLemmas.{same_values}
use Rattle.semantics.proofs.GroupLemmas.{map-map}
use Rattle.semantics.specs.Query.{Body, Direction, From, Key, QueryData, Select, Source, compound, derived, from_width, joined, nothing, schema, select, source_width, table, with_inner}
use Rattle.semantics.specs.Sequence.{keys_cmp}
use Rattle.semantics.specs.Times.{combined}
use Rattle.semantics.specs.Valuation.{Valuation}
use Rattle.expr.specs.Meaning.{eval}
use Rattle.semantics_rewrites.proofs.lemmas.schema_sources.MappedLemmas.{plain_mapped, results_mapped, select_outputs_mapped}
use Rattle.semantics.specs.Mapped.{mapped_key, mapped_select}
use Rattle.semantics_rewrites.specs.schema_sources.Within.{IsBodyWithin, IsFromWithin, IsSourceWithin}
use Rattle.semantics_rewrites.proofs.lemmas.materialized_queries.FilledLemmas.{again}
use Rattle.semantics_rewrites.proofs.lemmas.materialized_queries.AnswerLemmas.{answers_of, are_own, as_answers, materialized_is, zip_back, zip_front}
use Rattle.semantics_rewrites.specs.materialized_queries.Flat.{flat, materialized_from, materialized_source, kept_in, kept_of, kept_source, with_kept}
use Rattle.semantics_rewrites.specs.materialized_queries.FlatWith.{AreAnswers, materialized_body_with, materialized_with, last_answers, queries_in, queries_of}

module _ (w : Datum) (db : Database) where
  -- the rows of these sources stand in a list, from this place on
  abbrev pub AreFrom : List (List Row) → ℕ → List Source → Type 0
  AreFrom tables place [] = Unit {0}
  AreFrom tables place (source ∷ sources) = (slice_index_or tables place [] ≡ source_rows w db source) × AreFrom tables (suc place) sources

  pub first_of : (tables : List (List Row)) (place : ℕ) (xs ys : List Source) → AreFrom tables place (xs ++ ys) → AreFrom tables place xs
  first_of tables place [] ys are = tt
  first_of tables place (x ∷ xs) ys are = (are.0, first_of tables (suc place) xs ys are.1)

  pub last_of : (tables : List (List Row)) (place : ℕ) (xs ys : List Source) → AreFrom tables place (xs ++ ys) → AreFrom tables (place + length xs) ys
  last_of tables place [] ys are = subst (λ n. AreFrom tables n ys) (omega arith) are
  last_of tables place (x ∷ xs) ys are = subst (λ n. AreFrom tables n ys) (omega arith) (last_of tables (suc place) xs ys are.1)

  next_front : (front : List (List Row)) (rows : List Row) (rest : List (List Row)) → (front ++ rows ∷ []) ++ rest ≡ front ++ rows ∷ rest
  next_front [] rows rest = refl
  next_front (x ∷ front) rows rest = ap (λ more. x ∷ more) (next_front front rows rest)

  behind_front : (front : List (List Row)) (place : ℕ) (sources : List Source) → place ≡ length front → AreFrom (front ++ map (source_rows w db) sources) place sources
  behind_front front place [] long = tt
  behind_front front place (source ∷ sources) long = (
    subst (λ n. slice_index_or (front ++ map (source_rows w db) (source ∷ sources)) n [] ≡ source_rows w db source) (sym long)
        (get_or-append_seam front (source_rows w db source) (map (source_rows w db) sources) []),
    subst (λ tables. AreFrom tables (suc place) sources) (next_front front (source_rows w db source) (map (source_rows w db) sources))
        (behind_front (front ++ source_rows w db source ∷ []) (suc place) sources (omega (arith, long, length-append front (source_rows w db source ∷ [])))),
  )

  -- expressions in which the values of inner queries stand in any order
  pub behind : (other : Database) (answers : List (List Datum)) (place : ℕ) (from : From) → AllZip IsPermutation (answers_in w db from) answers
      → (λ t. values_over w other (materialized_from (filled answers) place from) (filled answers t)) ≡ values_over w db from
  behind other answers place from alike =
      (λ i t. eval w (again answers (answers_in w other (materialized_from (filled answers) place from)) t i)) ∙ sym (same_values w (answers_in w db from) answers alike)

  -- a database with more tables
  module _ (kept : List Source) where
    abbrev other : Database
    other = with_kept w db kept

    abbrev count : ℕ
    count = length db.tables

    pub all_from : AreFrom other.tables count kept
    all_from = behind_front db.tables count kept refl

    pub source_same : (place : ℕ) (source : Source) → IsSourceWithin count source → AreFrom other.tables place (kept_source source)
        → source_rows w other (materialized_source place source) ≡ source_rows w db source
    source_same place (table at width) is are = get_or_append_left db.tables (map (source_rows w db) kept) [] at is
    source_same place schema is are = are.0
    source_same place (derived of) is are = are.0

    pub source_wide : (place : ℕ) (source : Source) → source_width (materialized_source place source) ≡ source_width source
    source_wide place (table at width) = refl
    source_wide place schema = refl
    source_wide place (derived of) = refl

    pub from_wide : (f : Term → Term) (place : ℕ) (from : From) → from_width (materialized_from f place from) ≡ from_width from
    from_wide f place nothing = refl
    from_wide f place (joined from kind source on) = rw (from_wide f place from, source_wide (place + length (kept_in from)) source) refl
    from_wide f place (with_inner from query) = from_wide f place from

    pub from_same : (value : Valuation) (f : Term → Term) (place : ℕ) (from : From) → IsFromWithin count from → AreFrom other.tables place (kept_in from)
        → from_rows w other value (materialized_from f place from) ≡ from_rows w db (λ t. value (f t)) from
    from_same value f place nothing is are = refl
    from_same value f place (joined from kind source on) is are =
        rw (
          from_wide f place from,
          source_wide (place + length (kept_in from)) source,
          from_same value f place from is.0 (first_of other.tables place (kept_in from) (kept_source source) are),
          source_same (place + length (kept_in from)) source is.1 (last_of other.tables place (kept_in from) (kept_source source) are),
        ) refl
    from_same value f place (with_inner from query) is are = from_same value f place from is.0 are

    -- a SELECT with this FROM, in which these expressions stand, whose values are those of its own
    module _ (f : Term → Term) (place : ℕ) (from : From) (is : IsFromWithin count from) (are : AreFrom other.tables place (kept_in from))
        (behind_is : (λ t. values_over w other (materialized_from f place from) (f t)) ≡ values_over w db from) where
      abbrev materialized_one : From
      materialized_one = materialized_from f place from

      rows_same : rows_of w other materialized_one ≡ rows_of w db from
      rows_same = from_same (values_over w other materialized_one) f place from is are ∙ ap (λ (v : Valuation). from_rows w db v from) behind_is

      results_same : (s : Select)
          → results (values_over w other materialized_one) w (mapped_select f s) (rows_of w other materialized_one) ≡ results (values_over w db from) w s (rows_of w db from)
      results_same s =
          results_mapped (values_over w other materialized_one) f w s (rows_of w other materialized_one)
          ∙ ap (λ (v : Valuation). results v w s (rows_of w other materialized_one)) behind_is ∙ ap (results (values_over w db from) w s) rows_same

      plain_same : (order : List Key) (rows others : List Row) → rows ≡ others
          → plain_outputs (values_over w other materialized_one) (map (mapped_key f) order) rows ≡ plain_outputs (values_over w db from) order others
      plain_same order rows others same =
          plain_mapped (values_over w other materialized_one) f order rows
          ∙ ap (λ (v : Valuation). plain_outputs v order rows) behind_is ∙ ap (plain_outputs (values_over w db from) order) same

      outputs_of : (order : List Key) (s : Select)
          → select_outputs (values_over w other materialized_one) w (map (mapped_key f) order) (mapped_select f s) (rows_of w other materialized_one)
          ≡ select_outputs (values_over w db from) w order s (rows_of w db from)
      outputs_of order s =
          select_outputs_mapped (values_over w other materialized_one) f w order s (rows_of w other materialized_one)
          ∙ ap (λ (v : Valuation). select_outputs v w order s (rows_of w other materialized_one)) behind_is
          ∙ ap (select_outputs (values_over w db from) w order s) rows_same

    body_same : (answers : List (List Datum)) (place : ℕ) (of : Body) → IsBodyWithin count of → AreFrom other.tables place (kept_of of) → AreAnswers w db of answers
        → body_rows w other (materialized_body_with answers place of) ≡ body_rows w db of
    body_same answers place (select from s) is are alike = results_same (filled answers) place from is are (behind other answers place from (as_answers w db from answers alike)) s
    body_same answers place (compound before operator from s) is are alike =
        let at = place + length (kept_of before) in
        let own = drop (length (queries_of before)) answers in
        let own_alike = as_answers w db from own (zip_back IsPermutation (answer_of w db) (queries_of before) (queries_in from) answers alike) in
        ap (λ (rows : List Row). combined operator rows (results (values_over w other (materialized_from (filled own) at from)) w
        (mapped_select (filled own) s) (rows_of w other (materialized_from (filled own) at from))))
        (body_same (take (length (queries_of before)) answers) place before is.0 (first_of other.tables place (kept_of before) (kept_in from) are)
        (zip_front IsPermutation (answer_of w db) (queries_of before) (queries_in from) answers alike))
        ∙ ap (combined operator (body_rows w db before))
        (results_same (filled own) at from is.1 (last_of other.tables place (kept_of before) (kept_in from) are) (behind other own at from own_alike) s)

    either : {A : Type 0} (b : Bool) (x x' y y' : A) → x ≡ x' → y ≡ y' → cond b x y ≡ cond b x' y'
    either b x x' y y' p q = ap (λ z. cond b z y) p ∙ ap (cond b x') q

    outputs_same : (answers : List (List Datum)) (place : ℕ) (order : List Key) (of : Body) → IsBodyWithin count of → AreFrom other.tables place (kept_of of)
        → AreAnswers w db of answers
        → outputs w other (map (mapped_key (filled (last_answers answers of))) order) (materialized_body_with answers place of) ≡ outputs w db order of
    outputs_same answers place order (select from s) is are alike =
        let here = behind other answers place from (as_answers w db from answers alike) in
        either s.distinct _ _ _ _ (plain_same (filled answers) place from is are here order _ _ (body_same answers place (select from s) is are alike))
        (outputs_of (filled answers) place from is are here order s)
    outputs_same answers place order (compound before operator from s) is are alike =
        let at = place + length (kept_of before) in
        let own = drop (length (queries_of before)) answers in
        let own_alike = as_answers w db from own (zip_back IsPermutation (answer_of w db) (queries_of before) (queries_in from) answers alike) in
        plain_same (filled own) at from is.1 (last_of other.tables place (kept_of before) (kept_in from) are) (behind other own at from own_alike) order _ _
        (body_same answers place (compound before operator from s) is are alike)

  directions_are : (f : Term → Term) (order : List Key) → key_directions (map (mapped_key f) order) ≡ key_directions order
  directions_are f order = map-map (λ (key : Key). key.direction) (mapped_key f) order

  module _ (query : QueryData) (is : IsBodyWithin (length db.tables) query.body) where
    materialized_same : (answers : List (List Datum)) → AreAnswers w db query.body answers
        → body w (with_kept w db (kept_of query.body)) (materialized_with answers (length db.tables) query) ≡ body w db query
    materialized_same answers alike =
        outputs_same (kept_of query.body) answers (length db.tables) query.order query.body is (all_from (kept_of query.body)) alike

    pub materialized_with_permits : (others : Database) (answers : List (List Datum)) (rows : List Row) → SameTables others (with_kept w db (kept_of query.body))
        → AreAnswers w db query.body answers → Permits w others (materialized_with answers (length db.tables) query) rows → Permits w db query rows
    materialized_with_permits others answers rows same alike permits =
        let p = Permits-bags w others (with_kept w db (kept_of query.body)) (materialized_with answers (length db.tables) query) rows same permits in
        record {
          ordered = p.ordered;
          same = subst (λ (os : List Output). IsPermutation os p.ordered) (materialized_same answers alike) p.same;
          ascends = subst (λ (ds : List Direction). IsSortedByKey (λ (o : Output). o.keys) (keys_cmp ds) p.ordered)
              (directions_are (filled (last_answers answers query.body)) query.order) p.ascends;
          shown = p.shown;
        }

    -- with the values of its own inner queries, in their order
    pub materialized_body_same : body w (with_kept w db (kept_of query.body)) (flat w db (length db.tables) query) ≡ body w db query
    materialized_body_same =
        ap (body w (with_kept w db (kept_of query.body))) (sym (materialized_is w db (length db.tables) query))
        ∙ materialized_same (answers_of w db query.body) (are_own w db query.body)

    pub materialized_permits : (others : Database) (rows : List Row) → SameTables others (with_kept w db (kept_of query.body))
        → Permits w others (flat w db (length db.tables) query) rows → Permits w db query rows
    materialized_permits others rows same permits =
        materialized_with_permits others (answers_of w db query.body) rows same (are_own w db query.body)
        (subst (λ (q : QueryData). Permits w others q rows) (sym (materialized_is w db (length db.tables) query)) permits)
