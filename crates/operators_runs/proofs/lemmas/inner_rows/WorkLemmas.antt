-- The pages that a query with queries in it may ask for.
use Rattle.std.proofs.Common.{◌≡◌, ◌∙◌, ◌+◌, ◌≤◌, ℕ, zero, suc, List, [], ◌∷◌, ◌++◌, drop, if◌then◌else◌, length, map, sum_by, take, refl, sym, ap, subst, arith, IsPermutation}
use Rattle.std.specs.List.{AllZip}
use Rattle.std.proofs.lemmas.List.Sorted.{length_permutation}
use Rattle.std.proofs.lemmas.List.Sums.{sum_by-append, sum_by_push}
use Rattle.std.proofs.lemmas.Nat.{mul-le}
use Rattle.values.specs.Database.{Database}
use Rattle.values.specs.Datum.{Datum}
use Rattle.expr.specs.Filled.{filled}
use Rattle.expr.specs.Term.{Term}
use Rattle.logical_plan_queries.specs.compound_plans.Work.{from_work, selects_work, source_pages, times_read}
use Rattle.semantics_rewrites.proofs.lemmas.materialized_queries.AnswerLemmas.{as_answers, zip_back, zip_front}
use Rattle.semantics_rewrites.proofs.lemmas.materialized_queries.FlatLemmas.{AreFrom, behind, first_of, from_same, last_of}
use Rattle.semantics_rewrites.specs.materialized_queries.Flat.{materialized_from, materialized_source, kept_in, kept_of, kept_source, with_kept}
use Rattle.semantics_rewrites.specs.materialized_queries.FlatWith.{AreAnswers, materialized_body_with, queries_in, queries_of}
use Rattle.semantics.proofs.BodyLemmas.{from_rows-same}
use Rattle.semantics.specs.Body.{SameTables, answer_of, from_rows, values_over}
use Rattle.semantics.specs.Joins.{pads_left}
use Rattle.semantics.specs.Query.{Body, From, InnerQuery, Source, compound, derived, joined, nothing, schema, select, table, with_inner}
use Rattle.semantics.specs.Valuation.{Valuation}
use Rattle.logical_plan.specs.Plan.{table_size, TreeSizes}
use Rattle.semantics_rewrites.specs.schema_sources.Within.{IsBodyWithin, IsFromWithin}
use Rattle.operators_runs.specs.inner_rows.Work.{body_work, inner_work, kept_work, parts_work, query_work}

-- ---- the queries in a query as a list

module _ (w : Datum) (db : Database) (sizes : List TreeSizes) where
  one_source : (source : Source) → sum_by (kept_work w db sizes) (kept_source source) ≡ kept_work w db sizes source
  one_source (table at width) = refl
  one_source schema = refl
  one_source (derived of) = omega arith

  inner_is : (from : From) → inner_work w db sizes from ≡ parts_work w db sizes (kept_in from) (queries_in from)
  inner_is nothing = refl
  inner_is (joined from kind source on) =
      let before = inner_is from in
      let here = one_source source in
      let all = sum_by-append (kept_work w db sizes) (kept_in from) (kept_source source) in
      omega (arith, before, here, all)
  inner_is (with_inner from query) =
      let before = inner_is from in
      let all = sum_by_push (query_work w db sizes) (queries_in from) query in
      omega (arith, before, all)

  pub parts_both : (sources others : List Source) (queries more : List InnerQuery)
      → parts_work w db sizes (sources ++ others) (queries ++ more) ≡ parts_work w db sizes sources queries + parts_work w db sizes others more
  parts_both sources others queries more =
      let a = sum_by-append (kept_work w db sizes) sources others in
      let b = sum_by-append (query_work w db sizes) queries more in
      omega (arith, a, b)

  -- they are computed once, and then its own SELECTs
  pub body_is : (of : Body) → body_work w db sizes of ≡ parts_work w db sizes (kept_of of) (queries_of of) + selects_work w db sizes of
  body_is (select from s) = let inner = inner_is from in omega (arith, inner)
  body_is (compound before operator from s) =
      let first = body_is before in
      let inner = inner_is from in
      let both = parts_both (kept_of before) (kept_in from) (queries_of before) (queries_in from) in
      omega (arith, first, inner, both)

-- ---- the same query without the queries in it

size_front : (n : ℕ) (sizes : List TreeSizes) (at : ℕ) → table_size (take n sizes) at ≤ table_size sizes at
size_front zero sizes at = omega arith
size_front (suc n) [] at = omega arith
size_front (suc n) (size ∷ sizes) zero = omega arith
size_front (suc n) (size ∷ sizes) (suc at) = size_front n sizes at

size_behind : (n : ℕ) (sizes : List TreeSizes) (at : ℕ) → n ≤ at → table_size (take n sizes) at ≡ 0
size_behind zero sizes at behind = refl
size_behind (suc n) [] at behind = refl
size_behind (suc n) (size ∷ sizes) zero behind = absurd (omega (arith, behind))
size_behind (suc n) (size ∷ sizes) (suc at) behind = size_behind n sizes at (omega (arith, behind))

module _ (w : Datum) (db : Database) (kept : List Source) (others : Database) (same : SameTables others (with_kept w db kept)) (sizes : List TreeSizes) where
  abbrev count : ℕ
  count = length db.tables

  -- of the tables alone
  abbrev front : List TreeSizes
  front = take count sizes

  pages_fewer : (place : ℕ) (source : Source) → count ≤ place → source_pages front (materialized_source place source) ≤ source_pages sizes source
  pages_fewer place (table at width) behind = size_front count sizes at
  pages_fewer place schema behind = let none = size_behind count sizes place behind in omega (arith, none)
  pages_fewer place (derived of) behind = let none = size_behind count sizes place behind in omega (arith, none)

  from_fewer : (value : Valuation) (f : Term → Term) (place : ℕ) (from : From) → count ≤ place → IsFromWithin count from
      → AreFrom w db (with_kept w db kept).tables place (kept_in from)
      → from_work w others front value (materialized_from f place from) ≤ from_work w db sizes (λ t. value (f t)) from
  from_fewer value f place nothing behind is are = omega arith
  from_fewer value f place (joined from kind source on) behind is are =
      let at = place + length (kept_in from) in
      let flat = materialized_from f place from in
      let firsts = first_of w db (with_kept w db kept).tables place (kept_in from) (kept_source source) are in
      let long : length (from_rows w others value flat) ≡ length (from_rows w db (λ t. value (f t)) from) =
      sym (length_permutation (from_rows w others value flat) (from_rows w (with_kept w db kept) value flat)
      (from_rows-same w others (with_kept w db kept) same value flat))
      ∙ ap length (from_same w db kept value f place from is.0 firsts) in
      let times : times_read kind (from_rows w others value flat) ≡ times_read kind (from_rows w db (λ t. value (f t)) from) =
      ap (λ (n : ℕ). if pads_left kind then 1 else n) long in
      let before = from_fewer value f place from behind is.0 firsts in
      let pages = pages_fewer at source (omega (arith, behind)) in
      let here = mul-le (times_read kind (from_rows w others value flat)) (source_pages front (materialized_source at source))
      (times_read kind (from_rows w db (λ t. value (f t)) from)) (source_pages sizes source) (omega (arith, times)) pages in
      omega (arith, before, here)
  from_fewer value f place (with_inner from query) behind is are = from_fewer value f place from behind is.0 are

  select_fewer : (answers : List (List Datum)) (place : ℕ) (from : From) → count ≤ place → IsFromWithin count from
      → AreFrom w db (with_kept w db kept).tables place (kept_in from) → AllZip IsPermutation (map (answer_of w db) (queries_in from)) answers
      → from_work w others front (values_over w others (materialized_from (filled answers) place from)) (materialized_from (filled answers) place from)
      ≤ from_work w db sizes (values_over w db from) from
  select_fewer answers place from below is are alike =
      subst (λ (value : Valuation). from_work w others front (values_over w others (materialized_from (filled answers) place from)) (materialized_from (filled answers) place from)
      ≤ from_work w db sizes value from)
      (behind w db others answers place from (as_answers w db from answers alike))
      (from_fewer (values_over w others (materialized_from (filled answers) place from)) (filled answers) place from below is are)

  -- its SELECTs ask for no more pages
  pub selects_fewer : (answers : List (List Datum)) (place : ℕ) (of : Body) → count ≤ place → IsBodyWithin count of
      → AreFrom w db (with_kept w db kept).tables place (kept_of of) → AreAnswers w db of answers
      → selects_work w others front (materialized_body_with answers place of) ≤ selects_work w db sizes of
  selects_fewer answers place (select from s) below is are alike = select_fewer answers place from below is are alike
  selects_fewer answers place (compound before operator from s) below is are alike =
      let at = place + length (kept_of before) in
      let own = drop (length (queries_of before)) answers in
      let first = selects_fewer (take (length (queries_of before)) answers) place before below is.0
      (first_of w db (with_kept w db kept).tables place (kept_of before) (kept_in from) are)
      (zip_front IsPermutation (answer_of w db) (queries_of before) (queries_in from) answers alike) in
      let last = select_fewer own at from (omega (arith, below)) is.1
      (last_of w db (with_kept w db kept).tables place (kept_of before) (kept_in from) are)
      (zip_back IsPermutation (answer_of w db) (queries_of before) (queries_in from) answers alike) in
      omega (arith, first, last)
