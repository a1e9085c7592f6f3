-- The queries in one that can be run can be run, and the query without them is one that is served.
use Rattle.std.proofs.Common.{◌≡◌, ◌∙◌, ◌<◌, ◌+◌, All, ℕ, List, [], ◌∷◌, ◌++◌, append-nil, append_assoc, drop, length, take, refl, sym, ap, subst}
use Rattle.std.proofs.lemmas.List.{length-append}
use Rattle.std.proofs.lemmas.List.Elements.{All-append, All-cons, All-head, All-nil, All-tail}
use Rattle.values.specs.Datum.{Datum}
use Rattle.values.specs.declared.value.Ty.{Ty}
use Rattle.values.specs.declared.value.Ty.TheVariants.{Int}
use Rattle.expr.specs.Columns.{columns_of}
use Rattle.expr.specs.Filled.{filled}
use Rattle.expr.specs.Term.{Term}
use Rattle.resolver_bodies.specs.BodyView.{JoinedData, joined_all}
use Rattle.resolver_copies.specs.materialized_bodies.FlatView.{kept_among}
use Rattle.semantics_rewrites.specs.materialized_queries.Flat.{materialized_from, materialized_source, kept_in, kept_of, kept_source}
use Rattle.semantics_rewrites.specs.materialized_queries.FlatWith.{body_in, materialized_body_with, queries_in, queries_of}
use Rattle.semantics_rewrites.proofs.lemmas.materialized_queries.PartLemmas.{queries_typed, sources_typed}
use Rattle.semantics.specs.Query.{Body, From, InnerQuery, Source, compound, derived, exists, from_width, joined, nothing, schema, select, source_width, table, values_of, with_inner}
use Rattle.semantics.specs.Typed.{BodyHasTypes, FromHasTypes, SourceHasTypes}
use Rattle.semantics_names.specs.Statement.{with_answers}
use Rattle.logical_plan_queries.specs.Served.{HaveServedForm}
use Rattle.logical_plan_terms.specs.table_plans.TableJoins.{AreTableJoins, IsTableSource}
use Rattle.operators_runs.specs.inner_rows.Runnable.{AreComputable, IsComputableBody, IsRunnableBody, IsRunnableFrom, IsRunnableInner, IsRunnableSource}
use Rattle.operators_runs.proofs.lemmas.inner_rows.WithinLemmas.{term_within}

-- ---- the queries in it

one_source : (P : Source → Type 0) (source : Source) → P source → All P (kept_source source)
one_source P (table at width) holds = All-nil P
one_source P schema holds = All-cons P schema [] holds (All-nil P)
one_source P (derived of) holds = All-cons P (derived of) [] holds (All-nil P)

inner_is : (query : InnerQuery) → IsRunnableInner query → IsRunnableBody (body_in query)
inner_is (values_of of) is = is
inner_is (exists of) is = is

sources_in : (from : From) → IsRunnableFrom from → All IsRunnableSource (kept_in from)
sources_in nothing is = All-nil _
sources_in (joined from kind source on) is =
    All-append IsRunnableSource (kept_in from) (kept_source source) (sources_in from is.0) (one_source IsRunnableSource source is.1)
sources_in (with_inner from query) is = sources_in from is.0

sources_of_body : (of : Body) → IsRunnableBody of → All IsRunnableSource (kept_of of)
sources_of_body (select from s) is = sources_in from is
sources_of_body (compound before operator from s) is =
    All-append IsRunnableSource (kept_of before) (kept_in from) (sources_of_body before is.0) (sources_in from is.1)

abbrev QueryRuns : InnerQuery → Type 0
QueryRuns query = IsRunnableBody (body_in query)

queries_found_in : (from : From) → IsRunnableFrom from → All QueryRuns (queries_in from)
queries_found_in nothing is = All-nil _
queries_found_in (joined from kind source on) is = queries_found_in from is.0
queries_found_in (with_inner from query) is =
    All-append QueryRuns (queries_in from) (query ∷ []) (queries_found_in from is.0) (All-cons QueryRuns query [] (inner_is query is.1) (All-nil _))

queries_of_body : (of : Body) → IsRunnableBody of → All QueryRuns (queries_of of)
queries_of_body (select from s) is = queries_found_in from is
queries_of_body (compound before operator from s) is =
    All-append QueryRuns (queries_of before) (queries_in from) (queries_of_body before is.0) (queries_found_in from is.1)

all_both : {A : Type 0} (P Q : A → Type 0) (xs : List A) → All P xs → All Q xs → All (λ x. P x × Q x) xs
all_both P Q [] p q = All-nil _
all_both P Q (x ∷ xs) p q = All-cons (λ x. P x × Q x) x xs (All-head P x xs p, All-head Q x xs q) (all_both P Q xs (All-tail P x xs p) (All-tail Q x xs q))

pub computable_parts : (catalog : List (List Ty)) (of : Body) → IsComputableBody catalog of → AreComputable catalog (kept_of of) (queries_of of)
computable_parts catalog of (runs, (types, has)) = (
  all_both IsRunnableSource (λ source. (types : List Ty) × SourceHasTypes catalog source types) (kept_of of) (sources_of_body of runs) (sources_typed catalog of types has),
  all_both QueryRuns (λ query. (types : List Ty) × BodyHasTypes catalog (body_in query) types) (queries_of of) (queries_of_body of runs) (queries_typed catalog of types has),
)

-- ---- the parts of FROM as a list

kept_all : (from : From) (js : List JoinedData) → kept_in (joined_all from js) ≡ kept_in from ++ kept_among js
kept_all from [] = sym (append-nil (kept_in from))
kept_all from (j ∷ js) = kept_all (joined from j.kind j.source j.condition) js ∙ append_assoc (kept_in from) (kept_source j.source) (kept_among js)

kept_behind : (from : From) (qs : List InnerQuery) → kept_in (with_answers from qs) ≡ kept_in from
kept_behind from [] = refl
kept_behind from (query ∷ qs) = kept_behind (with_inner from query) qs

pub kept_are : (js : List JoinedData) (qs : List InnerQuery) → kept_in (with_answers (joined_all nothing js) qs) ≡ kept_among js
kept_are js qs = kept_behind (joined_all nothing js) qs ∙ kept_all nothing js

queries_all : (from : From) (js : List JoinedData) → queries_in (joined_all from js) ≡ queries_in from
queries_all from [] = refl
queries_all from (j ∷ js) = queries_all (joined from j.kind j.source j.condition) js

queries_behind : (from : From) (qs : List InnerQuery) → queries_in (with_answers from qs) ≡ queries_in from ++ qs
queries_behind from [] = sym (append-nil (queries_in from))
queries_behind from (query ∷ qs) = queries_behind (with_inner from query) qs ∙ append_assoc (queries_in from) (query ∷ []) qs

pub queries_are : (js : List JoinedData) (qs : List InnerQuery) → queries_in (with_answers (joined_all nothing js) qs) ≡ qs
queries_are js qs = queries_behind (joined_all nothing js) qs ∙ ap (λ before. before ++ qs) (queries_all nothing js)

-- ---- the query without them

source_is_table : (place : ℕ) (source : Source) → IsTableSource (materialized_source place source)
source_is_table place (table at width) = record { at = at; width = width; source_is = refl }
source_is_table place schema = record { at = place; width = source_width schema; source_is = refl }
source_is_table place (derived of) = record { at = place; width = source_width (derived of); source_is = refl }

module _ (catalog : List (List Ty)) where
  source_long : (place : ℕ) (source : Source) (types : List Ty) → SourceHasTypes catalog (materialized_source place source) types
      → source_width (materialized_source place source) ≡ length types
  source_long place (table at width) types has = has.1
  source_long place schema types has = has.1
  source_long place (derived of) types has = has.1

  from_long : (f : Term → Term) (place : ℕ) (answers : List Ty) (from : From) (types : List Ty) → FromHasTypes catalog answers (materialized_from f place from) types
      → from_width (materialized_from f place from) ≡ length types
  from_long f place answers nothing types has = ap length (sym has)
  from_long f place answers (joined from kind source on) types has =
      (λ i. from_long f place answers from has.0 has.2 i + source_long (place + length (kept_in from)) source has.1 has.3 i)
      ∙ sym (length-append has.0 has.1) ∙ ap length (sym has.4)
  from_long f place answers (with_inner from query) types has = from_long f place answers from types has

  from_joins : (f : Term → Term) (place : ℕ) (answers : List Ty) (from : From) (types : List Ty) → FromHasTypes catalog answers (materialized_from f place from) types
      → AreTableJoins (materialized_from f place from)
  from_joins f place answers nothing types has = tt
  from_joins f place answers (joined from kind source on) types has = (
    from_joins f place answers from has.0 has.2,
    source_is_table (place + length (kept_in from)) source,
    subst (λ n. All (λ c. c < n) (columns_of (f on))) (sym (from_long f place answers (joined from kind source on) types has)) (term_within types answers (f on) Int has.5),
  )
  from_joins f place answers (with_inner from query) types has = from_joins f place answers from types has

  pub materialized_is_served : (answers : List (List Datum)) (place : ℕ) (of : Body) (types : List Ty) → IsRunnableBody of
      → BodyHasTypes catalog (materialized_body_with answers place of) types → HaveServedForm (materialized_body_with answers place of)
  materialized_is_served answers place (select from s) types runs has = from_joins (filled answers) place has.0 from has.1 has.3
  materialized_is_served answers place (compound before operator from s) types runs has =
      let own = drop (length (queries_of before)) answers in (
        materialized_is_served (take (length (queries_of before)) answers) place before types runs.0 has.0,
        from_joins (filled own) (place + length (kept_of before)) has.1.0 from has.1.1 has.1.3,
      )
