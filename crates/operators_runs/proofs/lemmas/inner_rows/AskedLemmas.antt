-- The pages that calls ask for which compute the queries in a query, one after the other.
use Rattle.std.proofs.Common.{◌≡◌, ◌∙◌, ◌+◌, ◌<◌, ◌≤◌, Bool, ℕ, List, [], ◌∷◌, ◌++◌, get_or, length, take, Vec, Global, Result, Ok, Err, OnOk, sym, subst, arith}
use Rattle.values.specs.declared.fault.Fault.{Fault}
use Rattle.values.specs.declared.value.Value.{Value}
use Rattle.pager.specs.Calls.{SameImage}
use Rattle.pager.specs.PagerState.{PagerState}
use Rattle.btree.specs.image.Pages.{Pages, WhereSteady, pages_seen}
use Rattle.resolver_bodies.specs.BodyView.{JoinedData}
use Rattle.logical_plan_queries.specs.compound_plans.Work.{selects_work}
use Rattle.semantics_rewrites.specs.materialized_queries.Flat.{kept_of, kept_source}
use Rattle.semantics_rewrites.specs.materialized_queries.FlatWith.{body_in, queries_of, with_rows}
use Rattle.semantics.specs.Query.{Body, InnerQuery, QueryData, Source, derived, exists, values_of}
use Rattle.operators_loops.specs.Basis.{AreStored, Basis}
use Rattle.logical_plan.specs.Plan.{once}
use Rattle.logical_plan_queries.specs.Answers.{PlannedData, work_of}
use Rattle.operators_scan.specs.scan.Coming.{Asks}
use Rattle.operators_scan.proofs.lemmas.scan.ComingLemmas.{Asks-none}
use Rattle.logical_plan.specs.answers.Sources.{sources_of}
use Rattle.schema_tables.specs.ColumnTypes.{column_types}
use Rattle.schema_tables.specs.TableData.{TableData}
use Rattle.operators_runs.specs.inner_rows.Computed.{AreComputedRows}
use Rattle.operators_runs.specs.inner_rows.InnerView.{InnerData, kept_rows}
use Rattle.operators_runs.specs.inner_rows.Over.{AreSaid, IsPlanOverKept, basis_over}
use Rattle.operators_runs.specs.inner_rows.Runnable.{AreComputable, IsComputableBody}
use Rattle.operators_runs.specs.inner_rows.Work.{body_work, parts_work, query_work}
use Rattle.operators_runs.proofs.lemmas.inner_rows.AddingLemmas.{AddsWhere, among_next, asked_next, at_first, computable_back, computable_front, first_among, first_asked}
use Rattle.operators_runs.proofs.lemmas.inner_rows.KeptLemmas.{Lists, kept_are_stored, tables_count}
use Rattle.operators_runs.proofs.lemmas.inner_rows.PushLemmas.{GivesWhere, held, one_derived, one_query, rows_held}
use Rattle.operators_runs.proofs.lemmas.inner_rows.RunnableLemmas.{computable_parts}
use Rattle.operators_runs.proofs.lemmas.inner_rows.WorkLemmas.{body_is, parts_both}

-- ---- counts

pub asks_added : (local : Bool) (a b c : PagerState) (m n k : ℕ) → Asks local a m b 0 → Asks local b n c 0 → k ≡ m + n → Asks local a k c 0
asks_added local a b c m n k first then is = record {
  pages = let x = first.pages in let y = then.pages in omega (arith, x, y, is);
  chains = λ unchained. then.chains unchained ∙ first.chains unchained;
}

pub asks_fewer : (local : Bool) (a b : PagerState) (m n : ℕ) → Asks local a m b 0 → m ≤ n → Asks local a n b 0
asks_fewer local a b m n asks less = record {
  pages = let x = asks.pages in omega (arith, x, less);
  chains = λ unchained. asks.chains unchained;
}

module _ (tables : List TableData) where
  -- these were computed, each once
  abbrev pub AsksWhere : PagerState → List Source → List InnerQuery → PagerState → Type 0
  AsksWhere start sources queries now =
      WhereSteady start (λ pages. (on : Basis) → AreSaid pages tables on → AreComputable (column_types tables) sources queries
      → Asks on.local start (parts_work on.w on.db on.sizes sources queries) now 0)

  pub asks_nothing : (start : PagerState) → AsksWhere start [] [] start
  asks_nothing start = λ steady on said all. Asks-none on.local start 0

  pub asks_both : (start mid now : PagerState) → SameImage start mid → (sources others : List Source) (queries more : List InnerQuery)
      → AsksWhere start sources queries mid → AsksWhere mid others more now → AsksWhere start (sources ++ others) (queries ++ more) now
  asks_both start mid now stays sources others queries more first then = λ steady on said all.
      asks_added on.local start mid now (parts_work on.w on.db on.sizes sources queries) (parts_work on.w on.db on.sizes others more)
      (parts_work on.w on.db on.sizes (sources ++ others) (queries ++ more))
      (first steady on said (computable_front tables sources others queries more all))
      (at_first start mid stays
      (λ pages. (on : Basis) → AreSaid pages tables on → AreComputable (column_types tables) others more → Asks on.local mid (parts_work on.w on.db on.sizes others more) now 0) then
      steady on said (computable_back tables sources others queries more all))
      (parts_both on.w on.db on.sizes sources others queries more)

  -- or a fault came
  abbrev pub AsksOnOk : PagerState → List Source → List InnerQuery → PagerState → Result Unit Fault → Type 0
  AsksOnOk start sources queries now result =
      WhereSteady start (λ pages. (on : Basis) → AreSaid pages tables on → AreComputable (column_types tables) sources queries
      → OnOk result (Asks on.local start (parts_work on.w on.db on.sizes sources queries) now 0))

  pub calls_ask : (start mid now : PagerState) → SameImage start mid → (sources others : List Source) (queries more : List InnerQuery) (result : Result Unit Fault)
      → AsksWhere start sources queries mid → AsksOnOk mid others more now result → AsksOnOk start (sources ++ others) (queries ++ more) now result
  calls_ask start mid now stays sources others queries more (Ok done) first then = asks_both start mid now stays sources others queries more first then
  calls_ask start mid now stays sources others queries more (Err e) first then = λ steady on said all. tt

  -- ---- one query

  abbrev pub BodyAsks : PagerState → Body → PagerState → Type 0
  BodyAsks start of now = GivesWhere tables start of (λ on. Asks on.local start (body_work on.w on.db on.sizes of) now 0)

  pub derived_asks : (start now : PagerState) (of : Body) → BodyAsks start of now → AsksWhere start (derived of ∷ []) [] now
  derived_asks start now of asks = λ steady on said all.
      asks_fewer on.local start now (body_work on.w on.db on.sizes of) (parts_work on.w on.db on.sizes (derived of ∷ []) [])
      (asks steady on said (one_derived tables start of all)) (omega arith)

  query_is : (on : Basis) (query : InnerQuery) → body_work on.w on.db on.sizes (body_in query) ≡ query_work on.w on.db on.sizes query
  query_is on (values_of of) = omega arith
  query_is on (exists of) = omega arith

  pub query_asks : (start now : PagerState) (query : InnerQuery) → BodyAsks start (body_in query) now → AsksWhere start [] (query ∷ []) now
  query_asks start now query asks = λ steady on said all.
      asks_fewer on.local start now (body_work on.w on.db on.sizes (body_in query)) (parts_work on.w on.db on.sizes [] (query ∷ []))
      (asks steady on said (one_query tables start query all)) (let same = query_is on query in omega (arith, same))

-- ---- one of a list

module _ {A : Type 0} (view : A → JoinedData) (xs : List A) (i : ℕ) (x : A) (within : i < length xs) (is : x ≡ get_or xs i x) (tables : List TableData)
    (start mid now : PagerState) (stays : SameImage start mid) where
  pub source_asks : AsksWhere tables start (first_among view xs i) [] mid → AsksWhere tables mid (kept_source (view x).source) [] now
      → AsksWhere tables start (first_among view xs (i + 1)) [] now
  source_asks first then =
      subst (λ (sources : List Source). AsksWhere tables start sources [] now) (sym (among_next view xs i x within is))
      (asks_both tables start mid now stays (first_among view xs i) (kept_source (view x).source) [] [] first then)

module _ {A : Type 0} (view : A → InnerQuery) (xs : List A) (i : ℕ) (x : A) (within : i < length xs) (is : x ≡ get_or xs i x) (tables : List TableData)
    (start mid now : PagerState) (stays : SameImage start mid) where
  pub queries_ask : AsksWhere tables start [] (first_asked view xs i) mid → AsksWhere tables mid [] (view x ∷ []) now
      → AsksWhere tables start [] (first_asked view xs (i + 1)) now
  queries_ask first then =
      subst (λ (queries : List InnerQuery). AsksWhere tables start [] queries now) (sym (asked_next view xs i x within is))
      (asks_both tables start mid now stays [] [] (first_asked view xs i) (view x ∷ []) first then)

-- ---- a body

-- what is computed of a query behind those in it
abbrev pub FlatAsks : List TableData → PagerState → Body → InnerData → Result (Vec (Vec Value Global) Global) Fault → PagerState → Type 0
FlatAsks tables start of inner result now =
    GivesWhere tables start of (λ on. AreComputedRows on.w on.db (kept_of of) (queries_of of) inner
    → OnOk result (Asks on.local start (selects_work on.w on.db on.sizes of) now 0))

module _ (tables : List TableData) (start mid now : PagerState) (stays : SameImage start mid) (of : Body) where
  pub body_asks : (kept : Lists) (answers : List (Vec Value Global)) (new : InnerData) (result : Result (Vec (Vec Value Global) Global) Fault) → kept ≡ [] → answers ≡ []
      → AddsWhere tables start (kept_of of) (queries_of of) (held kept answers) new → AsksWhere tables start (kept_of of) (queries_of of) mid
      → FlatAsks tables mid of new result now
      → GivesWhere tables start of (λ on. OnOk result (Asks on.local start (body_work on.w on.db on.sizes of) now 0))
  body_asks kept answers new (Ok rows) none nothing adds first then = λ steady on said runs.
      let parts = computable_parts (column_types tables) of runs in
      asks_added on.local start mid now (parts_work on.w on.db on.sizes (kept_of of) (queries_of of)) (selects_work on.w on.db on.sizes of) (body_work on.w on.db on.sizes of)
      (first steady on said parts)
      (at_first start mid stays
      (λ pages. (on : Basis) → AreSaid pages tables on → IsComputableBody (column_types tables) of → AreComputedRows on.w on.db (kept_of of) (queries_of of) new
      → Asks on.local mid (selects_work on.w on.db on.sizes of) now 0) then
      steady on said runs (adds steady on said parts [] [] (rows_held on.w on.db kept answers none nothing)))
      (body_is on.w on.db on.sizes of)
  body_asks kept answers new (Err e) none nothing adds first then = λ steady on said runs. tt

-- a plan over tables and kept rows asks for no more pages than the SELECTs of its query may
pub plan_asks : {T : Type 0} (pages : Pages) (tables : List TableData) (on : Basis) → AreSaid pages tables on → (of : Body) (kept : Lists) (planned : PlannedData)
    → work_of on.w (with_rows on.db (kept_rows kept)) (take (length tables) on.sizes) planned ≤ selects_work on.w on.db on.sizes of
    → (start now : PagerState) (result : Result T Fault)
    → ((on : Basis) → AreStored pages (sources_of tables kept) on → OnOk result (Asks on.local start (work_of on.w on.db on.sizes planned) now 0))
    → OnOk result (Asks on.local start (selects_work on.w on.db on.sizes of) now 0)
plan_asks pages tables on said of kept planned few start now (Ok rows) asks =
    asks_fewer on.local start now (work_of on.w (with_rows on.db (kept_rows kept)) (take (length tables) on.sizes) planned) (selects_work on.w on.db on.sizes of)
    (asks (basis_over tables on (kept_rows kept) once) (kept_are_stored pages tables kept on once said)) few
plan_asks pages tables on said of kept planned few start now (Err e) asks = tt

-- behind the queries in a query its own plan is run
pub whole_asks : {T : Type 0} (tables : List TableData) (start mid now : PagerState) (on : Basis) → AreSaid (pages_seen start) tables on
    → (query : QueryData) (kept : Lists) (planned : PlannedData) → IsPlanOverKept on query (kept_rows kept) planned
    → Asks on.local start (parts_work on.w on.db on.sizes (kept_of query.body) (queries_of query.body)) mid 0 → (result : Result T Fault)
    → ((on : Basis) → AreStored (pages_seen start) (sources_of tables kept) on → OnOk result (Asks on.local mid (work_of on.w on.db on.sizes planned) now 0))
    → OnOk result (Asks on.local start (body_work on.w on.db on.sizes query.body) now 0)
whole_asks tables start mid now on said query kept planned over first (Ok rows) asks =
    let few = subst (λ (n : ℕ). work_of on.w (with_rows on.db (kept_rows kept)) (take n on.sizes) planned ≤ selects_work on.w on.db on.sizes query.body)
    (tables_count (pages_seen start) tables on said) over.few in
    asks_added on.local start mid now (parts_work on.w on.db on.sizes (kept_of query.body) (queries_of query.body)) (selects_work on.w on.db on.sizes query.body)
    (body_work on.w on.db on.sizes query.body) first (plan_asks (pages_seen start) tables on said query.body kept planned few mid now (Ok rows) asks)
    (body_is on.w on.db on.sizes query.body)
whole_asks tables start mid now on said query kept planned over first (Err e) asks = tt
