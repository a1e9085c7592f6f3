-- Calls that put rows and values behind others, one after the other.
use Rattle.std.proofs.Common.{◌≡◌, ◌∙◌, ◌+◌, ◌<◌, All, ℕ, List, [], ◌∷◌, ◌++◌, append-nil, append_assoc, drop, get_or, length, map, take, Result, Ok, Err, refl, sym, ap, subst}
use Rattle.std.specs.Result.{MatchResult, OnOk}
use Rattle.std.proofs.lemmas.List.{map-append, take-append-drop, take_more}
use Rattle.std.proofs.lemmas.Result.{on_ok_weaker}
use Rattle.std.proofs.lemmas.List.Elements.{All-cons, All-head, All-nil, All-tail}
use Rattle.values.specs.declared.fault.Fault.{Fault}
use Rattle.pager.specs.Calls.{SameImage}
use Rattle.pager.specs.PagerState.{PagerState}
use Rattle.btree.specs.image.Pages.{Pages, WhereSteady}
use Rattle.schema_tables.specs.ColumnTypes.{column_types}
use Rattle.schema_tables.specs.TableData.{TableData}
use Rattle.resolver_bodies.specs.BodyView.{JoinedData}
use Rattle.resolver_copies.specs.materialized_bodies.FlatView.{kept_among}
use Rattle.semantics_rewrites.specs.materialized_queries.Flat.{kept_source}
use Rattle.semantics.specs.Query.{InnerQuery, Source}
use Rattle.operators_loops.specs.Basis.{Basis}
use Rattle.operators_scan.proofs.lemmas.scan.ComingLemmas.{seen_same}
use Rattle.operators_runs.specs.inner_rows.Computed.{AddsAsMany, AddsRows}
use Rattle.operators_runs.specs.inner_rows.InnerView.{InnerData}
use Rattle.operators_runs.specs.inner_rows.Over.{AreSaid, IsInnerCause}
use Rattle.operators_runs.specs.inner_rows.Runnable.{AreComputable, IsComputable, IsComputableBody}
use Rattle.semantics_rewrites.specs.materialized_queries.FlatWith.{body_in}
use Rattle.operators_runs.proofs.lemmas.inner_rows.ComputedLemmas.{adds_none, adds_then, cause_back, cause_front, many_then}

-- what is said of the pages as they are now holds of them as they were at the start
pub at_first : (start now : PagerState) → SameImage start now → (Says : Pages → Type 0) → WhereSteady now Says → WhereSteady start Says
at_first start now stays Says says = λ steady. subst Says (seen_same start now stays) (says (rw stays.steady steady))

module _ (tables : List TableData) where
  -- those of these were put there, or a fault came with its cause
  abbrev pub AddsWhere : PagerState → List Source → List InnerQuery → InnerData → InnerData → Type 0
  AddsWhere start sources queries old new =
      WhereSteady start (λ pages. (on : Basis) → AreSaid pages tables on → AreComputable (column_types tables) sources queries → AddsRows on.w on.db sources queries old new)

  abbrev pub StopsWhere : PagerState → List Source → List InnerQuery → Fault → Type 0
  StopsWhere start sources queries e =
      WhereSteady start (λ pages. (on : Basis) → AreSaid pages tables on → AreComputable (column_types tables) sources queries → IsInnerCause on sources queries e)

  front_all : {A : Type 0} (P : A → Type 0) (xs ys : List A) → All P (xs ++ ys) → All P xs
  front_all P [] ys all = All-nil P
  front_all P (x ∷ xs) ys all = All-cons P x xs (All-head P x (xs ++ ys) all) (front_all P xs ys (All-tail P x (xs ++ ys) all))

  back_all : {A : Type 0} (P : A → Type 0) (xs ys : List A) → All P (xs ++ ys) → All P ys
  back_all P [] ys all = all
  back_all P (x ∷ xs) ys all = back_all P xs ys (All-tail P x (xs ++ ys) all)

  abbrev Answers : InnerQuery → Type 0
  Answers query = IsComputableBody (column_types tables) (body_in query)

  pub computable_front : (sources others : List Source) (queries more : List InnerQuery) → AreComputable (column_types tables) (sources ++ others) (queries ++ more)
      → AreComputable (column_types tables) sources queries
  computable_front sources others queries more all =
      (front_all (IsComputable (column_types tables)) sources others all.0, front_all Answers queries more all.1)

  pub computable_back : (sources others : List Source) (queries more : List InnerQuery) → AreComputable (column_types tables) (sources ++ others) (queries ++ more)
      → AreComputable (column_types tables) others more
  computable_back sources others queries more all =
      (back_all (IsComputable (column_types tables)) sources others all.0, back_all Answers queries more all.1)

  pub adds_nothing : (start : PagerState) (old : InnerData) → AddsWhere start [] [] old old
  adds_nothing start old = λ steady on said all. adds_none on.w on.db old

  pub adds_both : (start now : PagerState) → SameImage start now → (sources others : List Source) (queries more : List InnerQuery) (old mid new : InnerData)
      → AddsWhere start sources queries old mid → AddsWhere now others more mid new → AddsWhere start (sources ++ others) (queries ++ more) old new
  adds_both start now stays sources others queries more old mid new first then = λ steady on said all.
      adds_then on.w on.db sources others queries more old mid new
      (first steady on said (computable_front sources others queries more all))
      (at_first start now stays
      (λ pages. (on : Basis) → AreSaid pages tables on → AreComputable (column_types tables) others more → AddsRows on.w on.db others more mid new) then
      steady on said (computable_back sources others queries more all))

  pub stops_first : (start : PagerState) (sources others : List Source) (queries more : List InnerQuery) (e : Fault) → StopsWhere start sources queries e
      → StopsWhere start (sources ++ others) (queries ++ more) e
  stops_first start sources others queries more e stops = λ steady on said all.
      cause_front on sources others queries more e (stops steady on said (computable_front sources others queries more all))

  pub stops_then : (start now : PagerState) → SameImage start now → (sources others : List Source) (queries more : List InnerQuery) (e : Fault) → StopsWhere now others more e
      → StopsWhere start (sources ++ others) (queries ++ more) e
  stops_then start now stays sources others queries more e stops = λ steady on said all.
      cause_back on sources others queries more e
      (at_first start now stays
      (λ pages. (on : Basis) → AreSaid pages tables on → AreComputable (column_types tables) others more → IsInnerCause on others more e) stops
      steady on said (computable_back sources others queries more all))

  -- either of both
  abbrev pub CallsWhere : PagerState → List Source → List InnerQuery → InnerData → InnerData → Result Unit Fault → Type 0
  CallsWhere start sources queries old new result =
      WhereSteady start (λ pages. (on : Basis) → AreSaid pages tables on → AreComputable (column_types tables) sources queries
      → MatchResult result (λ _. AddsRows on.w on.db sources queries old new) (IsInnerCause on sources queries))

  pub calls_then : (start now : PagerState) → SameImage start now → (sources others : List Source) (queries more : List InnerQuery) (old mid new : InnerData)
      (result : Result Unit Fault) → AddsWhere start sources queries old mid → CallsWhere now others more mid new result
      → CallsWhere start (sources ++ others) (queries ++ more) old new result
  calls_then start now stays sources others queries more old mid new (Ok done) first then =
      adds_both start now stays sources others queries more old mid new first then
  calls_then start now stays sources others queries more old mid new (Err e) first then =
      stops_then start now stays sources others queries more e then

  pub many_calls : (sources others : List Source) (queries more : List InnerQuery) (old mid new : InnerData) (result : Result Unit Fault)
      → AddsAsMany sources queries old mid → OnOk result (AddsAsMany others more mid new) → OnOk result (AddsAsMany (sources ++ others) (queries ++ more) old new)
  many_calls sources others queries more old mid new result first then =
      on_ok_weaker result (many_then sources others queries more old mid new first) then

-- ---- one of a list

at_next : {A : Type 0} (xs : List A) (i : ℕ) (x : A) → i < length xs → x ≡ get_or xs i x → take (i + 1) xs ≡ take i xs ++ x ∷ []
at_next xs i x within is = take_more xs i x within ∙ ap (λ y. take i xs ++ y ∷ []) (sym is)

module _ {A : Type 0} (view : A → JoinedData) (xs : List A) where
  -- the sources that are no tables of the first of these
  abbrev pub first_among : ℕ → List Source
  first_among i = kept_among (map view (take i xs))

  among_both : (js ks : List JoinedData) → kept_among (js ++ ks) ≡ kept_among js ++ kept_among ks
  among_both [] ks = refl
  among_both (j ∷ js) ks = ap (λ rest. kept_source j.source ++ rest) (among_both js ks) ∙ sym (append_assoc (kept_source j.source) (kept_among js) (kept_among ks))

  module _ (i : ℕ) (x : A) (within : i < length xs) (is : x ≡ get_or xs i x) where
    pub among_next : first_among (i + 1) ≡ first_among i ++ kept_source (view x).source
    among_next =
        ap (λ ys. kept_among (map view ys)) (at_next xs i x within is) ∙ ap kept_among (map-append view (take i xs) (x ∷ []))
        ∙ among_both (map view (take i xs)) (view x ∷ [])
        ∙ ap (λ rest. first_among i ++ rest) (append-nil (kept_source (view x).source))

    pub among_whole : kept_among (map view xs) ≡ (first_among i ++ kept_source (view x).source) ++ kept_among (map view (drop (i + 1) xs))
    among_whole =
        ap (λ ys. kept_among (map view ys)) (sym (take-append-drop (i + 1) xs)) ∙ ap kept_among (map-append view (take (i + 1) xs) (drop (i + 1) xs))
        ∙ among_both (map view (take (i + 1) xs)) (map view (drop (i + 1) xs)) ∙ ap (λ front. front ++ kept_among (map view (drop (i + 1) xs))) among_next

    module _ (tables : List TableData) (start now : PagerState) (stays : SameImage start now) where
      pub source_more : (old mid new : InnerData) → AddsWhere tables start (first_among i) [] old mid → AddsWhere tables now (kept_source (view x).source) [] mid new
          → AddsWhere tables start (first_among (i + 1)) [] old new
      source_more old mid new first then =
          subst (λ (sources : List Source). AddsWhere tables start sources [] old new) (sym among_next)
          (adds_both tables start now stays (first_among i) (kept_source (view x).source) [] [] old mid new first then)

      pub source_stops : (e : Fault) → StopsWhere tables now (kept_source (view x).source) [] e → StopsWhere tables start (kept_among (map view xs)) [] e
      source_stops e stops =
          subst (λ (sources : List Source). StopsWhere tables start sources [] e) (sym among_whole)
          (stops_first tables start (first_among i ++ kept_source (view x).source) (kept_among (map view (drop (i + 1) xs))) [] [] e
          (stops_then tables start now stays (first_among i) (kept_source (view x).source) [] [] e stops))

    pub source_many : (old mid new : InnerData) → AddsAsMany (first_among i) [] old mid → AddsAsMany (kept_source (view x).source) [] mid new
        → AddsAsMany (first_among (i + 1)) [] old new
    source_many old mid new first then =
        subst (λ (sources : List Source). AddsAsMany sources [] old new) (sym among_next)
        (many_then (first_among i) (kept_source (view x).source) [] [] old mid new first then)

module _ {A : Type 0} (view : A → InnerQuery) (xs : List A) where
  -- the first of these queries
  abbrev pub first_asked : ℕ → List InnerQuery
  first_asked i = map view (take i xs)

  module _ (i : ℕ) (x : A) (within : i < length xs) (is : x ≡ get_or xs i x) where
    pub asked_next : first_asked (i + 1) ≡ first_asked i ++ view x ∷ []
    asked_next = ap (map view) (at_next xs i x within is) ∙ map-append view (take i xs) (x ∷ [])

    pub asked_whole : map view xs ≡ (first_asked i ++ view x ∷ []) ++ map view (drop (i + 1) xs)
    asked_whole =
        ap (map view) (sym (take-append-drop (i + 1) xs)) ∙ map-append view (take (i + 1) xs) (drop (i + 1) xs)
        ∙ ap (λ front. front ++ map view (drop (i + 1) xs)) asked_next

    module _ (tables : List TableData) (start now : PagerState) (stays : SameImage start now) where
      pub query_more : (old mid new : InnerData) → AddsWhere tables start [] (first_asked i) old mid → AddsWhere tables now [] (view x ∷ []) mid new
          → AddsWhere tables start [] (first_asked (i + 1)) old new
      query_more old mid new first then =
          subst (λ (queries : List InnerQuery). AddsWhere tables start [] queries old new) (sym asked_next)
          (adds_both tables start now stays [] [] (first_asked i) (view x ∷ []) old mid new first then)

      pub query_stops : (e : Fault) → StopsWhere tables now [] (view x ∷ []) e → StopsWhere tables start [] (map view xs) e
      query_stops e stops =
          subst (λ (queries : List InnerQuery). StopsWhere tables start [] queries e) (sym asked_whole)
          (stops_first tables start [] [] (first_asked i ++ view x ∷ []) (map view (drop (i + 1) xs)) e
          (stops_then tables start now stays [] [] (first_asked i) (view x ∷ []) e stops))

    pub query_many : (old mid new : InnerData) → AddsAsMany [] (first_asked i) old mid → AddsAsMany [] (view x ∷ []) mid new
        → AddsAsMany [] (first_asked (i + 1)) old new
    query_many old mid new first then =
        subst (λ (queries : List InnerQuery). AddsAsMany [] queries old new) (sym asked_next) (many_then [] [] (first_asked i) (view x ∷ []) old mid new first then)
