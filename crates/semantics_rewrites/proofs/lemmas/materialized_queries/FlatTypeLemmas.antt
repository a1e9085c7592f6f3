-- The types of a query without queries in it.
use Rattle.std.proofs.Common.{◌≡◌, ◌<◌, ℕ, ◌+◌, zero, suc, List, [], ◌∷◌, ◌++◌, length, map, slice_get, Option, Some, None, option_map, refl, sym, ap, subst, arith}
use Rattle.std.specs.List.{AllZip}
use Rattle.std.proofs.lemmas.List.{length-map, length-append}
use Rattle.std.proofs.lemmas.List.Elements.{All-map, All-weaker}
use Rattle.values.specs.Database.{Database}
use Rattle.values.specs.Datum.{Datum}
use Rattle.values.specs.declared.value.Ty.{Ty}
use Rattle.values.specs.declared.value.Ty.TheVariants.{Int}
use Rattle.expr.specs.Term.{Term}
use Rattle.expr.specs.Types.{HasType, IsOfType}
use Rattle.expr.proofs.FilledLemmas.{filled_has_type}
use Rattle.semantics.specs.Body.{answers_in, source_rows}
use Rattle.semantics.specs.Query.{AggregateFunction, Body, Edge, FrameUnit, From, Grouping, Select, SortTerm, Source, Window, WindowFunction, compound, derived, joined, nothing, schema, select, table, with_inner}
use Rattle.semantics.specs.Typed.{AggregateGives, AggregateHasType, AnswersHaveTypes, BodyHasTypes, CallHasType, ComputedHasTypes, FitTypes, FitsCatalog, FromHasTypes, FunctionHasType, GroupedHasTypes, IsOneNumber, IsTerm, IsWindow, SelectHasTypes, SourceHasTypes, UnitFits}
use Rattle.semantics.proofs.ElementLemmas.{length_all_zip}
use Rattle.semantics.proofs.TypedLemmas.{answers_typed, body_width-is, source_typed}
use Rattle.semantics.specs.Mapped.{mapped_aggregate, mapped_call, mapped_function, mapped_grouping, mapped_select, mapped_sort, mapped_window}
use Rattle.semantics_rewrites.specs.materialized_queries.FlatTyped.{IsFlatTyped}
use Rattle.semantics_rewrites.specs.materialized_queries.Flat.{answered, materialized_body, materialized_from, materialized_source, kept_in, kept_of, kept_source}

-- ---- a SELECT in which expressions of the same types stand

zip_mapped : {A B C : Type 0} (R : A → C → Type 0) (S : B → C → Type 0) (f : A → B) → ((x : A) (y : C) → R x y → S (f x) y) → (xs : List A) (ys : List C) → AllZip R xs ys
    → AllZip S (map f xs) ys
zip_mapped R S f each [] [] all = tt
zip_mapped R S f each [] (y ∷ ys) all = absurd all
zip_mapped R S f each (x ∷ xs) [] all = absurd all
zip_mapped R S f each (x ∷ xs) (y ∷ ys) all = (each x y all.0, zip_mapped R S f each xs ys all.1)

pub zip_append : {A B : Type 0} (R : A → B → Type 0) (xs : List A) (ys : List B) (xs' : List A) (ys' : List B) → AllZip R xs ys → AllZip R xs' ys' → AllZip R (xs ++ xs') (ys ++ ys')
zip_append R [] [] xs' ys' p q = q
zip_append R [] (y ∷ ys) xs' ys' p q = absurd p
zip_append R (x ∷ xs) [] xs' ys' p q = absurd p
zip_append R (x ∷ xs) (y ∷ ys) xs' ys' p q = (p.0, zip_append R xs ys xs' ys' p.1 q)

module _ (answers : List Ty) (f : Term → Term) (still : (columns : List Ty) (t : Term) (ty : Ty) → HasType columns answers t ty → HasType columns [] (f t) ty) where
  some_still : (types : List Ty) (t : Term) → IsTerm answers types t → IsTerm [] types (f t)
  some_still types t is = (is.0, still types t is.0 is.1)

  aggregate_still : (types : List Ty) (function : AggregateFunction) (argument : Term) (ty : Ty) → AggregateGives answers types function argument ty
      → AggregateGives [] types function (f argument) ty
  aggregate_still types AggregateFunction.count argument ty has = (some_still types argument has.0, has.1)
  aggregate_still types AggregateFunction.sum argument ty has = (still types argument Int has.0, has.1)
  aggregate_still types AggregateFunction.min argument ty has = still types argument ty has
  aggregate_still types AggregateFunction.max argument ty has = still types argument ty has

  grouped_still : (row : List Ty) (g : Option Grouping) (types : List Ty) → GroupedHasTypes answers row g types → GroupedHasTypes [] row (option_map (mapped_grouping f) g) types
  grouped_still row None types has = has
  grouped_still row (Some g) types has = record {
    keys = has.keys;
    values = has.values;
    by = zip_mapped (HasType row answers) (HasType row []) f (still row) g.by has.keys has.by;
    aggregates = zip_mapped (AggregateHasType answers row) (AggregateHasType [] row) (mapped_aggregate f) (λ a ty. aggregate_still row a.function a.argument ty) g.aggregates has.values has.aggregates;
    types_are = has.types_are;
    having = still types g.having Int has.having;
  }

  one_number : (types : List Ty) (order : List SortTerm) → IsOneNumber answers types order → IsOneNumber [] types (map (mapped_sort f) order)
  one_number types order is = (mapped_sort f is.0, ap (map (mapped_sort f)) is.1, still types is.0.term Int is.2)

  unit_still : (types : List Ty) (order : List SortTerm) (unit : FrameUnit) (start end : Edge) → UnitFits answers types order unit start end
      → UnitFits [] types (map (mapped_sort f) order) unit start end
  unit_still types order FrameUnit.rows start end fits = fits
  unit_still types order FrameUnit.range start end fits = λ distant. one_number types order (fits distant)
  unit_still types order FrameUnit.groups start end fits = subst (λ (n : ℕ). 0 < n) (sym (length-map order (mapped_sort f))) fits

  window_still : (types : List Ty) (window : Window) → IsWindow answers types window → IsWindow [] types (mapped_window f window)
  window_still types window is = record {
    partition = All-map (IsTerm [] types) f window.partition
        (All-weaker (IsTerm answers types) (λ t. IsTerm [] types (f t)) (some_still types) window.partition is.partition);
    order = All-map (λ (s : SortTerm). IsTerm [] types s.term) (mapped_sort f) window.order
        (All-weaker (λ (s : SortTerm). IsTerm answers types s.term) (λ (s : SortTerm). IsTerm [] types (f s.term)) (λ s. some_still types s.term) window.order is.order);
    frame = record {
      starts = is.frame.starts;
      ends = is.frame.ends;
      in_turn = is.frame.in_turn;
      unit = unit_still types window.order window.frame.unit window.frame.start window.frame.end is.frame.unit;
    };
  }

  function_still : (types : List Ty) (function : WindowFunction) (ty : Ty) → FunctionHasType answers types function ty → FunctionHasType [] types (mapped_function f function) ty
  function_still types (WindowFunction.aggregate a) ty has = aggregate_still types a.function a.argument ty has
  function_still types WindowFunction.row_number ty has = has
  function_still types WindowFunction.rank ty has = has
  function_still types WindowFunction.dense_rank ty has = has
  function_still types (WindowFunction.ntile n) ty has = has
  function_still types (WindowFunction.lag x n otherwise) ty has = (still types x ty has.0, still types otherwise ty has.1)
  function_still types (WindowFunction.lead x n otherwise) ty has = (still types x ty has.0, still types otherwise ty has.1)
  function_still types (WindowFunction.first_value x) ty has = still types x ty has
  function_still types (WindowFunction.last_value x) ty has = still types x ty has
  function_still types (WindowFunction.nth_value x n) ty has = (still types x ty has.0, has.1)

  pub computed_still : (row : List Ty) (s : Select) (types : List Ty) → ComputedHasTypes answers row s types → ComputedHasTypes [] row (mapped_select f s) types
  computed_still row s types has = record {
    inputs = has.inputs;
    values = has.values;
    condition = still row s.condition Int has.condition;
    grouped = grouped_still row s.grouping has.inputs has.grouped;
    windows = zip_mapped (CallHasType answers has.inputs) (CallHasType [] has.inputs) (mapped_call f)
        (λ call ty is. (window_still has.inputs call.window is.0, function_still has.inputs call.function ty is.1)) s.windows has.values has.windows;
    types_are = has.types_are;
  }

  pub select_still : (row : List Ty) (s : Select) (types : List Ty) → SelectHasTypes answers row s types → SelectHasTypes [] row (mapped_select f s) types
  select_still row s types has =
      (has.0, computed_still row s has.0 has.1, zip_mapped (HasType has.0 answers) (HasType has.0 []) f (still has.0) s.columns types has.2)

-- ---- the types of the sources that are no tables

-- these stand in a list, from this place on
abbrev pub ArePlaced : List (List Ty) → ℕ → List (List Ty) → Type 0
ArePlaced all place [] = Unit {0}
ArePlaced all place (types ∷ rest) = (slice_get all place ≡ Some types) × ArePlaced all (suc place) rest

pub first_placed : (all : List (List Ty)) (place : ℕ) (xs ys : List (List Ty)) → ArePlaced all place (xs ++ ys) → ArePlaced all place xs
first_placed all place [] ys are = tt
first_placed all place (x ∷ xs) ys are = (are.0, first_placed all (suc place) xs ys are.1)

pub last_placed : (all : List (List Ty)) (place : ℕ) (xs ys : List (List Ty)) → ArePlaced all place (xs ++ ys) → ArePlaced all (place + length xs) ys
last_placed all place [] ys are = subst (λ n. ArePlaced all n ys) (omega arith) are
last_placed all place (x ∷ xs) ys are = subst (λ n. ArePlaced all n ys) (omega arith) (last_placed all (suc place) xs ys are.1)

got_seam : {A : Type 0} (front : List A) (x : A) (rest : List A) → slice_get (front ++ x ∷ rest) (length front) ≡ Some x
got_seam [] x rest = refl
got_seam (y ∷ front) x rest = got_seam front x rest

pub got_front : {A : Type 0} (xs ys : List A) (at : ℕ) (x : A) → slice_get xs at ≡ Some x → slice_get (xs ++ ys) at ≡ Some x
got_front [] ys at x got = absurd cc
got_front (y ∷ xs) ys zero x got = got
got_front (y ∷ xs) ys (suc at) x got = got_front xs ys at x got

next_front : (front : List (List Ty)) (x : List Ty) (rest : List (List Ty)) → (front ++ x ∷ []) ++ rest ≡ front ++ x ∷ rest
next_front [] x rest = refl
next_front (y ∷ front) x rest = ap (λ more. y ∷ more) (next_front front x rest)

pub all_placed : (front : List (List Ty)) (place : ℕ) (kinds : List (List Ty)) → place ≡ length front → ArePlaced (front ++ kinds) place kinds
all_placed front place [] long = tt
all_placed front place (types ∷ kinds) long = (
  subst (λ n. slice_get (front ++ types ∷ kinds) n ≡ Some types) (sym long) (got_seam front types kinds),
  subst (λ all. ArePlaced all (suc place) kinds) (next_front front types kinds)
      (all_placed (front ++ types ∷ []) (suc place) kinds (omega (arith, long, length-append front (types ∷ [])))),
)

module _ (catalog : List (List Ty)) where
  unfoldable pub kinds_source : (source : Source) → List Ty → List (List Ty)
  kinds_source (table at width) types = []
  kinds_source schema types = types ∷ []
  kinds_source (derived of) types = types ∷ []

  unfoldable pub kinds_from : (answers : List Ty) (from : From) (types : List Ty) → FromHasTypes catalog answers from types → List (List Ty)
  kinds_from answers nothing types has = []
  kinds_from answers (joined from kind source on) types has = kinds_from answers from has.0 has.2 ++ kinds_source source has.1
  kinds_from answers (with_inner from query) types has = kinds_from answers from types has

  unfoldable pub kinds_of : (of : Body) (types : List Ty) → BodyHasTypes catalog of types → List (List Ty)
  kinds_of (select from s) types has = kinds_from has.0 from has.1 has.3
  kinds_of (compound before operator from s) types has = kinds_of before types has.0 ++ kinds_from has.1.0 from has.1.1 has.1.3

  source_kinds : (source : Source) (types : List Ty) → SourceHasTypes catalog source types → AllZip (SourceHasTypes catalog) (kept_source source) (kinds_source source types)
  unfolding kinds_source
  source_kinds (table at width) types has = tt
  source_kinds schema types has = (has, tt)
  source_kinds (derived of) types has = (has, tt)

  pub from_kinds : (answers : List Ty) (from : From) (types : List Ty) (has : FromHasTypes catalog answers from types)
      → AllZip (SourceHasTypes catalog) (kept_in from) (kinds_from answers from types has)
  unfolding kinds_from
  from_kinds answers nothing types has = tt
  from_kinds answers (joined from kind source on) types has =
      zip_append (SourceHasTypes catalog) _ _ _ _ (from_kinds answers from has.0 has.2) (source_kinds source has.1 has.3)
  from_kinds answers (with_inner from query) types has = from_kinds answers from types has

  pub of_kinds : (of : Body) (types : List Ty) (has : BodyHasTypes catalog of types) → AllZip (SourceHasTypes catalog) (kept_of of) (kinds_of of types has)
  unfolding kinds_of
  of_kinds (select from s) types has = from_kinds has.0 from has.1 has.3
  of_kinds (compound before operator from s) types has =
      zip_append (SourceHasTypes catalog) _ _ _ _ (of_kinds before types has.0) (from_kinds has.1.0 from has.1.1 has.1.3)

  -- ---- FROM

  module _ (all : List (List Ty)) (front : (at : ℕ) (types : List Ty) → slice_get catalog at ≡ Some types → slice_get all at ≡ Some types) where
    source_flat : (place : ℕ) (source : Source) (types : List Ty) → SourceHasTypes catalog source types → ArePlaced all place (kinds_source source types)
        → SourceHasTypes all (materialized_source place source) types
    unfolding kinds_source
    source_flat place (table at width) types has are = (front at types has.0, has.1)
    source_flat place schema types has are = (are.0, ap length (sym has))
    source_flat place (derived of) types has are = (are.0, body_width-is catalog of types has)

    pub none_answered : (f : Term → Term) (place : ℕ) (from : From) → AnswersHaveTypes all (materialized_from f place from) []
    none_answered f place nothing = refl
    none_answered f place (joined from kind source on) = none_answered f place from
    none_answered f place (with_inner from query) = none_answered f place from

    from_flat : (answers : List Ty) (f : Term → Term) (still : (columns : List Ty) (t : Term) (ty : Ty) → HasType columns answers t ty → HasType columns [] (f t) ty)
        (place : ℕ) (from : From) (types : List Ty) (has : FromHasTypes catalog answers from types) → ArePlaced all place (kinds_from answers from types has)
        → FromHasTypes all [] (materialized_from f place from) types
    unfolding kinds_from
    from_flat answers f still place nothing types has are = has
    from_flat answers f still place (joined from kind source on) types has are =
        let kinds = kinds_from answers from has.0 has.2 in
        let last = last_placed all place kinds (kinds_source source has.1) are in (
          has.0,
          has.1,
          from_flat answers f still place from has.0 has.2 (first_placed all place kinds (kinds_source source has.1) are),
          source_flat (place + length (kept_in from)) source has.1 has.3
              (subst (λ n. ArePlaced all (place + n) (kinds_source source has.1)) (sym (length_all_zip (SourceHasTypes catalog) (kept_in from) kinds (from_kinds answers from has.0 has.2))) last),
          has.4,
          still types on Int has.5,
        )
    from_flat answers f still place (with_inner from query) types has are = from_flat answers f still place from types has are

    -- ---- the query

    module _ (w : Datum) (stand_in : IsOfType Int w) (db : Database) (fits : FitsCatalog catalog db) where
      still_answered : (from : From) (answers : List Ty) → AnswersHaveTypes catalog from answers → (columns : List Ty) (t : Term) (ty : Ty) → HasType columns answers t ty
          → HasType columns [] (answered w db from t) ty
      still_answered from answers has columns t ty is =
          filled_has_type columns answers [] (answers_in w db from) t ty (answers_typed w stand_in db catalog fits from answers has) is

      body_flat : (place : ℕ) (of : Body) (types : List Ty) (has : BodyHasTypes catalog of types) → ArePlaced all place (kinds_of of types has)
          → BodyHasTypes all (materialized_body w db place of) types
      unfolding kinds_of
      body_flat place (select from s) types has are = (
        [],
        has.1,
        none_answered (answered w db from) place from,
        from_flat has.0 (answered w db from) (still_answered from has.0 has.2) place from has.1 has.3 are,
        select_still has.0 (answered w db from) (still_answered from has.0 has.2) has.1 s types has.4,
      )
      body_flat place (compound before operator from s) types has are =
          let kinds = kinds_of before types has.0 in
          let at = place + length (kept_of before) in
          let last = subst (λ n. ArePlaced all (place + n) (kinds_from has.1.0 from has.1.1 has.1.3))
          (sym (length_all_zip (SourceHasTypes catalog) (kept_of before) kinds (of_kinds before types has.0)))
          (last_placed all place kinds (kinds_from has.1.0 from has.1.1 has.1.3) are) in (
            body_flat place before types has.0 (first_placed all place kinds (kinds_from has.1.0 from has.1.1 has.1.3) are),
            (
              [],
              has.1.1,
              none_answered (answered w db from) at from,
              from_flat has.1.0 (answered w db from) (still_answered from has.1.0 has.1.2) at from has.1.1 has.1.3 last,
              select_still has.1.0 (answered w db from) (still_answered from has.1.0 has.1.2) has.1.1 s types has.1.4,
            ),
          )

  pub rows_typed : (w : Datum) (stand_in : IsOfType Int w) (db : Database) (fits : FitsCatalog catalog db) (sources : List Source) (kinds : List (List Ty))
      → AllZip (SourceHasTypes catalog) sources kinds → AllZip FitTypes kinds (map (source_rows w db) sources)
  rows_typed w stand_in db fits [] [] all = tt
  rows_typed w stand_in db fits [] (types ∷ kinds) all = absurd all
  rows_typed w stand_in db fits (source ∷ sources) [] all = absurd all
  rows_typed w stand_in db fits (source ∷ sources) (types ∷ kinds) all =
      (source_typed w stand_in db catalog fits source types all.0, rows_typed w stand_in db fits sources kinds all.1)

  pub materialized_typed : (w : Datum) (db : Database) (of : Body) (types : List Ty) → IsOfType Int w → FitsCatalog catalog db → BodyHasTypes catalog of types
      → IsFlatTyped w db catalog of types
  materialized_typed w db of types stand_in fits has =
      let kinds = kinds_of of types has in
      let zipped = of_kinds of types has in
      record {
        kinds = kinds;
        sources = zipped;
        typed = body_flat (catalog ++ kinds) (got_front catalog kinds) w stand_in db fits (length catalog) of types has (all_placed catalog (length catalog) kinds refl);
        fits = record {
          schema = fits.schema;
          tables = zip_append FitTypes catalog db.tables kinds (map (source_rows w db) (kept_of of)) fits.tables (rows_typed w stand_in db fits (kept_of of) kinds zipped);
        };
      }
