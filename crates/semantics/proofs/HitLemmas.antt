-- What FROM really gives is among the choices from its sources, so what is met on its rows is hit.
use Rattle.std.proofs.Common.{◌≡◌, Bool, true, false, ◌||◌, List, [], ◌∷◌, ◌++◌, map, Any, All, Contains, None, refl, sym, ◌∙◌, inl, inr, arith, Option, Some, subst, ap}
use Rattle.std.specs.List.{filter, list_any}
use Rattle.std.proofs.lemmas.Bool.{or_left, or_right}
use Rattle.std.proofs.lemmas.List.{replicate-append-replicate}
use Rattle.std.proofs.lemmas.List.Elements.{All-append, All-cons, All-contains, All-contains_itself, All-filter, All-map, All-nil, All-weaker}
use Rattle.values.specs.Datum.{Datum, null}
use Rattle.expr.specs.Conjuncts.{conjuncts}
use Rattle.expr.specs.Laws.{is_none}
use Rattle.expr.specs.Meaning.{exact}
use Rattle.expr.specs.Reaches.{reaches}
use Rattle.expr.specs.Term.{Term}
use Rattle.expr.proofs.ConjunctLemmas.{adds_no_overflow}
use Rattle.expr.specs.Filled.{filled}
use Rattle.expr.proofs.FilledLemmas.{fills_conjuncts}
use Rattle.std.proofs.lemmas.List.Folds.{Any-from_list_any}
use Rattle.expr.proofs.ReachLemmas.{reached_is_none}
use Rattle.semantics.specs.Query.{Grouping, WindowCall, From, JoinKind, Select, Source, from_width, joined, nothing, source_width, with_inner}
use Rattle.values.specs.Row.{Row}
use Rattle.semantics.specs.Valuation.{Valuation, holds_on, meets}
use Rattle.semantics.specs.Joins.{alone, nulls, pads_left, pads_right, pairs}
use Rattle.semantics.specs.Groups.{aggregate_result, grouped}
use Rattle.semantics.specs.Windows.{call_result, windowed}
use Rattle.semantics.proofs.ElementLemmas.{All-flat_map, All-when}
use Rattle.semantics.proofs.ScanLemmas.{windowed-none}
use Rattle.values.specs.Database.{Database}
use Rattle.semantics.specs.Body.{answers_in, from_rows, rows_of, select_rows, source_rows, values_over}
use Rattle.semantics.specs.Hits.{AggregateLeaves, CallLeaves, IsChoice, IsComputedOn, IsInput, SomeReaches, grouping_terms, in_aggregate, in_columns, in_groups, in_having, in_where, in_window, in_window_number, where_rows}
use Rattle.semantics.specs.HitLaws.{AggregateIsHit, ColumnIsHit, GroupIsHit, HavingIsHit, OnIsHit, WhereIsHit, WindowIsHit, WindowNumberIsHit}

list_any_agree : {X : Type 0} (p q : X → Bool) → ((x : X) → p x ≡ q x) → (xs : List X) → list_any p xs ≡ list_any q xs
list_any_agree p q same [] = refl
list_any_agree p q same (x ∷ xs) = rw (same x, list_any_agree p q same xs) refl

any_of : {X : Type 0} (P : X → Type 0) (xs : List X) (x : X) → Contains xs x → P x → Any P xs
any_of P xs x held has = (held.0, x, held.1, held.2, has)

any_map : {A B : Type 0} (test : B → Bool) (f : A → B) (xs : List A) → list_any test (map f xs) ≡ list_any (λ x. test (f x)) xs
any_map test f [] = refl
any_map test f (x ∷ xs) = ap (λ b. test (f x) || b) (any_map test f xs)

-- an expression without a value reaches an operation out of range
pub term_reaches : (w : Datum) (t : Term) (row : Row) → exact t row ≡ None → reaches w row t ≡ true
term_reaches w t row e = reached_is_none w row t ∙ ap is_none e

-- one of some expressions does
pub some_reaches : (w : Datum) (answers : List (List Datum)) (row : Row) (t : Term) (terms : List Term) → Contains terms t → exact (filled answers t) row ≡ None
    → SomeReaches w answers row terms
some_reaches w answers row t terms held e =
    any_of (λ t. reaches w row (filled answers t) ≡ true) terms t held (term_reaches w (filled answers t) row e)

-- where a condition has no value, one of its conjuncts reaches an operation out of range
pub conjunct_reaches : (w : Datum) (answers : List (List Datum)) (t : Term) (row : Row) → exact (filled answers t) row ≡ None → SomeReaches w answers row (conjuncts t)
conjunct_reaches w answers t row e =
    Any-from_list_any (λ c. reaches w row (filled answers c)) (conjuncts t)
    (sym (any_map (reaches w row) (filled answers) (conjuncts t))
    ∙ ap (list_any (reaches w row)) (sym (fills_conjuncts answers t))
    ∙ list_any_agree (reaches w row) (λ c. is_none (exact c row)) (λ c. reached_is_none w row c) (conjuncts (filled answers t))
    ∙ adds_no_overflow row (filled answers t) e)

module _ (w : Datum) (db : Database) where
  -- sources that a later join pads give a row of NULLs alone
  all_nulls : (from : From) (padded : Bool) → padded ≡ true → IsChoice w db padded from (nulls (from_width from))
  all_nulls nothing padded is = refl
  all_nulls (joined from kind source on) padded is = (
    nulls (from_width from),
    nulls (source_width source),
    sym (replicate-append-replicate (from_width from) (source_width source) null),
    all_nulls from (padded || pads_left kind) (or_left padded (pads_left kind) is),
    inr (inl (or_left padded (pads_right kind) is), refl),
  )
  all_nulls (with_inner from query) padded is = all_nulls from padded is

  module _ (value : Valuation) (from : From) (kind : JoinKind) (source : Source) (on : Term) (padded : Bool)
      (left_are : All (IsChoice w db (padded || pads_left kind) from) (from_rows w db value from)) where
    abbrev ls : List Row
    ls = from_rows w db value from

    abbrev rs : List Row
    rs = source_rows w db source

    abbrev IsOne : Row → Type 0
    IsOne = IsChoice w db padded (joined from kind source on)

    of_pair : (l r : Row) → IsChoice w db (padded || pads_left kind) from l → Contains rs r → IsOne (l ++ r)
    of_pair l r chosen held = (l, r, refl, chosen, inl held)

    of_pairs : All IsOne (pairs (meets value on) ls rs)
    of_pairs = All-flat_map IsOne (λ l. map (λ r. l ++ r) (filter (meets value on l) rs)) ls
        (All-weaker (IsChoice w db (padded || pads_left kind) from) (λ l. All IsOne (map (λ r. l ++ r) (filter (meets value on l) rs)))
        (λ l chosen. All-map IsOne (λ r. l ++ r) (filter (meets value on l) rs)
        (All-filter (meets value on l) (λ r. IsOne (l ++ r)) rs
        (All-weaker (Contains rs) (λ r. IsOne (l ++ r)) (λ r held. of_pair l r chosen held) rs (All-contains_itself rs))))
        ls left_are)

    of_left : pads_right kind ≡ true → All IsOne (map (λ l. l ++ nulls (source_width source)) (alone (meets value on) ls rs))
    of_left pads = All-map IsOne (λ l. l ++ nulls (source_width source)) _
        (All-filter _ (λ l. IsOne (l ++ nulls (source_width source))) ls
        (All-weaker (IsChoice w db (padded || pads_left kind) from) (λ l. IsOne (l ++ nulls (source_width source)))
        (λ l chosen. (l, nulls (source_width source), refl, chosen, inr (inl (or_right padded (pads_right kind) pads), refl))) ls left_are))

    of_right : pads_left kind ≡ true → All IsOne (map (λ r. nulls (from_width from) ++ r) (alone (λ r l. meets value on l r) rs ls))
    of_right pads = All-map IsOne (λ r. nulls (from_width from) ++ r) _
        (All-filter _ (λ r. IsOne (nulls (from_width from) ++ r)) rs
        (All-weaker (Contains rs) (λ r. IsOne (nulls (from_width from) ++ r))
        (λ r held. of_pair (nulls (from_width from)) r (all_nulls from (padded || pads_left kind) (or_right padded (pads_left kind) pads)) held)
        rs (All-contains_itself rs)))

    of_join : All IsOne (from_rows w db value (joined from kind source on))
    of_join = All-append IsOne _ _
        (All-append IsOne _ _ of_pairs (All-when IsOne (pads_right kind) _ of_left))
        (All-when IsOne (pads_left kind) _ of_right)

  -- each row of FROM is a choice of one row from each source
  pub from_rows_are_choices : (value : Valuation) (from : From) (padded : Bool) → All (IsChoice w db padded from) (from_rows w db value from)
  from_rows_are_choices value nothing padded = All-cons (IsChoice w db padded nothing) [] [] refl (All-nil _)
  from_rows_are_choices value (joined from kind source on) padded =
      of_join value from kind source on padded (from_rows_are_choices value from (padded || pads_left kind))
  from_rows_are_choices value (with_inner from query) padded = from_rows_are_choices value from padded

  pub choice_of_row : (value : Valuation) (from : From) (padded : Bool) (row : Row) → Contains (from_rows w db value from) row → IsChoice w db padded from row
  choice_of_row value from padded row held = All-contains (IsChoice w db padded from) _ row (from_rows_are_choices value from padded) held

  -- ---- ON

  -- ON that has no value on a row of its left sources beside a row of its right one is hit
  pub on_is_hit : OnIsHit w db
  on_is_hit value answers from kind source on padded l r left_held right_held e = inr (inr (
    l ++ r,
    (l, r, refl, choice_of_row value from (padded || pads_left kind) l left_held, inl right_held),
    conjunct_reaches w answers on (l ++ r) e,
  ))

  -- ---- the expressions of a SELECT, on rows that are really there

  module _ (from : From) (s : Select) (terms : List Term) where
    -- a row that WHERE keeps is a choice
    kept_is_choice : (row : Row) → Contains (where_rows w db from s) row → IsChoice w db false from row
    kept_is_choice row held =
        All-contains (IsChoice w db false from) (where_rows w db from s) row
        (All-filter (holds_on (values_over w db from) s.condition) (IsChoice w db false from) (rows_of w db from)
        (from_rows_are_choices (values_over w db from) from false)) held

    -- a row that windows really take
    input_is_taken : (grouping : Option Grouping) (row : Row)
        → Contains (grouped (values_over w db from) w grouping (where_rows w db from s)) row → IsInput w db from s grouping row
    input_is_taken None row held = kept_is_choice row held
    input_is_taken (Some g) row held = held

    computed_by : (row : Row) (calls : List WindowCall) → s.windows ≡ calls
        → Contains (select_rows (values_over w db from) w s (rows_of w db from)) row → IsComputedOn w db from s calls row
    computed_by row [] is held =
        let rows = grouped (values_over w db from) w s.grouping (where_rows w db from s) in
        input_is_taken s.grouping row
        (subst (λ shown. Contains shown row) (ap (λ calls. windowed (values_over w db from) w calls rows) is ∙ windowed-none (values_over w db from) w rows) held)
    computed_by row (call ∷ calls) is held = held

    pub where_is_hit : WhereIsHit w db from s terms
    where_is_hit row held e =
        in_where row (choice_of_row (values_over w db from) from false row held) (conjunct_reaches w (answers_in w db from) s.condition row e)

    pub group_is_hit : GroupIsHit w db from s terms
    group_is_hit g row t is held among e =
        in_groups g row is (kept_is_choice row held) (some_reaches w (answers_in w db from) row t (grouping_terms g) among e)

    pub aggregate_is_hit : AggregateIsHit w db from s terms
    aggregate_is_hit g group a is held among e =
        in_aggregate g is (any_of (AggregateLeaves (values_over w db from) g) _ group held
        (any_of (λ a. aggregate_result (values_over w db from) None a group.members ≡ None) g.aggregates a among e))

    pub having_is_hit : HavingIsHit w db from s terms
    having_is_hit g row is held e =
        in_having g row is held (some_reaches w (answers_in w db from) row g.having (g.having ∷ []) (0, omega arith, refl) e)

    pub window_is_hit : WindowIsHit w db from s terms
    window_is_hit row t held among e =
        in_window row (input_is_taken s.grouping row held) (some_reaches w (answers_in w db from) row t _ among e)

    pub window_number_is_hit : WindowNumberIsHit w db from s terms
    window_number_is_hit call r among held e =
        in_window_number (any_of (CallLeaves (values_over w db from) (grouped (values_over w db from) w s.grouping (where_rows w db from s))) s.windows call among
        (any_of (λ r. call_result (values_over w db from) None call (grouped (values_over w db from) w s.grouping (where_rows w db from s)) r ≡ None) _ r held e))

    pub column_is_hit : ColumnIsHit w db from s terms
    column_is_hit row t held among e =
        in_columns row (computed_by row s.windows refl held) (some_reaches w (answers_in w db from) row t (s.columns ++ terms) among e)
