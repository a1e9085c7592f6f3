-- What a plan of one table hits, its SELECT hits.
use Rattle.std.proofs.Common.{◌≡◌, ◌∙◌, inl, inr, All, Any, Contains, true, false, ℕ, zero, suc, List, [], ◌∷◌, ◌++◌, map, None, refl, sym, ap, subst, arith}
use Rattle.std.proofs.lemmas.List.Elements.{All-cons, All-contains, All-filter, All-nil, Contains-append_left, Contains-append_right}
use Rattle.std.proofs.lemmas.List.Sorted.{Contains-permutation, IsPermutation-sym}
use Rattle.values.specs.Database.{Database}
use Rattle.values.specs.Datum.{Datum}
use Rattle.values.specs.Row.{Row}
use Rattle.expr.specs.Conjuncts.{conjuncts}
use Rattle.expr.specs.Filled.{filled}
use Rattle.expr.specs.Meaning.{Overflows, exact}
use Rattle.expr.specs.Reaches.{reaches}
use Rattle.expr.specs.Term.{Term}
use Rattle.expr.proofs.FilledLemmas.{fills_conjuncts}
use Rattle.semantics.specs.Body.{answers_in}
use Rattle.semantics.specs.Hits.{IsChoice, SelectHits, SomeReaches, in_where}
use Rattle.semantics.specs.Joins.{nulls}
use Rattle.semantics.specs.OneTable.{shown}
use Rattle.semantics.specs.Query.{Select, only, table}
use Rattle.semantics.proofs.HitLemmas.{term_reaches}
use Rattle.logical_plan.specs.Plan.{Hits, ReachesOverflow, are_true, rows_of, table_rows}
use Rattle.logical_plan.specs.Stands.{AreTestsOf, IsSplitCondition, OneTableHits, condition_of, one_table, tested_once}
use Rattle.logical_plan.proofs.SearchLemmas.{test_reached}

-- some element, by what holds of each place
pub any_held : {X : Type 0} (P : X → Type 0) (xs : List X) → Any P xs → (x : X) × Contains xs x × P x
any_held P xs any = (any.1, (any.0, any.2, any.3), any.4)

pub any_here : {X : Type 0} (P : X → Type 0) (xs : List X) (x : X) → Contains xs x → P x → Any P xs
any_here P xs x held is = (held.0, x, held.1, held.2, is)

pub from_map : {A B : Type 0} (f : A → B) (xs : List A) (y : B) → Contains (map f xs) y → (x : A) × Contains xs x × (f x ≡ y)
from_map f [] y held = absurd (let none = held.1 in omega (arith, none))
from_map f (x ∷ xs) y (zero, within, is) = (x, (0, omega arith, refl), is)
from_map f (x ∷ xs) y (suc k, within, is) =
    let rest = from_map f xs y (k, omega (arith, within), is) in
    (rest.0, (suc rest.1.0, (let w = rest.1.1 in omega (arith, w)), rest.1.2), rest.2)

-- where a test reaches an operation out of range, a condition does
pub stands_reach : (columns : List ℕ) (tests conditions : List Term) (row : Row) → AreTestsOf columns tests conditions
    → ReachesOverflow tests (shown columns row) → ReachesOverflow conditions row
stands_reach columns [] conditions row all reach = absurd (let none = reach.2 in omega (arith, none))
stands_reach columns (test ∷ tests) [] row all reach = absurd all
stands_reach columns (test ∷ tests) (t ∷ conditions) row all (zero, x, within, is, e) =
    (0, t, omega arith, refl, sym (all.0 None row) ∙ ap (λ test. exact test (shown columns row)) is ∙ e)
stands_reach columns (test ∷ tests) (t ∷ conditions) row all (suc k, x, within, is, e) =
    let rest = stands_reach columns tests conditions row all.1 (k, x, omega (arith, within), is, e) in
    (suc rest.0, rest.1, (let w = rest.2 in omega (arith, w)), rest.3, rest.4)

pub reach_among : (row : Row) (some all : List Term) → ((t : Term) → Contains some t → Contains all t) → ReachesOverflow some row → ReachesOverflow all row
reach_among row some all among reach =
    let held = any_held (λ t. Overflows t row) some reach in
    any_here (λ t. Overflows t row) all held.0 (among held.0 held.1) held.2

-- a conjunct in which inner queries have been answered is one of the condition's
pub conjunct_reached : (w : Datum) (answers : List (List Datum)) (t : Term) (row : Row) → ReachesOverflow (conjuncts (filled answers t)) row
    → SomeReaches w answers row (conjuncts t)
conjunct_reached w answers t row reach =
    let held = any_held (λ c. Overflows c row) (conjuncts (filled answers t)) reach in
    let from = from_map (filled answers) (conjuncts t) held.0 (subst (λ ts. Contains ts held.0) (fills_conjuncts answers t) held.1) in
    any_here (λ c. reaches w row (filled answers c) ≡ true) (conjuncts t) from.0 from.1
    (term_reaches w (filled answers from.0) row (ap (λ c. exact c row) from.2 ∙ held.2))

module _ (w : Datum) (db : Database) (s : Select) (terms : List Term) (at width : ℕ) (columns : List ℕ) (constants tests : List Term)
    (split : IsSplitCondition columns (condition_of w db (only (table at width)) s) constants tests) where
  abbrev IsOne : Row → Type 0
  IsOne row = IsChoice w db false (only (table at width)) row

  -- a condition reaches one on a row that FROM may choose
  hit_on : (row : Row) → IsOne row → ReachesOverflow (split.bare ++ split.others) row → SelectHits w db (only (table at width)) s terms
  hit_on row chosen reach =
      let whole = condition_of w db (only (table at width)) s in
      in_where row chosen
      (conjunct_reached w (answers_in w db (only (table at width))) s.condition row
      (reach_among row (split.bare ++ split.others) (conjuncts whole)
      (λ t held. Contains-permutation (split.bare ++ split.others) (conjuncts whole) t (IsPermutation-sym _ _ split.same) held) reach))

  of_table : (row : Row) → Contains (table_rows db at) row → IsOne row
  of_table row held = ([], row, refl, refl, inl held)

  -- FROM may always choose some row
  some_choice : (rows : List Row) → table_rows db at ≡ rows → (row : Row) × IsOne row
  some_choice [] is = (nulls width, ([], nulls width, refl, refl, inr (inr is, refl)))
  some_choice (row ∷ rows) is = (row, of_table row (subst (λ rows. Contains rows row) (sym is) (0, omega arith, refl)))

  of_constants : ReachesOverflow constants [] → SelectHits w db (only (table at width)) s terms
  of_constants reach =
      let choice = some_choice (table_rows db at) refl in
      hit_on choice.0 choice.1
      (reach_among choice.0 split.bare (split.bare ++ split.others) (λ t held. Contains-append_left split.bare split.others t held)
      (stands_reach [] constants split.bare choice.0 split.constants_are reach))

  of_tests : (row : Row) → Contains (table_rows db at) row → ReachesOverflow tests (shown columns row) → SelectHits w db (only (table at width)) s terms
  of_tests row held reach =
      hit_on row (of_table row held)
      (reach_among row split.others (split.bare ++ split.others) (λ t among. Contains-append_right split.bare split.others t among)
      (stands_reach columns tests split.others row split.tests_are reach))

  once_hits : (conditions : List Term) → Hits w db (tested_once conditions) → ReachesOverflow conditions []
  once_hits [] hits = absurd hits
  once_hits (test ∷ conditions) (inl none) = absurd none
  once_hits (test ∷ conditions) (inr (zero, row, within, is, reach)) = subst (ReachesOverflow (test ∷ conditions)) (sym is) reach
  once_hits (test ∷ conditions) (inr (suc k, row, within, is, reach)) = absurd (omega (arith, within))

  only_empty : (conditions : List Term) (l : Row) → Contains (rows_of w db (tested_once conditions)) l → l ≡ []
  only_empty conditions l held =
      All-contains (λ row. row ≡ []) (rows_of w db (tested_once conditions)) l (all_empty conditions) held
    where
      all_empty : (conditions : List Term) → All (λ row. row ≡ []) (rows_of w db (tested_once conditions))
      all_empty [] = All-cons (λ row. row ≡ []) [] [] refl (All-nil _)
      all_empty (test ∷ conditions) =
          All-filter (are_true w (test ∷ conditions)) (λ row. row ≡ []) ([] ∷ []) (All-cons (λ row. row ≡ []) [] [] refl (All-nil _))

  hits_are : Hits w db (one_table at columns constants tests) → SelectHits w db (only (table at width)) s terms
  hits_are (inl before) = of_constants (once_hits constants before)
  hits_are (inr reached) =
      let here = test_reached w db (tested_once constants) (record { table = at; columns = columns; tests = tests; padded = false; search = None }) refl reached in
      let l = any_held (λ l. Any (λ r. ReachesOverflow tests (l ++ r)) (map (shown columns) (table_rows db at))) (rows_of w db (tested_once constants)) here in
      let r = any_held (λ r. ReachesOverflow tests (l.0 ++ r)) (map (shown columns) (table_rows db at)) l.2 in
      let row = from_map (shown columns) (table_rows db at) r.0 r.1 in
      of_tests row.0 row.1
      (subst (ReachesOverflow tests) (ap (λ l. l ++ r.0) (only_empty constants l.0 l.1) ∙ sym row.2) r.2)

pub one_table_hits : OneTableHits
one_table_hits = hits_are
