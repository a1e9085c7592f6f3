-- The rows of a plan of groups.
use Rattle.std.proofs.Common.{◌≡◌, ◌∙◌, ◌&&◌, ◌+◌, Bool, true, false, not, Contains, ℕ, List, [], ◌∷◌, ◌++◌, filter, length, map, Option, Some, unwrap_or, refl, sym, ap, subst, IsPermutation}
use Rattle.std.specs.List.{AllZip}
use Rattle.std.proofs.lemmas.List.Elements.{All-contains}
use Rattle.std.proofs.lemmas.List.Sorted.{IsPermutation-trans}
use Rattle.values.specs.Database.{Database}
use Rattle.values.specs.Datum.{Datum, null}
use Rattle.values.specs.Row.{Row}
use Rattle.expr.specs.Conjuncts.{keeps}
use Rattle.expr.specs.Meaning.{eval}
use Rattle.expr.specs.operations.Operations.{is_null, truth}
use Rattle.expr.specs.Term.{Term}
use Rattle.expr.proofs.BagLemmas.{IsPermutation-filter}
use Rattle.semantics.specs.Body.{answers_in, values_over}
use Rattle.semantics.specs.Groups.{aggregate_result, aggregate_value, group_keys, group_of, group_row, group_rows, measure}
use Rattle.semantics.specs.Hits.{where_rows}
use Rattle.semantics.specs.Query.{Aggregate, From, Grouping, Select}
use Rattle.semantics.specs.Times.{once, same_row}
use Rattle.semantics.specs.Valuation.{Valuation, holds_on, term_values}
use Rattle.semantics.proofs.GroupLemmas.{group_rows-same}
use Rattle.logical_plan_terms.specs.Over.{StandsOver}
use Rattle.logical_plan.specs.Plan.{PlanData, are_true, rows_of}
use Rattle.windows_groups.specs.row_groups.Gathered.{gathered_rows}
use Rattle.windows_groups.specs.row_groups.GroupView.{GroupTermsData}
use Rattle.windows_groups.proofs.lemmas.row_groups.LawLemmas.{gathered_are_groups}
use Rattle.logical_plan_terms.specs.group_plans.Grouped.{AggregateStandsOver}
use Rattle.logical_plan_terms.specs.group_plans.Laws.{GroupedHasRows, SeesWhere, group_rows_kept}
use Rattle.logical_plan_terms.proofs.lemmas.group_plans.SeenLemmas.{filter_agree, filter_seen, held_filter, map_seen}
use Rattle.logical_plan_terms.proofs.lemmas.group_plans.WidthLemmas.{rows_wide, wide_says}

keys_seen : (one other : Valuation) (es ts : List Term) (seen : Row → Row) (rows : List Row)
    → AllZip (λ e t. Unit {0}) es ts → ((row : Row) → Contains rows row → term_values one es (seen row) ≡ term_values other ts row)
    → group_keys one es (map seen rows) ≡ group_keys other ts rows
keys_seen one other [] [] seen rows all same = refl
keys_seen one other [] (t ∷ ts) seen rows all same = absurd all
keys_seen one other (e ∷ es) [] seen rows all same = absurd all
keys_seen one other (e ∷ es) (t ∷ ts) seen rows all same = ap once (map_seen (term_values one (e ∷ es)) (term_values other (t ∷ ts)) seen rows same)

paired : {A B : Type 0} (R : A → B → Type 0) (xs : List A) (ys : List B) → AllZip R xs ys → AllZip (λ x y. Unit {0}) xs ys
paired R [] [] all = tt
paired R [] (y ∷ ys) all = absurd all
paired R (x ∷ xs) [] all = absurd all
paired R (x ∷ xs) (y ∷ ys) all = (tt, paired R xs ys all.1)

module _ (w : Datum) (db : Database) (from : From) (s : Select) (g : Grouping) (read : List ℕ) (inner : ℕ) (below : PlanData) (sees : SeesWhere w db from s read inner below)
    (terms : GroupTermsData) (by_are : AllZip (StandsOver read inner) terms.by g.by) (aggregates_are : AllZip (AggregateStandsOver read inner) terms.aggregates g.aggregates) where
  abbrev pub value : Valuation
  value = values_over w db from

  abbrev pub whole : List Row
  whole = where_rows w db from s

  -- the groups over what is seen
  abbrev pub seen_grouping : Grouping
  seen_grouping = record { by = terms.by; aggregates = terms.aggregates; having = g.having }

  says_value : (e t : Term) → StandsOver read inner e t → (row : Row) → Contains whole row → eval w e (sees.seen row) ≡ value t row
  says_value e t stands row held = ap (λ v. unwrap_or v null) (sees.says e t stands (Some w) row held)

  values_seen : (es ts : List Term) → AllZip (StandsOver read inner) es ts → (row : Row) → Contains whole row → term_values (eval w) es (sees.seen row) ≡ term_values value ts row
  values_seen [] [] all row held = refl
  values_seen [] (t ∷ ts) all row held = absurd all
  values_seen (e ∷ es) [] all row held = absurd all
  values_seen (e ∷ es) (t ∷ ts) all row held = (λ j. says_value e t all.0 row held j ∷ values_seen es ts all.1 row held j)

  members_seen : (key : Row) → (group_of (eval w) terms.by (map sees.seen whole) key).members ≡ map sees.seen (group_of value g.by whole key).members
  members_seen key =
      filter_seen (λ r. same_row key (term_values (eval w) terms.by r)) (λ r. same_row key (term_values value g.by r)) sees.seen whole
      (λ row held. ap (same_row key) (values_seen terms.by g.by by_are row held))

  pub result_seen : (o : Option Datum) (key : Row) (a whole_one : Aggregate) → AggregateStandsOver read inner a whole_one
      → aggregate_result (eval w) o a (group_of (eval w) terms.by (map sees.seen whole) key).members ≡ aggregate_result value o whole_one (group_of value g.by whole key).members
  result_seen o key a whole_one stands =
      (λ j. measure o (stands.function j) (filter (λ v. not (is_null v))
      ((ap (map (eval w a.argument)) (members_seen key)
      ∙ map_seen (eval w a.argument) (value whole_one.argument) sees.seen (group_of value g.by whole key).members
      (λ row held. says_value a.argument whole_one.argument stands.argument row
      (held_filter (λ r. same_row key (term_values value g.by r)) whole row held))) j)))

  results_seen : (key : Row) (ones wholes : List Aggregate) → AllZip (AggregateStandsOver read inner) ones wholes
      → map (aggregate_value (eval w) w (group_of (eval w) terms.by (map sees.seen whole) key).members) ones
      ≡ map (aggregate_value value w (group_of value g.by whole key).members) wholes
  results_seen key [] [] all = refl
  results_seen key [] (t ∷ ts) all = absurd all
  results_seen key (e ∷ es) [] all = absurd all
  results_seen key (e ∷ es) (t ∷ ts) all = (λ j. unwrap_or (result_seen (Some w) key e t all.0 j) null ∷ results_seen key es ts all.1 j)

  pub keys_same : group_keys (eval w) terms.by (map sees.seen whole) ≡ group_keys value g.by whole
  keys_same = keys_seen (eval w) value terms.by g.by sees.seen whole (paired (StandsOver read inner) terms.by g.by by_are) (values_seen terms.by g.by by_are)

  made_rows : (keys : List Row)
      → map (group_row (eval w) w terms.aggregates) (map (group_of (eval w) terms.by (map sees.seen whole)) keys)
      ≡ map (group_row value w g.aggregates) (map (group_of value g.by whole) keys)
  made_rows [] = refl
  made_rows (key ∷ keys) = (λ j. (key ++ results_seen key terms.aggregates g.aggregates aggregates_are j) ∷ made_rows keys j)

  rows_seen : group_rows (eval w) w seen_grouping (map sees.seen whole) ≡ group_rows value w g whole
  rows_seen =
      made_rows (group_keys (eval w) terms.by (map sees.seen whole))
      ∙ ap (λ keys. map (group_row value w g.aggregates) (map (group_of value g.by whole) keys)) keys_same

  -- the rows of groups before HAVING, in some order
  pub gathered_same : IsPermutation (group_rows value w g whole) (gathered_rows w terms (rows_of w db below))
  gathered_same =
      subst (λ rows. IsPermutation rows (gathered_rows w terms (rows_of w db below))) rows_seen
      (IsPermutation-trans (group_rows (eval w) w seen_grouping (map sees.seen whole)) (group_rows (eval w) w seen_grouping (rows_of w db below))
      (gathered_rows w terms (rows_of w db below))
      (group_rows-same (eval w) w seen_grouping (map sees.seen whole) (rows_of w db below) sees.rows_are)
      (gathered_are_groups w seen_grouping (rows_of w db below)))

  pub wide : (row : Row) → Contains (group_rows value w g whole) row → length row ≡ length g.by + length g.aggregates
  wide row held = All-contains (λ (row : Row). length row ≡ length g.by + length g.aggregates) (group_rows value w g whole) row (rows_wide value w g whole) held

and_true : (b : Bool) → (b && true) ≡ b
and_true true = refl
and_true false = refl

pub grouped_has_rows : GroupedHasRows
grouped_has_rows w db from s g read inner below plan sees over =
    let value = values_over w db from in
    let rows = group_rows value w g (where_rows w db from s) in
    let gathered = gathered_rows w over.terms (rows_of w db below) in
    let same : filter (are_true w (over.test ∷ [])) rows ≡ filter (holds_on value g.having) rows =
    filter_agree (are_true w (over.test ∷ [])) (holds_on value g.having) rows
    (λ row held. and_true (holds_on (eval w) over.test row)
    ∙ ap (λ v. keeps (truth (unwrap_or v null)))
    (wide_says g inner (answers_in w db from) over.test g.having sees.few over.having_is (Some w) row
    (wide w db from s g read inner below sees over.terms over.by_are over.aggregates_are row held))) in
    subst (λ (p : PlanData). IsPermutation (group_rows_kept w db from s g) (rows_of w db p)) (sym over.plan_is)
    (subst (λ kept. IsPermutation kept (filter (are_true w (over.test ∷ [])) gathered)) same
    (IsPermutation-filter (are_true w (over.test ∷ [])) rows gathered
    (gathered_same w db from s g read inner below sees over.terms over.by_are over.aggregates_are)))
