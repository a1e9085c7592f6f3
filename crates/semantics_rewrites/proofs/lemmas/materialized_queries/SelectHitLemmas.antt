-- What a SELECT reaches whose sources have the same rows in other orders, and in which other expressions stand that reach the same.
use Rattle.std.proofs.Common.{◌≡◌, ℕ, zero, suc, true, false, Any, Contains, List, [], ◌∷◌, ◌++◌, map, Option, Some, None, option_map, refl, sym, ap, subst, ◌∙◌, arith, IsPermutation}
use Rattle.std.specs.List.{flat_map}
use Rattle.std.proofs.lemmas.List.{map-append}
use Rattle.std.proofs.lemmas.List.Sorted.{Contains-permutation}
use Rattle.values.specs.Database.{Database}
use Rattle.values.specs.Datum.{Datum}
use Rattle.values.specs.Row.{Row}
use Rattle.expr.proofs.BagLemmas.{IsPermutation-filter}
use Rattle.expr.specs.Conjuncts.{conjuncts}
use Rattle.expr.specs.Filled.{filled}
use Rattle.expr.specs.Reaches.{reaches}
use Rattle.expr.specs.Term.{Term}
use Rattle.semantics.proofs.BodyLemmas.{select_rows-same}
use Rattle.semantics.proofs.GroupLemmas.{aggregate_result-same, call_result-same, group_rows-same, grouped-same, groups-same, map_agree, numbered-same}
use Rattle.semantics.specs.Body.{answers_in, rows_of, select_rows, values_over}
use Rattle.semantics.specs.Groups.{Group, aggregate_result, group_rows, grouped, groups}
use Rattle.semantics.specs.Hits.{AggregateLeaves, CallLeaves, IsChoice, IsComputedOn, IsInput, SelectHits, SomeReaches, call_terms, grouping_terms, in_aggregate, in_columns, in_groups, in_having, in_where, in_window, in_window_number, where_rows}
use Rattle.semantics.specs.Query.{From, Grouping, Select, WindowCall}
use Rattle.semantics.specs.Valuation.{Valuation, holds_on, kept}
use Rattle.semantics.specs.Windows.{call_result, numbered}
use Rattle.semantics_rewrites.proofs.lemmas.schema_sources.MappedLemmas.{all_call_terms_mapped, call_mapped, group_rows_mapped, grouped_mapped, grouping_terms_mapped, groups_mapped, select_rows_mapped}
use Rattle.semantics_rewrites.proofs.lemmas.schema_sources.SelectHitLemmas.{any_mapped, any_weaker}
use Rattle.semantics.specs.Mapped.{mapped_aggregate, mapped_call, mapped_grouping, mapped_select}

some_one : {A : Type 0} (x y : A) → Some x ≡ Some y → x ≡ y
some_one x y same = cc

-- what holds of some element holds of some element of a permutation
any_permuted : {A : Type 0} (P : A → Type 0) (xs ys : List A) → IsPermutation xs ys → Any P xs → Any P ys
any_permuted P xs ys same any =
    let held = Contains-permutation xs ys any.1 same (any.0, any.2, any.3) in
    (held.0, any.1, held.1, held.2, any.4)

map_any : {A B : Type 0} (P : B → Type 0) (f : A → B) (xs : List A) → Any (λ x. P (f x)) xs → Any P (map f xs)
map_any P f [] (k, y, less, is, has) = absurd (omega arith)
map_any P f (x ∷ xs) (zero, y, less, is, has) = (zero, f y, omega arith, ap f is, has)
map_any P f (x ∷ xs) (suc k, y, less, is, has) =
    let rest = map_any P f xs (k, y, omega arith, is, has) in
    let within = rest.2 in
    (suc rest.0, rest.1, omega (arith, within), rest.3, rest.4)

-- ---- of rows in another order

module _ (value : Valuation) where
  -- the numbers of a group's aggregates
  abbrev numbers : Grouping → Group → List (Option Datum)
  numbers g group = map (λ a. aggregate_result value None a group.members) g.aggregates

  abbrev SomeNone : List (Option Datum) → Type 0
  SomeNone = Any (λ m. m ≡ None)

  numbers_same : (g : Grouping) (key : Row) (xs ys : List Row) → IsPermutation xs ys
      → numbers g (record { key = key; members = xs }) ≡ numbers g (record { key = key; members = ys })
  numbers_same g key xs ys same =
      map_agree (λ a. aggregate_result value None a xs) (λ a. aggregate_result value None a ys) (λ a. aggregate_result-same value None a xs ys same) g.aggregates

  leaves_permuted : (g : Grouping) (xs ys : List Row) → IsPermutation xs ys → Any (AggregateLeaves value g) (groups value g.by xs)
      → Any (AggregateLeaves value g) (groups value g.by ys)
  leaves_permuted g xs ys same any =
      any_weaker (λ group. SomeNone (numbers g group)) (AggregateLeaves value g)
      (λ group some. any_mapped (λ m. m ≡ None) (λ a. aggregate_result value None a group.members) g.aggregates some) (groups value g.by ys)
      (any_mapped SomeNone (numbers g) (groups value g.by ys)
      (any_permuted SomeNone _ _ (groups-same value (numbers g) (numbers_same g) g.by xs ys same)
      (map_any SomeNone (numbers g) (groups value g.by xs)
      (any_weaker (AggregateLeaves value g) (λ group. SomeNone (numbers g group))
      (λ group some. map_any (λ m. m ≡ None) (λ a. aggregate_result value None a group.members) g.aggregates some) (groups value g.by xs) any))))

  call_permuted : (call : WindowCall) (xs ys : List Row) → IsPermutation xs ys → CallLeaves value xs call → CallLeaves value ys call
  call_permuted call xs ys same any =
      any_permuted (λ r. call_result value None call ys r ≡ None) (numbered xs) (numbered ys) (numbered-same xs ys same)
      (any_weaker (λ r. call_result value None call xs r ≡ None) (λ r. call_result value None call ys r ≡ None)
      (λ r none. sym (call_result-same value None call xs ys r same) ∙ none) (numbered xs) any)

module _ (w : Datum) (db other : Database) (from from' : From) (s : Select) (f : Term → Term)
    (values_is : (λ t. values_over w other from' (f t)) ≡ values_over w db from)
    (reached_is : (row : Row) (t : Term) → reaches w row (filled (answers_in w other from') (f t)) ≡ reaches w row (filled (answers_in w db from) t))
    (splits : (t : Term) → conjuncts (f t) ≡ map f (conjuncts t))
    (rows_same : IsPermutation (rows_of w other from') (rows_of w db from))
    (choice : (row : Row) → IsChoice w other false from' row → IsChoice w db false from row) where
  abbrev value : Valuation
  value = values_over w other from'

  abbrev own : Valuation
  own = values_over w db from

  abbrev behind : Valuation
  behind t = value (f t)

  abbrev mapped : Select
  mapped = mapped_select f s

  abbrev rows : List Row
  rows = where_rows w db from s

  abbrev rows' : List Row
  rows' = where_rows w other from' mapped

  pub reached_mapped : (row : Row) (terms : List Term) → SomeReaches w (answers_in w other from') row (map f terms) → SomeReaches w (answers_in w db from) row terms
  reached_mapped row terms any =
      any_weaker (λ t. reaches w row (filled (answers_in w other from') (f t)) ≡ true) (λ t. reaches w row (filled (answers_in w db from) t) ≡ true)
      (λ t reached. sym (reached_is row t) ∙ reached) terms
      (any_mapped (λ t. reaches w row (filled (answers_in w other from') t) ≡ true) f terms any)

  -- of expressions that are these, mapped
  reached_as : (row : Row) (all terms : List Term) → all ≡ map f terms → SomeReaches w (answers_in w other from') row all → SomeReaches w (answers_in w db from) row terms
  reached_as row all terms is any = reached_mapped row terms (subst (SomeReaches w (answers_in w other from') row) is any)

  where_same : IsPermutation rows' rows
  where_same =
      subst (λ (v : Valuation). IsPermutation (kept v s.condition (rows_of w other from')) rows) (sym values_is)
      (IsPermutation-filter (holds_on own s.condition) _ _ rows_same)

  groups_is : (g : Grouping) → groups value (map f g.by) rows' ≡ groups own g.by rows'
  groups_is g = groups_mapped value f g.by rows' ∙ ap (λ (v : Valuation). groups v g.by rows') values_is

  group_rows_permuted : (g : Grouping) → IsPermutation (group_rows value w (mapped_grouping f g) rows') (group_rows own w g rows)
  group_rows_permuted g =
      subst (λ made. IsPermutation made (group_rows own w g rows)) (sym (group_rows_mapped value f w g rows' ∙ ap (λ (v : Valuation). group_rows v w g rows') values_is))
      (group_rows-same own w g rows' rows where_same)

  grouped_is : (g : Option Grouping) → grouped value w (option_map (mapped_grouping f) g) rows' ≡ grouped own w g rows'
  grouped_is g = grouped_mapped value f w g rows' ∙ ap (λ (v : Valuation). grouped v w g rows') values_is

  grouped_permuted : (g : Option Grouping) → IsPermutation (grouped value w (option_map (mapped_grouping f) g) rows') (grouped own w g rows)
  grouped_permuted g = subst (λ made. IsPermutation made (grouped own w g rows)) (sym (grouped_is g)) (grouped-same own w g rows' rows where_same)

  select_permuted : IsPermutation (select_rows value w mapped (rows_of w other from')) (select_rows own w s (rows_of w db from))
  select_permuted =
      subst (λ made. IsPermutation made (select_rows own w s (rows_of w db from)))
      (sym (select_rows_mapped value f w s (rows_of w other from') ∙ ap (λ (v : Valuation). select_rows v w s (rows_of w other from')) values_is))
      (select_rows-same own w s _ _ rows_same)

  -- the grouping that was mapped
  unmapped : (o : Option Grouping) (g : Grouping) → option_map (mapped_grouping f) o ≡ Some g → (of : Grouping) × (o ≡ Some of) × (mapped_grouping f of ≡ g)
  unmapped None g is = absurd cc
  unmapped (Some of) g is = (of, refl, some_one _ _ is)

  leaves_mapped : (g : Grouping) (group : Group) → AggregateLeaves value (mapped_grouping f g) group → AggregateLeaves own g group
  leaves_mapped g group any =
      subst (λ (v : Valuation). Any (λ a. aggregate_result v None a group.members ≡ None) g.aggregates) values_is
      (any_mapped (λ a. aggregate_result value None a group.members ≡ None) (mapped_aggregate f) g.aggregates any)

  input_mapped : (o : Option Grouping) (row : Row) → IsInput w other from' mapped (option_map (mapped_grouping f) o) row → IsInput w db from s o row
  input_mapped None row is = choice row is
  input_mapped (Some g) row is = Contains-permutation _ _ row (grouped_permuted (Some g)) is

  computed_mapped : (calls : List WindowCall) (row : Row) → IsComputedOn w other from' mapped (map (mapped_call f) calls) row → IsComputedOn w db from s calls row
  computed_mapped [] row is = input_mapped s.grouping row is
  computed_mapped (call ∷ calls) row is = Contains-permutation _ _ row select_permuted is

  call_leaves : (call : WindowCall) (taken : List Row) → CallLeaves value taken (mapped_call f call) → CallLeaves own taken call
  call_leaves call taken any =
      subst (λ (v : Valuation). Any (λ r. call_result v None call taken r ≡ None) (numbered taken)) values_is
      (any_weaker (λ (r : Row × ℕ). call_result value None (mapped_call f call) taken r ≡ None) (λ (r : Row × ℕ). call_result behind None call taken r ≡ None)
      (λ r none. sym (call_mapped value f None call taken r) ∙ none) (numbered taken) any)

  pub select_hits : (terms : List Term) → SelectHits w other from' mapped (map f terms) → SelectHits w db from s terms
  select_hits terms (in_where row chosen reached) =
      in_where row (choice row chosen) (reached_as row (conjuncts (f s.condition)) (conjuncts s.condition) (splits s.condition) reached)
  select_hits terms (in_groups g row is chosen reached) =
      let of = unmapped s.grouping g is in
      in_groups of.0 row of.1 (choice row chosen)
      (reached_as row (grouping_terms g) (grouping_terms of.0) (ap grouping_terms (sym of.2) ∙ grouping_terms_mapped f of.0) reached)
  select_hits terms (in_aggregate g is any) =
      let of = unmapped s.grouping g is in
      let here : Any (AggregateLeaves value (mapped_grouping f of.0)) (groups value (map f of.0.by) rows') =
      subst (λ (h : Grouping). Any (AggregateLeaves value h) (groups value h.by rows')) (sym of.2) any in
      in_aggregate of.0 of.1
      (leaves_permuted own of.0 rows' rows where_same
      (any_weaker (AggregateLeaves value (mapped_grouping f of.0)) (AggregateLeaves own of.0) (leaves_mapped of.0) _
      (subst (λ (gs : List Group). Any (AggregateLeaves value (mapped_grouping f of.0)) gs) (groups_is of.0) here)))
  select_hits terms (in_having g row is held reached) =
      let of = unmapped s.grouping g is in
      in_having of.0 row of.1
      (Contains-permutation _ _ row (group_rows_permuted of.0)
      (subst (λ (h : Grouping). Contains (group_rows value w h rows') row) (sym of.2) held))
      (reached_as row (g.having ∷ []) (of.0.having ∷ []) (ap (λ (h : Grouping). h.having ∷ []) (sym of.2)) reached)
  select_hits terms (in_window row input reached) =
      in_window row (input_mapped s.grouping row input)
      (reached_as row (flat_map call_terms (map (mapped_call f) s.windows)) (flat_map call_terms s.windows) (all_call_terms_mapped f s.windows) reached)
  select_hits terms (in_window_number any) =
      let taken = grouped own w s.grouping rows' in
      in_window_number
      (any_weaker (CallLeaves own taken) (CallLeaves own (grouped own w s.grouping rows))
      (λ call. call_permuted own call taken (grouped own w s.grouping rows) (grouped-same own w s.grouping rows' rows where_same)) s.windows
      (any_weaker (λ (call : WindowCall). CallLeaves value taken (mapped_call f call)) (CallLeaves own taken) (λ call. call_leaves call taken) s.windows
      (any_mapped (CallLeaves value taken) (mapped_call f) s.windows
      (subst (λ (rs : List Row). Any (CallLeaves value rs) (map (mapped_call f) s.windows)) (grouped_is s.grouping) any))))
  select_hits terms (in_columns row computed reached) =
      in_columns row (computed_mapped s.windows row computed)
      (reached_as row (map f s.columns ++ map f terms) (s.columns ++ terms) (sym (map-append f s.columns terms)) reached)
