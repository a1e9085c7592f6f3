-- What a SELECT reaches whose sources have the same rows, and in which other expressions stand that reach the same.
use Rattle.std.proofs.Common.{◌≡◌, ℕ, zero, suc, true, false, Any, Contains, List, [], ◌∷◌, ◌++◌, map, Option, Some, None, option_map, refl, sym, ap, subst, ◌∙◌, arith}
use Rattle.std.specs.List.{flat_map}
use Rattle.std.proofs.lemmas.List.{map-append}
use Rattle.values.specs.Database.{Database}
use Rattle.values.specs.Datum.{Datum}
use Rattle.values.specs.Row.{Row}
use Rattle.expr.specs.Conjuncts.{conjuncts}
use Rattle.expr.specs.Filled.{filled}
use Rattle.expr.specs.Meaning.{eval}
use Rattle.expr.specs.Reaches.{reaches}
use Rattle.expr.specs.Term.{Term}
use Rattle.semantics.specs.Body.{answers_in, rows_of, select_rows, values_over}
use Rattle.semantics.specs.Groups.{Group, aggregate_result, group_rows, grouped, groups}
use Rattle.semantics.specs.Hits.{AggregateLeaves, CallLeaves, IsChoice, IsComputedOn, IsInput, SelectHits, SomeReaches, call_terms, grouping_terms, in_aggregate, in_columns, in_groups, in_having, in_where, in_window, in_window_number, where_rows}
use Rattle.semantics.specs.Query.{From, Grouping, Select, WindowCall}
use Rattle.semantics.specs.Valuation.{Valuation, kept}
use Rattle.semantics.specs.Windows.{call_result, numbered}
use Rattle.semantics_rewrites.proofs.lemmas.schema_sources.MappedLemmas.{all_call_terms_mapped, call_mapped, group_rows_mapped, grouped_mapped, grouping_terms_mapped, groups_mapped, select_rows_mapped}
use Rattle.semantics.specs.Mapped.{mapped_aggregate, mapped_call, mapped_grouping, mapped_select}

pub any_mapped : {A B : Type 0} (P : B → Type 0) (f : A → B) (xs : List A) → Any P (map f xs) → Any (λ x. P (f x)) xs
any_mapped P f [] (k, y, less, is, has) = absurd (omega arith)
any_mapped P f (x ∷ xs) (zero, y, less, is, has) = (zero, x, omega arith, refl, subst P (sym is) has)
any_mapped P f (x ∷ xs) (suc k, y, less, is, has) =
    let rest = any_mapped P f xs (k, y, omega arith, is, has) in
    let within = rest.2 in
    (suc rest.0, rest.1, omega (arith, within), rest.3, rest.4)

pub any_weaker : {A : Type 0} (P Q : A → Type 0) → ((x : A) → P x → Q x) → (xs : List A) → Any P xs → Any Q xs
any_weaker P Q weaker xs any = (any.0, any.1, any.2, any.3, weaker any.1 any.4)

some_one : {A : Type 0} (x y : A) → Some x ≡ Some y → x ≡ y
some_one x y same = cc

module _ (w : Datum) (db other : Database) (from from' : From) (s : Select) (f : Term → Term)
    (filled_is : (t : Term) → filled (answers_in w other from') (f t) ≡ filled (answers_in w db from) t)
    (splits : (t : Term) → conjuncts (f t) ≡ map f (conjuncts t))
    (rows_is : rows_of w other from' ≡ rows_of w db from)
    (choice : (row : Row) → IsChoice w other false from' row → IsChoice w db false from row) where
  abbrev value : Valuation
  value = values_over w other from'

  abbrev behind : Valuation
  behind t = value (f t)

  abbrev mapped : Select
  mapped = mapped_select f s

  pub values_is : behind ≡ values_over w db from
  values_is = λ i t. eval w (filled_is t i)

  pub reached_mapped : (row : Row) (terms : List Term) → SomeReaches w (answers_in w other from') row (map f terms) → SomeReaches w (answers_in w db from) row terms
  reached_mapped row terms any =
      any_weaker (λ t. reaches w row (filled (answers_in w other from') (f t)) ≡ true) (λ t. reaches w row (filled (answers_in w db from) t) ≡ true)
      (λ t reached. sym (ap (reaches w row) (filled_is t)) ∙ reached) terms
      (any_mapped (λ t. reaches w row (filled (answers_in w other from') t) ≡ true) f terms any)

  -- of expressions that are these, mapped
  reached_as : (row : Row) (all terms : List Term) → all ≡ map f terms → SomeReaches w (answers_in w other from') row all → SomeReaches w (answers_in w db from) row terms
  reached_as row all terms is any = reached_mapped row terms (subst (SomeReaches w (answers_in w other from') row) is any)

  where_is : where_rows w other from' mapped ≡ where_rows w db from s
  where_is = ap (λ (v : Valuation). kept v s.condition (rows_of w other from')) values_is ∙ ap (kept (values_over w db from) s.condition) rows_is

  groups_is : (g : Grouping) → groups value (map f g.by) (where_rows w other from' mapped) ≡ groups (values_over w db from) g.by (where_rows w db from s)
  groups_is g = groups_mapped value f g.by (where_rows w other from' mapped)
      ∙ ap (λ (v : Valuation). groups v g.by (where_rows w other from' mapped)) values_is ∙ ap (groups (values_over w db from) g.by) where_is

  group_rows_is : (g : Grouping) → group_rows value w (mapped_grouping f g) (where_rows w other from' mapped) ≡ group_rows (values_over w db from) w g (where_rows w db from s)
  group_rows_is g = group_rows_mapped value f w g (where_rows w other from' mapped)
      ∙ ap (λ (v : Valuation). group_rows v w g (where_rows w other from' mapped)) values_is ∙ ap (group_rows (values_over w db from) w g) where_is

  grouped_is : (g : Option Grouping) → grouped value w (option_map (mapped_grouping f) g) (where_rows w other from' mapped) ≡ grouped (values_over w db from) w g (where_rows w db from s)
  grouped_is g = grouped_mapped value f w g (where_rows w other from' mapped)
      ∙ ap (λ (v : Valuation). grouped v w g (where_rows w other from' mapped)) values_is ∙ ap (grouped (values_over w db from) w g) where_is

  select_rows_is : select_rows value w mapped (rows_of w other from') ≡ select_rows (values_over w db from) w s (rows_of w db from)
  select_rows_is = select_rows_mapped value f w s (rows_of w other from')
      ∙ ap (λ (v : Valuation). select_rows v w s (rows_of w other from')) values_is ∙ ap (select_rows (values_over w db from) w s) rows_is

  -- the grouping that was mapped
  unmapped : (o : Option Grouping) (g : Grouping) → option_map (mapped_grouping f) o ≡ Some g → (of : Grouping) × (o ≡ Some of) × (mapped_grouping f of ≡ g)
  unmapped None g is = absurd cc
  unmapped (Some of) g is = (of, refl, some_one _ _ is)

  leaves_mapped : (g : Grouping) (group : Group) → AggregateLeaves value (mapped_grouping f g) group → AggregateLeaves (values_over w db from) g group
  leaves_mapped g group any =
      subst (λ (v : Valuation). Any (λ a. aggregate_result v None a group.members ≡ None) g.aggregates) values_is
      (any_mapped (λ a. aggregate_result value None a group.members ≡ None) (mapped_aggregate f) g.aggregates any)

  input_mapped : (o : Option Grouping) (row : Row) → IsInput w other from' mapped (option_map (mapped_grouping f) o) row → IsInput w db from s o row
  input_mapped None row is = choice row is
  input_mapped (Some g) row is = subst (λ (rows : List Row). Contains rows row) (grouped_is (Some g)) is

  computed_mapped : (calls : List WindowCall) (row : Row) → IsComputedOn w other from' mapped (map (mapped_call f) calls) row → IsComputedOn w db from s calls row
  computed_mapped [] row is = input_mapped s.grouping row is
  computed_mapped (call ∷ calls) row is = subst (λ (rows : List Row). Contains rows row) select_rows_is is

  call_leaves : (call : WindowCall) (rows : List Row) → CallLeaves value rows (mapped_call f call) → CallLeaves (values_over w db from) rows call
  call_leaves call rows any =
      subst (λ (v : Valuation). Any (λ r. call_result v None call rows r ≡ None) (numbered rows)) values_is
      (any_weaker (λ (r : Row × ℕ). call_result value None (mapped_call f call) rows r ≡ None) (λ (r : Row × ℕ). call_result behind None call rows r ≡ None)
      (λ r none. sym (call_mapped value f None call rows r) ∙ none) (numbered rows) any)

  pub select_hits : (terms : List Term) → SelectHits w other from' mapped (map f terms) → SelectHits w db from s terms
  select_hits terms (in_where row chosen reached) =
      in_where row (choice row chosen) (reached_as row (conjuncts (f s.condition)) (conjuncts s.condition) (splits s.condition) reached)
  select_hits terms (in_groups g row is chosen reached) =
      let of = unmapped s.grouping g is in
      in_groups of.0 row of.1 (choice row chosen)
      (reached_as row (grouping_terms g) (grouping_terms of.0) (ap grouping_terms (sym of.2) ∙ grouping_terms_mapped f of.0) reached)
  select_hits terms (in_aggregate g is any) =
      let of = unmapped s.grouping g is in
      let here : Any (AggregateLeaves value (mapped_grouping f of.0)) (groups value (map f of.0.by) (where_rows w other from' mapped)) =
      subst (λ (h : Grouping). Any (AggregateLeaves value h) (groups value h.by (where_rows w other from' mapped))) (sym of.2) any in
      in_aggregate of.0 of.1
      (any_weaker (AggregateLeaves value (mapped_grouping f of.0)) (AggregateLeaves (values_over w db from) of.0) (leaves_mapped of.0) _
      (subst (λ (gs : List Group). Any (AggregateLeaves value (mapped_grouping f of.0)) gs) (groups_is of.0) here))
  select_hits terms (in_having g row is held reached) =
      let of = unmapped s.grouping g is in
      in_having of.0 row of.1
      (subst (λ (rows : List Row). Contains rows row) (group_rows_is of.0)
      (subst (λ (h : Grouping). Contains (group_rows value w h (where_rows w other from' mapped)) row) (sym of.2) held))
      (reached_as row (g.having ∷ []) (of.0.having ∷ []) (ap (λ (h : Grouping). h.having ∷ []) (sym of.2)) reached)
  select_hits terms (in_window row input reached) =
      in_window row (input_mapped s.grouping row input)
      (reached_as row (flat_map call_terms (map (mapped_call f) s.windows)) (flat_map call_terms s.windows) (all_call_terms_mapped f s.windows) reached)
  select_hits terms (in_window_number any) =
      let rows = grouped value w (option_map (mapped_grouping f) s.grouping) (where_rows w other from' mapped) in
      in_window_number
      (subst (λ (rs : List Row). Any (CallLeaves (values_over w db from) rs) s.windows) (grouped_is s.grouping)
      (any_weaker (λ (call : WindowCall). CallLeaves value rows (mapped_call f call)) (CallLeaves (values_over w db from) rows) (λ call. call_leaves call rows) s.windows
      (any_mapped (CallLeaves value rows) (mapped_call f) s.windows any)))
  select_hits terms (in_columns row computed reached) =
      in_columns row (computed_mapped s.windows row computed)
      (reached_as row (map f s.columns ++ map f terms) (s.columns ++ terms) (sym (map-append f s.columns terms)) reached)
