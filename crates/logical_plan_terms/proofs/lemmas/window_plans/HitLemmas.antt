-- What a plan of windows reaches, the SELECT can reach.
use Rattle.std.proofs.Common.{◌≡◌, ◌∙◌, ◌⊎◌, inl, inr, Any, Contains, false, ℕ, List, ◌++◌, flat_map, None, sym, ap, subst, IsPermutation}
use Rattle.std.proofs.lemmas.List.Sorted.{Contains-permutation, IsPermutation-sym}
use Rattle.values.specs.Database.{Database}
use Rattle.values.specs.Datum.{Datum}
use Rattle.values.specs.Row.{Row}
use Rattle.expr.specs.Filled.{filled}
use Rattle.expr.specs.Meaning.{Overflows, eval, exact}
use Rattle.expr.specs.Term.{Term}
use Rattle.semantics.specs.Body.{answers_in, values_over, computed_rows}
use Rattle.semantics.specs.Hits.{CallLeaves, FromHits, SelectHits, call_terms}
use Rattle.semantics.specs.Query.{From, Select, WindowCall}
use Rattle.semantics.specs.Windows.{call_result, numbered}
use Rattle.semantics.proofs.GroupLemmas.{call_result-same, numbered-same}
use Rattle.semantics.proofs.HitLemmas.{column_is_hit, window_is_hit, window_number_is_hit}
use Rattle.logical_plan_terms.specs.Over.{StandsOver}
use Rattle.logical_plan.specs.Plan.{Hits, PlanData, ReachesOverflow, rows_of, shown_rows, windowed}
use Rattle.logical_plan.proofs.HitLemmas.{any_held}
use Rattle.semantics.specs.Mapped.{mapped_call}
use Rattle.semantics_rewrites.proofs.lemmas.schema_sources.MappedLemmas.{all_call_terms_mapped, call_mapped}
use Rattle.logical_plan_terms.proofs.lemmas.window_plans.SeenLemmas.{from_map, partner}
use Rattle.windows_groups.specs.Reached.{CallsReach, SomeLeaves}
use Rattle.logical_plan_terms.specs.window_plans.Laws.{HasTaken, WindowedColumnsAreHit, WindowedIsHit, windows_take}
use Rattle.logical_plan_terms.specs.window_plans.Windowed.{IsWindowedOver, windowed_columns}
use Rattle.logical_plan_terms.proofs.lemmas.window_plans.RowLemmas.{calls_filled, windowed_has_rows, windowed_say}

module _ (w : Datum) (db : Database) (from : From) (s : Select) (terms : List Term) (inner : ℕ) (places : List ℕ) (below plan : PlanData)
    (has : HasTaken w db from s inner places below) (over : IsWindowedOver inner s.windows places below plan) where
  abbrev in_place : Term → Term
  in_place = filled (answers_in w db from)

  abbrev rows : List Row
  rows = shown_rows places (rows_of w db below)

  taken : IsPermutation rows (windows_take w db from s)
  taken = IsPermutation-sym (windows_take w db from s) rows has.rows_are

  terms_hit : Any (CallsReach over.calls) rows → SelectHits w db from s terms
  terms_hit any =
      let held = any_held (CallsReach over.calls) rows any in
      let row = Contains-permutation rows (windows_take w db from s) held.0 taken held.1 in
      let named = ap (flat_map call_terms) (calls_filled w db from s inner places below plan has over) ∙ all_call_terms_mapped in_place s.windows in
      let reached = any_held (λ t. Overflows t held.0) (flat_map call_terms over.calls) held.2 in
      let term = from_map in_place (flat_map call_terms s.windows) reached.0 (subst (λ ts. Contains ts reached.0) named reached.1) in
      window_is_hit w db from s terms held.0 term.0 row term.1 (ap (λ e. exact e held.0) term.2 ∙ reached.2)

  number_hit : SomeLeaves w over.calls rows → SelectHits w db from s terms
  number_hit any =
      let value = values_over w db from in
      let held = any_held (CallLeaves (eval w) rows) over.calls any in
      let call = from_map (mapped_call in_place) s.windows held.0 (subst (λ calls. Contains calls held.0) (calls_filled w db from s inner places below plan has over) held.1) in
      let r = any_held (λ r. call_result (eval w) None held.0 rows r ≡ None) (numbered rows) held.2 in
      let among = Contains-permutation (numbered rows) (numbered (windows_take w db from s)) r.0 (numbered-same rows (windows_take w db from s) taken) r.1 in
      window_number_is_hit w db from s terms call.0 r.0 call.1 among
      (sym (call_result-same value None call.0 rows (windows_take w db from s) r.0 taken) ∙ sym (call_mapped (eval w) in_place None call.0 rows r.0)
      ∙ ap (λ (c : WindowCall). call_result (eval w) None c rows r.0) call.2 ∙ r.2)

  by_part : (Hits w db below → FromHits w db (answers_in w db from) from false ⊎ SelectHits w db from s terms) → Hits w db (windowed below places over.calls)
      → FromHits w db (answers_in w db from) from false ⊎ SelectHits w db from s terms
  by_part below_hits (inl hits) = below_hits hits
  by_part below_hits (inr (inl reached)) = inr (terms_hit reached)
  by_part below_hits (inr (inr leaves)) = inr (number_hit leaves)

pub windowed_is_hit : WindowedIsHit
windowed_is_hit w db from s terms inner places below plan has over below_hits hits =
    by_part w db from s terms inner places below plan has over below_hits (subst (Hits w db) over.plan_is hits)

pub windowed_columns_are_hit : WindowedColumnsAreHit
windowed_columns_are_hit w db from s terms es width inner places below plan has wide over stand any =
    let held = any_held (ReachesOverflow es) (rows_of w db plan) any in
    let row = Contains-permutation (rows_of w db plan) (computed_rows w db from s) held.0
    (IsPermutation-sym (computed_rows w db from s) (rows_of w db plan) (windowed_has_rows w db from s inner places below plan has over)) held.1 in
    let reached = any_held (λ e. Overflows e held.0) es held.2 in
    let term = partner (StandsOver (windowed_columns width s.windows) inner) es (s.columns ++ terms) reached.0 stand reached.1 in
    column_is_hit w db from s terms held.0 term.0 row term.1
    (sym (windowed_say w db from s width inner reached.0 term.0 has.few wide term.2 None held.0 row) ∙ reached.2)
