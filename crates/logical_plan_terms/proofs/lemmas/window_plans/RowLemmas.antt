-- The rows of a plan of windows.
use Rattle.std.proofs.Common.{◌≡◌, ◌∙◌, ◌+◌, All, ℕ, List, [], ◌∷◌, ◌++◌, length, map, sym, ap, subst, IsPermutation}
use Rattle.std.proofs.lemmas.List.{length-append, length-map}
use Rattle.std.proofs.lemmas.List.Elements.{All-cons, All-contains, All-head, All-nil, All-tail}
use Rattle.values.specs.Database.{Database}
use Rattle.values.specs.Datum.{Datum}
use Rattle.values.specs.Row.{Row}
use Rattle.expr.specs.Filled.{filled}
use Rattle.expr.specs.Meaning.{eval, run}
use Rattle.semantics.specs.Body.{answers_in, values_over, computed_rows}
use Rattle.semantics.specs.Query.{From, Select, WindowCall}
use Rattle.semantics.specs.Times.{times}
use Rattle.semantics.specs.Valuation.{Valuation}
use Rattle.semantics.specs.Windows.{call_value, numbered_after, windowed}
use Rattle.semantics.proofs.GroupLemmas.{windowed-same}
use Rattle.logical_plan.specs.Plan.{PlanData, rows_of, shown_rows}
use Rattle.semantics.specs.Mapped.{mapped_call}
use Rattle.semantics_rewrites.proofs.lemmas.schema_sources.MappedLemmas.{windowed_mapped}
use Rattle.logical_plan_terms.proofs.lemmas.window_plans.SeenLemmas.{shown_whole}
use Rattle.logical_plan_terms.specs.window_plans.Laws.{HasTaken, WindowedHasRows, WindowedSay, windows_take}
use Rattle.logical_plan_terms.specs.window_plans.Windowed.{IsWindowedOver}

module _ (w : Datum) (db : Database) (from : From) (s : Select) (inner : ℕ) (places : List ℕ) (below plan : PlanData)
    (has : HasTaken w db from s inner places below) (over : IsWindowedOver inner s.windows places below plan) where
  -- the calls of the plan, and their values on the rows below
  pub calls_filled : over.calls ≡ map (mapped_call (filled (answers_in w db from))) s.windows
  calls_filled = over.calls_are (answers_in w db from) has.few

  pub rows_windowed : rows_of w db plan ≡ windowed (values_over w db from) w s.windows (shown_rows places (rows_of w db below))
  rows_windowed =
      ap (rows_of w db) over.plan_is ∙ ap (λ calls. windowed (eval w) w calls (shown_rows places (rows_of w db below))) calls_filled
      ∙ windowed_mapped (eval w) (filled (answers_in w db from)) w s.windows (shown_rows places (rows_of w db below))

pub windowed_has_rows : WindowedHasRows
windowed_has_rows w db from s inner places below plan has over =
    subst (IsPermutation (computed_rows w db from s)) (sym (rows_windowed w db from s inner places below plan has over))
    (windowed-same (values_over w db from) w s.windows (windows_take w db from s) (shown_rows places (rows_of w db below)) has.rows_are)

-- ---- how many values the rows have

wide_after : (width count : ℕ) (values : Row × ℕ → Row) → ((r : Row × ℕ) → length (values r) ≡ count) → (before rows : List Row)
    → All (λ (row : Row). length row ≡ width) rows → All (λ (row : Row). length row ≡ width + count) (map (λ (r : Row × ℕ). r.0 ++ values r) (numbered_after before rows))
wide_after width count values size before [] all = All-nil (λ (row : Row). length row ≡ width + count)
wide_after width count values size before (row ∷ rows) all =
    let r : Row × ℕ = (row, times row before) in
    All-cons (λ (row : Row). length row ≡ width + count) (row ++ values r) (map (λ (r : Row × ℕ). r.0 ++ values r) (numbered_after (row ∷ before) rows))
    (length-append row (values r) ∙ (λ j. All-head (λ (row : Row). length row ≡ width) row rows all j + size r j))
    (wide_after width count values size (row ∷ before) rows (All-tail (λ (row : Row). length row ≡ width) row rows all))

windowed_wide : (value : Valuation) (w : Datum) (calls : List WindowCall) (width : ℕ) (rows : List Row) → All (λ (row : Row). length row ≡ width) rows
    → All (λ (row : Row). length row ≡ width + length calls) (windowed value w calls rows)
windowed_wide value w calls width rows all =
    wide_after width (length calls) (λ r. map (call_value value w rows r) calls) (λ r. length-map calls (call_value value w rows r)) [] rows all

pub windowed_say : WindowedSay
windowed_say w db from s width inner e t few wide stands o row held =
    let long = All-contains (λ (row : Row). length row ≡ width + length s.windows) (computed_rows w db from s) row
    (windowed_wide (values_over w db from) w s.windows width (windows_take w db from s) wide) held in
    ap (λ r. run o r e) (sym (shown_whole (width + length s.windows) row long)) ∙ stands (answers_in w db from) few o row
