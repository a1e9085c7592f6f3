-- Windows over the rows that they take.
use Rattle.std.proofs.Common.{◌≡◌, ◌≢◌, ◌∙◌, ◌+◌, ◌==◌, true, false, ℕ, List, [], ◌∷◌, length, map, refl, sym, ap, subst}
use Rattle.std.specs.List.{range_with_len}
use Rattle.std.proofs.Math.Dec.{eqb-suc-zero}
use Rattle.std.proofs.lemmas.List.{length-map}
use Rattle.logical_plan.specs.Plan.{PlanData}
use Rattle.resolver_terms.specs.SelectView.{call_of}
use Rattle.resolver_terms.specs.declared.selects.WindowCall.{WindowCall}
use Rattle.logical_plan_queries.specs.select_plans.Made.{IsOverWindows}
use Rattle.logical_plan_terms.specs.window_plans.Windowed.{IsWindowedOver, written_places}

-- without windows the rows stay the same
pub no_windows : (calls : List WindowCall) (taken : List ℕ) (plan : PlanData) → (length calls == 0) ≡ true → IsOverWindows (map call_of calls) taken plan taken plan
no_windows [] taken plan none = (refl, refl)
no_windows (call ∷ calls) taken plan none = absurd (let e = eqb-suc-zero (length calls) in cc)

pub some_calls : (calls : List WindowCall) → (length calls == 0) ≡ false → calls ≢ []
some_calls [] some none = absurd cc
some_calls (call ∷ calls) some none = absurd (cc)

-- with them the values of the calls stand behind them
pub some_windows : (calls : List WindowCall) (taken read places : List ℕ) (below plan : PlanData) → (length calls == 0) ≡ false
    → read ≡ range_with_len 0 (length taken + length calls) → places ≡ written_places taken → IsWindowedOver 0 (map call_of calls) places below plan
    → IsOverWindows (map call_of calls) taken below read plan
some_windows [] taken read places below plan some read_is places_are over = absurd cc
some_windows (call ∷ calls) taken read places below plan some read_is places_are over = (
  read_is ∙ ap (λ n. range_with_len 0 (length taken + n)) (sym (length-map (call ∷ calls) call_of)),
  subst (λ (places : List ℕ). IsWindowedOver 0 (map call_of (call ∷ calls)) places below plan) places_are over,
)

pub called : (calls : List WindowCall) → calls ≢ [] → map call_of calls ≢ []
called [] some same = some refl
called (call ∷ calls) some same = absurd cc
