use Rattle.std.proofs.Common.{◌∙◌, All, List, ℕ, ap, map, subst, sym}
use Rattle.logical_plan_terms.specs.Over.{AreWhole}
use Rattle.logical_plan.specs.PlanView.{plan_data}
use Rattle.resolver_terms.specs.SelectView.{call_of}
use Rattle.logical_plan_queries.proofs.lemmas.select_plans.WindowLemmas.{no_windows, some_calls, some_windows}
use Rattle.logical_plan_terms.specs.window_plans.Windowed.{IsOverCall, written_places}
use Rattle.logical_plan_queries.proofs.select_plans.base.windows_over.Goals as goal

pub returns-then-is_empty-clause-rows : goal.returns-then-is_empty-clause-rows
returns-then-is_empty-clause-rows c =
    no_windows c.args.calls.now c.args.taken.read.items (plan_data c.args.taken.plan) (sym c.is_empty.ensures ∙ c.if-is_empty.true)

pub windowed_over-requires : goal.windowed_over-requires
windowed_over-requires c =
    subst AreWhole (sym c.as_slice-2.ensures.value) (c.requires (some_calls c.args.calls.now (sym c.is_empty.ensures ∙ c.if-is_empty.false)))

pub returns-in-None-clause-over : goal.returns-in-None-clause-over
returns-in-None-clause-over c = λ all.
    (rw c.in-None.is at c.in_ok-windowed.ensures.over)
    (subst (λ (read : List ℕ). All (IsOverCall read 0) (map call_of c.args.calls.now)) (sym c.as_slice-2.ensures.value) all)

pub push_places-requires : goal.push_places-requires
push_places-requires c = c.requires (some_calls c.args.calls.now (sym c.is_empty.ensures ∙ c.if-is_empty.false))

pub returns-clause-rows : goal.returns-clause-rows
returns-clause-rows c =
    some_windows c.args.calls.now c.args.taken.read.items c.push_places.new.out.items c.in_ok-places.places.items (plan_data c.args.taken.plan) (plan_data c.in-Some.plan)
    (sym c.is_empty.ensures ∙ c.if-is_empty.false) c.in_ok-push_places.ensures
    (c.in_ok-places.ensures ∙ ap written_places c.as_slice.ensures.value) (rw c.in-Some.is at c.in_ok-windowed.ensures.plan)
