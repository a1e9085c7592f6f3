-- Which typed queries are served.
use Rattle.std.proofs.Common.{◌≡◌, ◌∙◌, All, pos, true, List, [], None, sym}
use Rattle.std.proofs.lemmas.List.Elements.{All-nil, All-weaker}
use Rattle.values.specs.declared.value.Ty.{Ty}
use Rattle.logical_plan_queries.specs.compound_plans.Arms.{AreServed, IsServedArm}
use Rattle.logical_plan.specs.answers.Permitted.{IsResultColumn}
use Rattle.semantics.specs.Query.{Body, From, Key, KeyTerm, Operator, Select, compound, select}
use Rattle.semantics.specs.Typed.{BodyHasTypes, IsKeyTerm}
use Rattle.logical_plan_queries.specs.Laws.{TypedIsServed}
use Rattle.logical_plan_queries.specs.Served.{HaveServedForm, IsServedBody}
use Rattle.logical_plan_queries.specs.select_plans.Served.{IsServedFrom}
use Rattle.logical_plan_queries.proofs.lemmas.select_plans.LawLemmas.{typed_is_of_rows}

module _ (catalog : List (List Ty)) where
  -- behind DISTINCT a typed ORDER BY names result columns alone
  results_named : (from : From) (s : Select) → s.distinct ≡ true → (types : List Ty) (by : KeyTerm) → IsKeyTerm catalog (select from s) types by → IsResultColumn by
  results_named from s distinct types (KeyTerm.result at) typed = tt
  results_named from s distinct types (KeyTerm.term t) typed = absurd (let e = sym typed.0 ∙ distinct in cc)

  -- and so it does behind SELECTs that are joined
  results_behind : (left : Body) (operator : Operator) (from : From) (s : Select) (types : List Ty) (by : KeyTerm)
      → IsKeyTerm catalog (compound left operator from s) types by → IsResultColumn by
  results_behind left operator from s types (KeyTerm.result at) typed = tt
  results_behind left operator from s types (KeyTerm.term t) typed = absurd typed

  arm_served : (from : From) (s : Select) (types : List Ty) → BodyHasTypes catalog (select from s) types → IsServedFrom from → IsServedArm from s
  arm_served from s types typed form = record {
    source = form;
    named =
        typed_is_of_rows catalog from s [] None (pos 0) types form
        (record { body = typed; order = All-nil (λ (key : Key). IsKeyTerm catalog (select from s) types key.by) });
  }

  each_served : (body : Body) (types : List Ty) → BodyHasTypes catalog body types → HaveServedForm body → AreServed body
  each_served (select from s) types typed form = arm_served from s types typed form
  each_served (compound left operator from s) types typed form =
      (each_served left types typed.0 form.0, arm_served from s types typed.1 form.1)

  body_served : (order : List Key) (body : Body) (types : List Ty) → BodyHasTypes catalog body types → All (λ (key : Key). IsKeyTerm catalog body types key.by) order
      → HaveServedForm body → IsServedBody order body
  body_served order (select from s) types typed keys form = record {
    served = record { source = form; named = typed_is_of_rows catalog from s order None (pos 0) types form (record { body = typed; order = keys }) };
    ordered = λ distinct.
        All-weaker (λ (key : Key). IsKeyTerm catalog (select from s) types key.by) (λ (key : Key). IsResultColumn key.by)
        (λ key. results_named from s distinct types key.by) order keys;
  }
  body_served order (compound left operator from s) types typed keys form = record {
    each = each_served (compound left operator from s) types typed form;
    ordered =
        All-weaker (λ (key : Key). IsKeyTerm catalog (compound left operator from s) types key.by) (λ (key : Key). IsResultColumn key.by)
        (λ key. results_behind left operator from s types key.by) order keys;
  }

pub typed_is_served : TypedIsServed
typed_is_served catalog query typed form = body_served catalog query.order query.body typed.0 typed.1.body typed.1.order form
