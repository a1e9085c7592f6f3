use Rattle.std.proofs.Common.{◌≡◌, ◌∙◌, ◌-◌, ◌<◌, Bool, [], List, ℕ, ap, length, map, rules, subst, sym, take, arith, None}
use Rattle.std.proofs.lemmas.List.{length-take}
use Rattle.semantics.specs.Joins.{pads_right}
use Rattle.semantics.specs.Query.{from_width, joined, table}
use Rattle.semantics_names.specs.Sources.{kind_of}
use Rattle.logical_plan.specs.JoinPlan.{IsEarlyPlan, columns_before}
use Rattle.logical_plan.specs.Plan as p
use Rattle.logical_plan.specs.PlanView.{plan_data}
use Rattle.logical_plan.specs.Stands.{AreTestsOf, tested}
use Rattle.expr.specs.View.{term}
use Rattle.logical_plan_terms.specs.table_plans.Input.{from_of}
use Rattle.logical_plan_terms.specs.table_plans.Parted.{AreParted, ArePlaced}
use Rattle.logical_plan_terms.specs.table_plans.Planned.{AreOnOver}
use Rattle.logical_plan_terms.proofs.lemmas.table_plans.BehindLemmas.{few, front, none_are, none_right, on_parts, on_whole, split, whole_is}
use Rattle.logical_plan_terms.proofs.lemmas.table_plans.PartLemmas.{placed_behind}
use Rattle.logical_plan_terms.proofs.lemmas.table_plans.RowLemmas.{plan_of_nothing}
use Rattle.logical_plan_terms.proofs.table_plans.tables.+plan_behind.Goals as goal

pub returns-in_default-clause-plan : goal.returns-in_default-clause-plan
returns-in_default-clause-plan t c = λ conditions stand.
    subst (λ from. IsEarlyPlan c.args.read.now from conditions (plan_data c.in_ok-plan.plan)) (sym (none_are c.args.tables.now c.in_default.len_below))
    (plan_of_nothing c.args.read.now (plan_data c.in_ok-plan.plan) (map term c.args.tests.items) conditions c.in_ok-plan.ensures stand)

pub columns_left-first-requires : goal.columns_left-first-requires
columns_left-first-requires t c =
    few c.args.tables.now c.last-item.result c.in-len1-up.len_at_least c.last-item.is c.args.read.now c.requires.parted c.in_ok-columns.columns.items c.len.result
    c.in_ok-columns.ensures (c.len.ensures ∙ c.in_ok-columns.columns.ok.0)

pub returns-in-None-clause-over : goal.returns-in-None-clause-over
returns-in-None-clause-over t c = λ over.
    (rw c.in-None.is at c.in_ok-conjuncts_over.ensures.over)
    (on_parts c.args.tables.now c.last-item.result c.in-len1-up.len_at_least c.last-item.is c.args.read.now over).0

pub plan_behind-requires : goal.plan_behind-requires
plan_behind-requires t c =
    let first_is = c.columns_left-first.ensures ∙ front c.args.tables.now c.last-item.result c.in-len1-up.len_at_least c.last-item.is c.args.read.now c.requires.parted
    c.in_ok-columns.columns.items c.len.result c.in_ok-columns.ensures (c.len.ensures ∙ c.in_ok-columns.columns.ok.0) in
    let short : length c.args.tables.now - 1 < length c.args.tables.now = (let some = c.in-len1-up.len_at_least in omega (arith, some)) in (
      search (rules, length-take),
      (
        subst (λ (r : List ℕ). AreParted (from_of (take (length c.args.tables.now - 1) c.args.tables.now)) r) (sym first_is)
            (split c.args.tables.now c.last-item.result c.in-len1-up.len_at_least c.last-item.is c.args.read.now c.requires.parted).1,
        (none_right c.args.tables.now c.last-item.result c.in-len1-up.len_at_least c.last-item.is c.requires.early).0,
      ),
    )

pub returns-in-None-2-clause-over : goal.returns-in-None-2-clause-over
returns-in-None-2-clause-over t c = λ over.
    let first_is = c.columns_left-first.ensures ∙ front c.args.tables.now c.last-item.result c.in-len1-up.len_at_least c.last-item.is c.args.read.now c.requires.parted
    c.in_ok-columns.columns.items c.len.result c.in_ok-columns.ensures (c.len.ensures ∙ c.in_ok-columns.columns.ok.0) in
    (rw c.in-None-2.is at c.in_ok-plan_behind.ensures.over)
    (subst (λ (r : List ℕ). AreOnOver r (from_of (take (length c.args.tables.now - 1) c.args.tables.now))) (sym first_is)
    (on_parts c.args.tables.now c.last-item.result c.in-len1-up.len_at_least c.last-item.is c.args.read.now over).1)

pub returns-clause-over : goal.returns-clause-over
returns-clause-over t c =
    let first_is = c.columns_left-first.ensures ∙ front c.args.tables.now c.last-item.result c.in-len1-up.len_at_least c.last-item.is c.args.read.now c.requires.parted
    c.in_ok-columns.columns.items c.len.result c.in_ok-columns.ensures (c.len.ensures ∙ c.in_ok-columns.columns.ok.0) in
    on_whole c.args.tables.now c.last-item.result c.in-len1-up.len_at_least c.last-item.is c.args.read.now (rw c.in-Some.is at c.in_ok-conjuncts_over.ensures.over)
    (subst (λ (r : List ℕ). AreOnOver r (from_of (take (length c.args.tables.now - 1) c.args.tables.now))) first_is
    (rw c.in-Some-2.is at c.in_ok-plan_behind.ensures.over))

pub returns-clause-plan : goal.returns-clause-plan
returns-clause-plan t c = λ conditions stand.
    let before = from_of (take (length c.args.tables.now - 1) c.args.tables.now) in
    let last = c.last-item.result in
    let read = c.args.read.now in
    let columns = c.in_ok-columns.columns.items in
    let first_is : c.columns_left-first.result.now ≡ columns_before (from_width before) read =
    c.columns_left-first.ensures ∙ front c.args.tables.now last c.in-len1-up.len_at_least c.last-item.is read c.requires.parted
    columns c.len.result c.in_ok-columns.ensures (c.len.ensures ∙ c.in_ok-columns.columns.ok.0) in
    let ons = map term c.in-Some.on.items in
    let tests = map term c.args.tests.items in
    let early = map term c.in_ok-parts.parts.before.items in
    let here = map term c.in_ok-parts.parts.here.items in
    let above = map term c.in_ok-parts.parts.above.items in
    let on = rw c.in-Some.is at c.in_ok-conjuncts_over.ensures.stand in
    let left = rw c.in-Some-2.is at c.in_ok-plan_behind.ensures.plan in
    let left_is : plan_data c.in_ok-new.field-0.value ≡ plan_data c.in-Some-2.left = ap plan_data c.in_ok-new.ensures.ok in
    let kind = kind_of last.join in
    let padded : c.is_padded-padded.result ≡ pads_right kind = c.is_padded-padded.ensures in
    subst (λ from. IsEarlyPlan read from conditions (plan_data c.in_ok-plan-2.plan)) (sym (whole_is c.args.tables.now last c.in-len1-up.len_at_least c.last-item.is))
    (subst (IsEarlyPlan read (joined before kind (table last.table last.width) (term last.condition.now)) conditions)
    (sym
    (c.in_ok-plan-2.ensures
    ∙ ap (λ (b : Bool). tested above (p.joined (plan_data c.in_ok-new.field-0.value) (record { table = last.table; columns = columns; tests = here; padded = b; search = None }))) padded))
    (placed_behind before last.table last.width (term last.condition.now) read columns
    (split c.args.tables.now last c.in-len1-up.len_at_least c.last-item.is read c.requires.parted).0 c.in_ok-columns.ensures
    kind (none_right c.args.tables.now last c.in-len1-up.len_at_least c.last-item.is c.requires.early).1 conditions ons tests early here above (plan_data c.in_ok-new.field-0.value) (on [] (omega arith)) stand
    (subst (λ (b : Bool). ArePlaced b (length (columns_before (from_width before) read)) ons tests early here above) padded
    (subst (λ n. ArePlaced c.is_padded-padded.result n ons tests early here above) (ap length first_is) c.in_ok-parts.ensures))
    (λ some stands.
    subst (IsEarlyPlan (columns_before (from_width before) read) before some) (sym left_is)
    (subst (λ (r : List ℕ). IsEarlyPlan r before some (plan_data c.in-Some-2.left)) first_is
    (left some (subst (λ (r : List ℕ). AreTestsOf r early some) (sym first_is) stands))))))
