use Rattle.std.proofs.Common.{◌++◌, refl, ◌≡◌, ◌∙◌, ◌-◌, ◌<◌, [], List, ℕ, ap, length, map, rules, subst, sym, take, arith}
use Rattle.std.proofs.lemmas.List.{length-take}
use Rattle.expr.specs.View.{term}
use Rattle.semantics.specs.Query.{from_width}
use Rattle.semantics_names.specs.Sources.{kind_of}
use Rattle.logical_plan.specs.JoinPlan.{IsWritten, columns_before, joined_by}
use Rattle.logical_plan.specs.Plan.{once}
use Rattle.logical_plan.specs.PlanView.{plan_data}
use Rattle.logical_plan_terms.specs.table_plans.Input.{from_of}
use Rattle.logical_plan_terms.specs.table_plans.Parted.{AreParted}
use Rattle.logical_plan_terms.specs.table_plans.Planned.{AreOnOver}
use Rattle.logical_plan_terms.proofs.lemmas.table_plans.BehindLemmas.{few, front, none_are, on_parts, on_whole, split, whole_is}
use Rattle.logical_plan_terms.proofs.table_plans.written.+written_behind.Goals as goal

pub returns-in_default-clause-plan : goal.returns-in_default-clause-plan
returns-in_default-clause-plan t c =
    subst (λ from. IsWritten c.args.read.now from once) (sym (none_are c.args.tables.now c.in_default.len_below)) refl

pub columns_left-first-requires : goal.columns_left-first-requires
columns_left-first-requires t c =
    few c.args.tables.now c.last-item.result c.in-len1-up.len_at_least c.last-item.is c.args.read.now c.requires c.in_ok-columns.columns.items c.len.result
    c.in_ok-columns.ensures (c.len.ensures ∙ c.in_ok-columns.columns.ok.0)

pub returns-in-None-clause-over : goal.returns-in-None-clause-over
returns-in-None-clause-over t c = λ over.
    (rw c.in-None.is at c.in_ok-conjuncts_over.ensures.over)
    (on_parts c.args.tables.now c.last-item.result c.in-len1-up.len_at_least c.last-item.is c.args.read.now over).0

pub written_behind-requires : goal.written_behind-requires
written_behind-requires t c =
    let first_is = c.columns_left-first.ensures ∙ front c.args.tables.now c.last-item.result c.in-len1-up.len_at_least c.last-item.is c.args.read.now c.requires
    c.in_ok-columns.columns.items c.len.result c.in_ok-columns.ensures (c.len.ensures ∙ c.in_ok-columns.columns.ok.0) in
    let short : length c.args.tables.now - 1 < length c.args.tables.now = (let some = c.in-len1-up.len_at_least in omega (arith, some)) in (
      search (rules, length-take),
      subst (λ (r : List ℕ). AreParted (from_of (take (length c.args.tables.now - 1) c.args.tables.now)) r) (sym first_is)
          (split c.args.tables.now c.last-item.result c.in-len1-up.len_at_least c.last-item.is c.args.read.now c.requires).1,
    )

pub returns-in-None-2-clause-over : goal.returns-in-None-2-clause-over
returns-in-None-2-clause-over t c = λ over.
    let first_is = c.columns_left-first.ensures ∙ front c.args.tables.now c.last-item.result c.in-len1-up.len_at_least c.last-item.is c.args.read.now c.requires
    c.in_ok-columns.columns.items c.len.result c.in_ok-columns.ensures (c.len.ensures ∙ c.in_ok-columns.columns.ok.0) in
    (rw c.in-None-2.is at c.in_ok-written_behind.ensures.over)
    (subst (λ (r : List ℕ). AreOnOver r (from_of (take (length c.args.tables.now - 1) c.args.tables.now))) (sym first_is)
    (on_parts c.args.tables.now c.last-item.result c.in-len1-up.len_at_least c.last-item.is c.args.read.now over).1)

pub returns-clause-over : goal.returns-clause-over
returns-clause-over t c =
    let first_is = c.columns_left-first.ensures ∙ front c.args.tables.now c.last-item.result c.in-len1-up.len_at_least c.last-item.is c.args.read.now c.requires
    c.in_ok-columns.columns.items c.len.result c.in_ok-columns.ensures (c.len.ensures ∙ c.in_ok-columns.columns.ok.0) in
    on_whole c.args.tables.now c.last-item.result c.in-len1-up.len_at_least c.last-item.is c.args.read.now (rw c.in-Some.is at c.in_ok-conjuncts_over.ensures.over)
    (subst (λ (r : List ℕ). AreOnOver r (from_of (take (length c.args.tables.now - 1) c.args.tables.now))) first_is
    (rw c.in-Some-2.is at c.in_ok-written_behind.ensures.over))

pub returns-clause-plan : goal.returns-clause-plan
returns-clause-plan t c =
    let before = from_of (take (length c.args.tables.now - 1) c.args.tables.now) in
    let last = c.last-item.result in
    let read = c.args.read.now in
    let columns = c.in_ok-columns.columns.items in
    let first_is : c.columns_left-first.result.now ≡ columns_before (from_width before) read =
    c.columns_left-first.ensures ∙ front c.args.tables.now last c.in-len1-up.len_at_least c.last-item.is read c.requires
    columns c.len.result c.in_ok-columns.ensures (c.len.ensures ∙ c.in_ok-columns.columns.ok.0) in
    let on = rw c.in-Some.is at c.in_ok-conjuncts_over.ensures.stand in
    let left = rw c.in-Some-2.is at c.in_ok-written_behind.ensures.plan in
    subst (λ from. IsWritten read from (plan_data c.in_ok-plan.plan)) (sym (whole_is c.args.tables.now last c.in-len1-up.len_at_least c.last-item.is))
    (record {
      at = last.table;
      width = last.width;
      source_is = refl;
      left = plan_data c.in-Some-2.left;
      columns = columns;
      tests = map term c.in-Some.on.items;
      plan_is =
          c.in_ok-plan.ensures
          ∙ ap (λ n. joined_by (kind_of last.join) (plan_data c.in-Some-2.left) n last.table columns (map term c.in-Some.on.items)) (ap length first_is);
      read_is = (split c.args.tables.now last c.in-len1-up.len_at_least c.last-item.is read c.requires).0 ∙ ap (λ behind. columns_before (from_width before) read ++ behind) (sym c.in_ok-columns.ensures);
      tests_are = on [] (omega arith);
      before = subst (λ (r : List ℕ). IsWritten r before (plan_data c.in-Some-2.left)) first_is left;
    })
