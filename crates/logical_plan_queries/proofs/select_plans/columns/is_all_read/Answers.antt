use Rattle.std.proofs.Common.{◌≡◌, ◌∙◌, ◌==◌, ap, false, length, not, rules, true}
use Rattle.logical_plan_queries.proofs.lemmas.select_plans.PlaceLemmas.{none_read, some_read}
use Rattle.logical_plan_queries.proofs.select_plans.columns.is_all_read.Goals as goal

pub returns-then-not-is_empty : goal.returns-then-not-is_empty
returns-then-not-is_empty c =
    let some : (length c.args.select.now.windows.items == 0) ≡ false = search rules in
    some_read c.args.select.now.windows.items c.args.select.now.grouping c.is_none.result some c.is_none.ensures

pub returns-else-not-is_empty : goal.returns-else-not-is_empty
returns-else-not-is_empty c =
    let none : (length c.args.select.now.windows.items == 0) ≡ true = search rules in
    ap not c.if-not-is_empty.false ∙ none_read c.args.select.now.windows.items c.args.select.now.grouping none
