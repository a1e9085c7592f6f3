use Rattle.std.proofs.Common.{◌≡◌, ◌∙◌, ◌+◌, ◌++◌, [], ◌∷◌, ap, length, rules, sym, arith}
use Rattle.std.specs.List.{range_with_len}
use Rattle.std.proofs.lemmas.List.FromFn.{length-range_with_len}
use Rattle.logical_plan_terms.proofs.lemmas.group_plans.OverLemmas.{range_more}
use Rattle.logical_plan_queries.proofs.select_plans.columns.push_places.Goals as goal

pub loop-preserved : goal.loop-preserved
loop-preserved c =
    let n = length c.args.out.now.items + c.loop.counter in
    let size : c.len-at.result ≡ length c.loop.out.items = search rules in
    let long = size ∙ ap length c.loop.invariant ∙ length-range_with_len 0 n in
    c.in_ok-push.ensures.items ∙ (λ j. c.loop.invariant j ++ long j ∷ []) ∙ sym (range_more n) ∙ ap (range_with_len 0) (let m = length c.args.out.now.items in omega arith)
