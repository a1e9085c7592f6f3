use Rattle.std.proofs.Common.{◌≡◌, ◌∙◌, ◌++◌, [], ◌∷◌, ap, sym, arith}
use Rattle.std.specs.List.{range_with_len}
use Rattle.logical_plan_terms.proofs.lemmas.group_plans.OverLemmas.{range_more}
use Rattle.logical_plan_terms.proofs.group_plans.over.columns_of_groups.Goals as goal

pub loop-at-preserved : goal.loop-at-preserved
loop-at-preserved c = c.in_ok-push.ensures.items ∙ ap (λ xs. xs ++ c.loop-at.at ∷ []) c.loop-at.invariant ∙ sym (range_more c.loop-at.at)

pub returns : goal.returns
returns c = let end = c.loop-at.auto.at-end in let e : c.loop-at.at ≡ c.args.width = omega (arith, end, c.loop-at-test.false) in c.loop-at.invariant ∙ ap (range_with_len 0) e
