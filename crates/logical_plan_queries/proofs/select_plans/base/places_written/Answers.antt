use Rattle.std.proofs.Common.{◌∙◌, ◌++◌, [], ◌∷◌, sym, arith}
use Rattle.std.proofs.lemmas.List.FromFn.{map-range_with_len_more}
use Rattle.expr.specs.Leaves.{place_in}
use Rattle.logical_plan_queries.proofs.select_plans.base.places_written.Goals as goal

pub loop-column-preserved : goal.loop-column-preserved
loop-column-preserved c =
    c.in_ok-push.ensures.items ∙ (λ j. c.loop-column.invariant j ++ c.place_of.ensures j ∷ [])
    ∙ sym (map-range_with_len_more (place_in c.args.read.now) 0 c.loop-column.column c.loop-column.column (omega arith))
