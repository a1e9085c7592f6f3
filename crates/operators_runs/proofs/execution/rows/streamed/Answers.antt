use Rattle.std.proofs.Common.{◌∙◌, ℤ, ap, option_map, refl, rules, SFits, w64}
use Rattle.std.proofs.lemmas.Int.{to_z-of_z}
use Rattle.semantics.specs.Answer.{limited, skipped}
use Rattle.logical_plan.specs.answers.Answers.{answer_data, order_data}
use Rattle.logical_plan.specs.answers.Arms.{arms_data}
use Rattle.operators_runs.proofs.lemmas.execution.GivenLemmas.{opened_told}
use Rattle.operators_runs.proofs.execution.rows.streamed.Goals as goal

pub returns-in-None : goal.returns-in-None
returns-in-None c =
    let answer = c.args.answer.now in
    let fits : SFits w64 answer.offset = search rules in
    opened_told (answer_data answer) (arms_data answer.arms) c.new-slice.result refl (ap (option_map order_data) c.in-None.is)
    (λ rows. c.new-slice.ensures rows ∙ ap (λ (n : ℤ). limited answer.limit (skipped n rows)) (to_z-of_z w64 answer.offset fits))
    c.arms_opened.result c.arms_opened.ensures
