use Rattle.logical_plan.specs.answers.Arms.{arms_data}
use Rattle.operators_runs.proofs.lemmas.execution.GivenLemmas.{chained_opened}
use Rattle.operators_runs.proofs.execution.rows.chained_opened.Goals as goal

pub returns : goal.returns
returns c =
    chained_opened (arms_data c.args.arms.now) c.args.slice c.in_ok-chained.chained c.in_ok-chained.ensures.arms c.in_ok-chained.ensures.rows
