use Rattle.logical_plan.specs.answers.Arms.{arm_data}
use Rattle.operators_runs.proofs.lemmas.execution.GivenLemmas.{columns_opened}
use Rattle.operators_runs.proofs.execution.rows.columns_opened.Goals as goal

pub returns : goal.returns
returns c =
    columns_opened c.args.table c.args.places.now (arm_data c.in_ok-arm.arm) c.in_ok-arm.ensures c.in_ok-results.results c.in_ok-results.ensures.plan
    c.in_ok-results.ensures.columns c.in_ok-results.ensures.rows
