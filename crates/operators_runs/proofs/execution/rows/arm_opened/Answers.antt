use Rattle.logical_plan.specs.answers.Arms.{arm_data}
use Rattle.operators_runs.proofs.lemmas.execution.GivenLemmas.{distinct_opened, rows_opened}
use Rattle.operators_runs.proofs.execution.rows.arm_opened.Goals as goal

pub returns-then-arm : goal.returns-then-arm
returns-then-arm c = λ a arms none slices.
    distinct_opened (arm_data c.args.arm.now) c.args.slice a arms none slices c.in_ok-distinct.distinct c.if-arm.true c.in_ok-distinct.ensures.plan
    c.in_ok-distinct.ensures.columns c.in_ok-distinct.ensures.rows

pub returns : goal.returns
returns c = λ a arms none slices.
    rows_opened (arm_data c.args.arm.now) c.args.slice a arms none slices c.in_ok-results.results c.if-arm.false c.in_ok-results.ensures.plan
    c.in_ok-results.ensures.columns c.in_ok-results.ensures.rows
