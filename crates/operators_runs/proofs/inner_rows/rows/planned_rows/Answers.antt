use Rattle.btree.specs.image.Pages.{pages_seen}
use Rattle.logical_plan_queries.specs.Answers.{planned_data, work_of}
use Rattle.operators_runs.proofs.inner_rows.rows.planned_rows.Goals as goal

pub rows_of_run-requires-clause-planned : goal.rows_of_run-requires-clause-planned
rows_of_run-requires-clause-planned g c = c.in_ok-running.ensures.over c.args.sources.now c.requires.planned

pub returns-clause-rows : goal.returns-clause-rows
returns-clause-rows g c = λ steady on has.
    c.rows_of_run.ensures.rows steady (planned_data c.args.planned) (c.in_ok-running.ensures.given (pages_seen c.args.pager.now.state) c.args.sources.now) on has

pub returns-clause-pages : goal.returns-clause-pages
returns-clause-pages g c = λ steady on has.
    c.rows_of_run.ensures.pages steady on (work_of on.w on.db on.sizes (planned_data c.args.planned)) has
    (c.in_ok-running.ensures.ahead (pages_seen c.args.pager.now.state) c.args.sources.now on)
