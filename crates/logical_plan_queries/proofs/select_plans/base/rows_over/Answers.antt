use Rattle.logical_plan_queries.proofs.select_plans.base.rows_over.Goals as goal

pub returns-in-None-grouped-clause-over : goal.returns-in-None-grouped-clause-over
returns-in-None-grouped-clause-over c = λ over.
    (rw (c.in-None-grouped.is, c.as_slice.ensures.value) at c.in_ok-grouped.ensures.over) (rw c.in-Some.is at over)
