use Rattle.logical_plan_terms.proofs.group_plans.over.grouped_over.Goals as goal

pub returns-in-None-clause-over : goal.returns-in-None-clause-over
returns-in-None-clause-over c = λ over. (rw (c.in-None.is, c.as_slice.ensures.value) at c.in_ok-by_over.ensures.over) over.by

pub returns-in-None-over-clause-over : goal.returns-in-None-over-clause-over
returns-in-None-over-clause-over c = λ over. (rw (c.in-None-over.is, c.as_slice-2.ensures.value) at c.in_ok-over.ensures.over) over.aggregates
