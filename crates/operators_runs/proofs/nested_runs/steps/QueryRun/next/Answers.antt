use Rattle.operators_runs.proofs.nested_runs.steps.QueryRun.next.Goals as goal

pub returns-in-Ok-Some-clause-rows : goal.returns-in-Ok-Some-clause-rows
returns-in-Ok-Some-clause-rows g c = λ steady query given typed runs gave.
    (rw (c.in-Ok-Some.is, c.in-Ok-Some.field-0-is) at c.step.ensures.rows) steady query given typed runs gave

pub returns-in-Ok-Some-clause-pages : goal.returns-in-Ok-Some-clause-pages
returns-in-Ok-Some-clause-pages g c = λ steady query given typed runs gave on said ahead is.
    (rw (c.in-Ok-Some.is, c.in-Ok-Some.field-0-is) at c.step.ensures.pages) steady query given typed runs gave on said ahead is

pub returns-in-Ok-None-clause-rows : goal.returns-in-Ok-None-clause-rows
returns-in-Ok-None-clause-rows g c = λ steady query given typed runs gave.
    (rw (c.in-Ok-None.is, c.in-Ok-None.field-0-is) at c.step.ensures.rows) steady query given typed runs gave

pub returns-in-Ok-None-clause-pages : goal.returns-in-Ok-None-clause-pages
returns-in-Ok-None-clause-pages g c = λ steady query given typed runs gave on said ahead is.
    (rw (c.in-Ok-None.is, c.in-Ok-None.field-0-is) at c.step.ensures.pages) steady query given typed runs gave on said ahead is

pub returns-in-Err-clause-rows : goal.returns-in-Err-clause-rows
returns-in-Err-clause-rows g c = λ steady query given typed runs gave. c.in-Err.ensures.rows steady query given typed runs gave

pub returns-in-Err-clause-pages : goal.returns-in-Err-clause-pages
returns-in-Err-clause-pages g c = λ steady query given typed runs gave on said ahead is.
    c.in-Err.ensures.pages steady query given typed runs gave on said ahead is
