use Rattle.operators_runs.proofs.execution.rows.arms_opened.Goals as goal

pub returns-in_ok-opened-in-One : goal.returns-in_ok-opened-in-One
returns-in_ok-opened-in-One c = rw c.in-One.is c.in_ok-opened-in-One.ensures
