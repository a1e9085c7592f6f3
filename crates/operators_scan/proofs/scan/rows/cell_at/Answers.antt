use Rattle.operators_scan.proofs.scan.rows.cell_at.Goals as goal

pub returns-in_default-clause-entry : goal.returns-in_default-clause-entry
returns-in_default-clause-entry c = λ pages kind levels places asked budget at. c.in_default.ensures.entry pages kind levels places asked budget at

pub returns-clause-entry : goal.returns-clause-entry
returns-clause-entry c = λ pages kind levels places asked budget at. c.in-Ok.ensures.entry pages kind levels places asked budget at
