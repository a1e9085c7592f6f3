use Rattle.operators_scan.proofs.scan.rows.next_row.Goals as goal

pub returns-in-Err-clause-lists : goal.returns-in-Err-clause-lists
returns-in-Err-clause-lists g c = λ steady kind levels places budget at.
    let sound = c.in-Err.ensures.outcome.sound steady kind levels places budget at in
    rw (c.cursor_fault.ensures.read sound) sound
