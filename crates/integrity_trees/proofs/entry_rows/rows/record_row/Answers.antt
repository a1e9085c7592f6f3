use Rattle.std.proofs.Common.{rules}
use Rattle.records.specs.Record.{IsRecord}
use Rattle.records.proofs.RecordLemmas.{one_record}
use Rattle.integrity_trees.proofs.entry_rows.rows.record_row.Goals as goal

pub returns-in-Some-clause-row : goal.returns-in-Some-clause-row
returns-in-Some-clause-row c = λ values is.
    let made : IsRecord c.args.bytes.now c.in-Some.row = search rules in
    one_record c.args.bytes.now c.in-Some.row values made is

pub returns-in_ok-row_of-in-Ok-clause-row : goal.returns-in_ok-row_of-in-Ok-clause-row
returns-in_ok-row_of-in-Ok-clause-row c = λ values is. let e = c.in-Ok.ensures.only values is in let f = c.in_ok-row_of-in-Ok.ensures in cc

pub returns-in-Err-clause-row : goal.returns-in-Err-clause-row
returns-in-Err-clause-row c = λ values is. c.record_fault.ensures.memory (c.in-Err.ensures.only values is)
