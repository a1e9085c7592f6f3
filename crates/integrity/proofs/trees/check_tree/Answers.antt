use Rattle.integrity.proofs.TableLemmas.{primary_checked, primary_failed, primary_fault, primary_marks, table_checked, table_failed, table_marks, table_only}
use Rattle.integrity.proofs.trees.check_tree.Goals as goal

pub returns-in-Rowid-clause-checked : goal.returns-in-Rowid-clause-checked
returns-in-Rowid-clause-checked g c = λ steady.
    table_checked c.args.pager.now.state c.args.table.now c.args.used.now _ (rw c.in-Rowid.is at c.key.ensures.same) c.check_table.result c.check_table.ensures.outcome steady

pub returns-in-Rowid-clause-marks : goal.returns-in-Rowid-clause-marks
returns-in-Rowid-clause-marks g c = λ steady.
    table_marks c.args.pager.now.state c.args.table.now c.args.used.now _ (rw c.in-Rowid.is at c.key.ensures.same) c.check_table.result c.check_table.new.used (c.check_table.ensures.marks steady)

pub returns-in-Rowid-clause-fault : goal.returns-in-Rowid-clause-fault
returns-in-Rowid-clause-fault g c = λ steady.
    table_failed c.args.pager.now.state c.args.table.now c.args.used.now _ (rw c.in-Rowid.is at c.key.ensures.same) c.check_table.result c.check_table.ensures.outcome steady

pub returns-in-Rowid-clause-only : goal.returns-in-Rowid-clause-only
returns-in-Rowid-clause-only g c =
    table_only c.args.pager.now.state c.args.table.now c.args.used.now _ (rw c.in-Rowid.is at c.key.ensures.same) c.check_table.result c.check_table.ensures.outcome

pub returns-in-Primary-clause-checked : goal.returns-in-Primary-clause-checked
returns-in-Primary-clause-checked g c = λ steady.
    primary_checked c.args.pager.now.state c.args.table.now c.args.used.now _ (rw c.in-Primary.is at c.key.ensures.same) c.check_primary.result c.check_primary.ensures.outcome steady

pub returns-in-Primary-clause-marks : goal.returns-in-Primary-clause-marks
returns-in-Primary-clause-marks g c = λ steady.
    primary_marks c.args.pager.now.state c.args.table.now c.args.used.now _ (rw c.in-Primary.is at c.key.ensures.same) c.check_primary.result c.check_primary.new.used (c.check_primary.ensures.marks steady)

pub returns-in-Primary-clause-fault : goal.returns-in-Primary-clause-fault
returns-in-Primary-clause-fault g c = λ steady.
    primary_failed c.args.pager.now.state c.args.table.now c.args.used.now _ (rw c.in-Primary.is at c.key.ensures.same) c.check_primary.result c.check_primary.ensures.outcome steady

pub returns-in-Primary-clause-only : goal.returns-in-Primary-clause-only
returns-in-Primary-clause-only g c =
    primary_fault c.args.pager.now.state c.args.table.now c.args.used.now _ (rw c.in-Primary.is at c.key.ensures.same) c.check_primary.result c.check_primary.ensures.outcome
