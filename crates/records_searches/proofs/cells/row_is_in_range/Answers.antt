use Rattle.std.proofs.Common.{sym, subst}
use Rattle.btree.specs.Views.{cell_data}
use Rattle.btree.specs.image.Pages.{pages_seen}
use Rattle.btree.specs.image.Tree.{IsEntryAt}
use Rattle.btree_cursor.specs.key_ranges.View.{range}
use Rattle.schema_tables.specs.TableData.{RowKeyData}
use Rattle.records_tables.specs.Tables.{kind_of}
use Rattle.records_searches.specs.Entries.{IsTableEntry}
use Rattle.records_searches.proofs.ComingLemmas.{record_at, rowid_met}
use Rattle.records_searches.proofs.cells.row_is_in_range.Goals as goal

pub returns-in-Rowid-clause-met : goal.returns-in-Rowid-clause-met
returns-in-Rowid-clause-met g c = λ steady place entry is at.
    let pages = pages_seen c.args.pager.now.state in
    let key = sym (rw c.in-Rowid.is at c.key.ensures.same) in
    let here = subst (λ (k : RowKeyData). IsTableEntry k pages c.args.table.now place entry) key is in
    let there = subst (λ (k : RowKeyData). IsEntryAt pages (kind_of k) place (cell_data c.args.cell.now)) key at in
    rw (c.rowid_in_range.ensures.met there.is.rowid there.is.has_rowid)
    (rowid_met pages c.args.table.now (range c.args.bounds.now) place entry (cell_data c.args.cell.now) there.is.rowid here there there.is.has_rowid)

pub returns-in-Primary-clause-met : goal.returns-in-Primary-clause-met
returns-in-Primary-clause-met g c = λ steady place entry is at.
    let pages = pages_seen c.args.pager.now.state in
    let key = sym (rw c.in-Primary.is at c.key.ensures.same) in
    let here = subst (λ (k : RowKeyData). IsTableEntry k pages c.args.table.now place entry) key is in
    let there = subst (λ (k : RowKeyData). IsEntryAt pages (kind_of k) place (cell_data c.args.cell.now)) key at in
    c.record_in_range.ensures.met steady entry.values (record_at pages place (cell_data c.args.cell.now) entry.values here.has there)
