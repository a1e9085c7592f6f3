use Rattle.std.proofs.Common.{rules}
use Rattle.btree.specs.Views.{cell_data}
use Rattle.records_tables.proofs.lemmas.stored_rows.CellLemmas.{IfSome-always, local_row_is}
use Rattle.records_tables.proofs.stored_rows.leaf.row_key.Goals as goal

pub returns-clause-row : goal.returns-clause-row
returns-clause-row c = IfSome-always c.args.cell.now.rowid (λ pages.
    let told = c.is_row.ensures (search rules) in
    (told.0, local_row_is pages c.args.table.now (cell_data c.args.cell.now) told.0 (search rules) told.1, told.2))
