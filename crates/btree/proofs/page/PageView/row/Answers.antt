use Rattle.std.proofs.Common.{◌≡◌, min, length, rules}
use Rattle.btree.specs.declared.image.kind.Level.TheVariants.{Leaf}
use Rattle.btree.specs.image.Layout.{cell_place}
use Rattle.btree.proofs.CellLemmas.{IfNone-weaker}
use Rattle.btree.proofs.PageLemmas.{no_row}
use Rattle.btree.proofs.page.PageView.row.Goals as goal

pub returns-clause-none : goal.returns-clause-none
returns-clause-none c =
    let from : c.min-from.result ≡ min (cell_place c.self.inside.at Leaf c.self.inside.bytes.now c.args.i) (length c.self.inside.bytes.now) = search rules in
    rw (← c.self.view_is) (IfNone-weaker c.table_cell.result (no_row _ _ _ _ _ from) c.table_cell.ensures.none)
