use Rattle.std.proofs.Common.{◌≡◌, ◌<◌, false, true, below_more, rules}
use Rattle.btree.specs.image.Cell.{CellData}
use Rattle.btree.specs.image.Layout.{cell_count}
use Rattle.btree.specs.Bytes.{IsEntryCell}
use Rattle.btree.specs.Views.{cell_data}
use Rattle.integrity_trees.proofs.index_walk.page.has_entries.Goals as goal

pub returns-in_default : goal.returns-in_default
returns-in_default c = (
  λ no. absurd (let e : false ≡ true = no in cc),
  λ entries.
      let within : c.loop-i.i < cell_count c.args.view.now.at c.args.view.now.page = search rules in
      let there = entries c.loop-i.i within in
      absurd (c.in_default.ensures.none there.0 there.1),
)

pub loop-i-preserved : goal.loop-i-preserved
loop-i-preserved c =
    below_more (λ k. (cell : CellData) × IsEntryCell c.args.view.now.at c.args.most c.args.view.now.level c.args.view.now.page k cell) c.loop-i.i c.loop-i.invariant
    (cell_data c.in-Some.field-0, c.in-Some.ensures.found)
