use Rattle.std.proofs.Common.{◌<◌, ◌≤◌, ◌-◌, true, false}
use Rattle.btree.specs.image.Layout.{cell_count}
use Rattle.btree.specs.image.Search.{HasKeyThat, row_before}
use Rattle.btree.specs.Bytes.{HasKeyOf}
use Rattle.btree_cursor.proofs.cursor.search.boundary_of.Given as goal

abbrev pub invariant-loop-low : goal.invariant-loop-low
invariant-loop-low l = record {
  order : l.low ≤ l.high;
  most : l.high ≤ cell_count l.view.at l.view.page;
  last : 0 < l.low → HasKeyThat (HasKeyOf l.view.at l.most l.view.level l.view.page) (row_before l.behind l.key) true (l.low - 1);
  next : l.high < cell_count l.view.at l.view.page → HasKeyThat (HasKeyOf l.view.at l.most l.view.level l.view.page) (row_before l.behind l.key) false l.high;
}

abbrev pub decreases-loop-low : goal.decreases-loop-low
decreases-loop-low l = l.high - l.low
