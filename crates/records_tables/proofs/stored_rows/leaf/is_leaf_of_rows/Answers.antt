use Rattle.std.proofs.Common.{rules}
use Rattle.records_tables.proofs.stored_rows.leaf.is_leaf_of_rows.Goals as goal

pub returns-clause-head : goal.returns-clause-head
returns-clause-head c = λ done. record {
  cells = c.are_rows.ensures.cells done;
  fit = c.are_rows.ensures.fit done;
  filled = λ leaf. c.is_filled.ensures (search rules);
}
