use Rattle.btree.specs.image.Pages.{pages_seen}
use Rattle.std.proofs.Common.{◌≡◌, ◌<◌, ℕ, IsTrue}
use Rattle.pager.specs.Calls.{SameImage}
use Rattle.records_tables.specs.stored_rows.RowFaults.{IsRowIn}
use Rattle.records_tables.proofs.lemmas.stored_rows.LinkLemmas.{MarksBefore}
use Rattle.records_tables.proofs.stored_rows.rows.check_rows.Given as goal

abbrev pub invariant-loop-i : goal.invariant-loop-i
invariant-loop-i g l = record {
  stays : SameImage l.fn.pager.state l.pager.state;
  failures : l.pager.state.source.failures ≡ l.fn.pager.state.source.failures;
  rows : IsTrue l.fn.pager.state.source.steady → (j : ℕ) → j < l.i
      → IsRowIn (pages_seen l.fn.pager.state) l.table l.view.at l.most l.view.page j;
  marks : IsTrue l.fn.pager.state.source.steady
      → MarksBefore (pages_seen l.fn.pager.state) l.table.root l.n l.view.at l.most l.view.page l.i l.fn.used l.used;
}
