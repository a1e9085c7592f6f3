use Rattle.std.proofs.Common.{◌≡◌, ℕ, IsTrue}
use Rattle.pager.specs.Calls.{AsksChainsOnly}
use Rattle.btree.specs.image.Pages.{pages_seen}
use Rattle.btree.proofs.ChainLemmas.{IsRead}
use Rattle.btree.proofs.lemmas.page_use.ChainMarks.{IsLinkWalk}
use Rattle.btree.proofs.page_use.chains.append_chain.Given as goal

abbrev pub invariant-loop-left : goal.invariant-loop-left
invariant-loop-left g l = record {
  chained : AsksChainsOnly l.fn.pager.state l.pager.state;
  failures : l.pager.state.source.failures ≡ l.fn.pager.state.source.failures;
  read : IsTrue l.fn.pager.state.source.steady
      → IsRead (pages_seen l.fn.pager.state) l.first l.size l.fn.bytes.items l.bytes.items l.next l.left;
  walk : IsTrue l.fn.pager.state.source.steady → (k : ℕ) × IsLinkWalk (pages_seen l.fn.pager.state) l.first l.size l.fn.used l.used k l.next l.left;
}

abbrev pub decreases-loop-left : goal.decreases-loop-left
decreases-loop-left g l = l.left
