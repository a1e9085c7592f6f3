use Rattle.std.proofs.Common.{◌≡◌, IsTrue}
use Rattle.pager.specs.Calls.{AsksChainsOnly}
use Rattle.btree.specs.image.Pages.{pages_seen}
use Rattle.btree.proofs.ChainLemmas.{IsRead}
use Rattle.btree.proofs.chains.append_chain.Given as goal

abbrev pub invariant-loop-left : goal.invariant-loop-left
invariant-loop-left g l = record {
  chained : AsksChainsOnly l.fn.pager.state l.pager.state;
  failures : l.pager.state.source.failures ≡ l.fn.pager.state.source.failures;
  read : IsTrue l.fn.pager.state.source.steady
      → IsRead (pages_seen l.fn.pager.state) l.first l.size l.fn.bytes.items l.bytes.items l.next l.left;
}

abbrev pub decreases-loop-left : goal.decreases-loop-left
decreases-loop-left g l = l.left
