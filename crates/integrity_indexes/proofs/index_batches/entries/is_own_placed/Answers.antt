use Rattle.std.proofs.Common.{◌<◌, arith}
use Rattle.std.proofs.lemmas.Result.{MatchResult-weaker}
use Rattle.btree.specs.image.Pages.{pages_seen}
use Rattle.btree.specs.image.Tree.{count_at}
use Rattle.btree_cursor.proofs.lemmas.index_entries.EntryLemmas.{count_is}
use Rattle.integrity_indexes.proofs.lemmas.index_batches.TreeLemmas.{own_tells}
use Rattle.integrity_indexes.proofs.index_batches.entries.is_own_placed.Goals as goal

pub returns-clause-placed : goal.returns-clause-placed
returns-clause-placed g c = λ steady values of are.
    let seen = pages_seen c.args.pager.now.state in
    let within : c.args.i < count_at seen c.args.n = omega (arith, c.if-i-from.false, c.from.ensures, c.count.ensures, count_is seen c.args.n c.args.view.now of) in
    let s = c.args.sought.now in
    MatchResult-weaker c.is_entry_placed.result (c.is_entry_placed.ensures.placed steady values of are)
    (λ told here. own_tells s.batch.now s.above s.most s.columns values seen c.args.n c.args.i within told here) (λ e read. read)
