use Rattle.std.proofs.Common.{ap, subst, sym}
use Rattle.integrity_trees.specs.declared.entry_prefixes.counting.Prefixes.{Prefixes}
use Rattle.integrity_trees.specs.index_walk.Last.{CountsNext, LastData}
use Rattle.integrity_trees.proofs.index_walk.last.LastEntry.follow.Goals as goal

pub returns-clause-behind : goal.returns-clause-behind
returns-clause-behind c = record {
  page_is = ap (λ (l : LastData). l.page) c.in_ok-put.ensures;
  bytes_is = ap (λ (l : LastData). l.bytes) c.in_ok-put.ensures;
  after = c.count.ensures.after c.if-not-count.false;
  counts = subst (λ (p : Prefixes). CountsNext c.args.tree.now.widths c.args.self.now c.args.bytes.now p) (sym (ap (λ (l : LastData). l.prefixes) c.in_ok-put.ensures))
      (c.count.ensures.counts c.if-not-count.false);
}
