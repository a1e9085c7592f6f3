use Rattle.std.proofs.Common.{◌==◌, length}
use Rattle.semantics.specs.Windows.{after_edge, are_peers, before_edge, distance, excludes, unless}
use Rattle.resolver_terms.specs.SelectView.{frame_of}
use Rattle.windows_groups.specs.window_order.Placed.{keys_in, ways_in}
use Rattle.windows.proofs.lemmas.frames.UnionLemmas.{union}
use Rattle.windows.proofs.frames.ranges.ranges_of.Goals as goal

pub returns : goal.returns
returns c =
    let ds = ways_in c.args.sequence.now in
    let keys = keys_in c.args.sequence.now in
    let frame = frame_of c.args.frame in
    let here = c.args.here in
    rw (c.min-4.ensures, c.min-3.ensures, c.min-2.ensures, c.min.ensures, c.max-4.ensures, c.max-3.ensures, c.max-2.ensures, c.max.ensures, c.max-end.ensures)
    (union (λ k. unless (λ by. before_edge ds frame.unit keys here by k) (distance frame.start)) (λ k. unless (λ by. after_edge ds frame.unit keys here by k) (distance frame.end))
    (λ k. excludes frame.exclude (here == k) (are_peers ds keys here k))
    c.start_of-start.result c.end_of.result (length keys) c.gap_of-gap.result c.start_of-start.ensures c.end_of.ensures c.gap_of-gap.ensures)
