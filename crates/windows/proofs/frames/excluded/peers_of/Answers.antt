use Rattle.std.proofs.Common.{◌≡◌, ◌∙◌, ◌<◌, ◌+ℤ◌, length, pos, arith, to_z, of_z}
use Rattle.std.specs.Int.{w128}
use Rattle.std.proofs.lemmas.Int.{ints}
use Rattle.semantics.specs.Windows.{peer_group}
use Rattle.windows_groups.specs.window_order.Placed.{keys_in, ways_in}
use Rattle.windows.proofs.lemmas.frames.CutLemmas.{read_at}
use Rattle.windows.proofs.lemmas.frames.UnionLemmas.{first_is, past_is, peers_between}
use Rattle.windows.proofs.frames.excluded.peers_of.Goals as goal

pub returns : goal.returns
returns c =
    let s = c.args.sequence.now in
    let ds = ways_in s in
    let keys = keys_in s in
    let here = c.args.here in
    let t = to_z w128 c.index.result.now in
    let u = to_z w128 (of_z w128 (to_z w128 c.index.result.now +ℤ pos 1)) in
    let inside : here < length s.groups.now.numbers.items = omega (arith, s.grouped.size, c.requires) in
    let number : c.index.result.now ≡ peer_group ds keys here =
    c.index.ensures ∙ read_at s.groups.now.numbers.items here c.index.result.now 0 inside ∙ s.grouped.each here c.requires in
    let fits = c.index.type_inv in
    let is : t ≡ pos (peer_group ds keys here) = omega (arith, ints, number) in
    let next : u ≡ pos (peer_group ds keys here) +ℤ pos 1 = omega (arith, ints, number) in
    record {
      peers = peers_between ds keys s.in_order here c.requires t u c.group_cut.result c.group_cut-2.result is next c.group_cut.ensures c.group_cut-2.ensures;
      first = first_is ds keys s.in_order here c.requires t u c.group_cut.result c.group_cut-2.result is next c.group_cut.ensures c.group_cut-2.ensures;
      last = past_is ds keys s.in_order here c.requires t u c.group_cut.result c.group_cut-2.result is next c.group_cut.ensures c.group_cut-2.ensures;
    }
