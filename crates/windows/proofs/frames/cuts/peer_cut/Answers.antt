use Rattle.std.proofs.Common.{◌≡◌, ◌∙◌, ◌<◌, ◌+ℤ◌, if◌then◌else◌, length, pos, arith, to_z, of_z}
use Rattle.std.specs.Int.{w128}
use Rattle.std.proofs.lemmas.Int.{ints}
use Rattle.semantics.specs.Windows.{peer_group}
use Rattle.windows_groups.specs.window_order.Placed.{keys_in, ways_in}
use Rattle.windows.specs.frames.Cuts.{is_end}
use Rattle.windows.proofs.lemmas.frames.CutLemmas.{groups_cut, peers_cut, read_at}
use Rattle.windows.proofs.frames.cuts.peer_cut.Goals as goal

pub returns-clause-groups : goal.returns-clause-groups
returns-clause-groups c =
    let s = c.args.sequence.now in
    let ds = ways_in s in
    let keys = keys_in s in
    let here = c.args.here in
    let t = to_z w128 (of_z w128 c.counted.result) in
    let by : to_z w128 (of_z w128 c.args.by) ≡ c.args.by = omega (arith, ints) in
    let off : t ≡ c.counted.result = omega (arith, ints) in
    let inside : here < length s.groups.now.numbers.items = omega (arith, s.grouped.size, c.requires.here) in
    let number : c.index.result.now ≡ peer_group ds keys here =
    c.index.ensures ∙ read_at s.groups.now.numbers.items here c.index.result.now 0 inside ∙ s.grouped.each here c.requires.here in
    let is = off ∙ c.counted.ensures ∙ (λ i. if is_end c.args.side then (pos (number i) +ℤ by i) +ℤ pos 1 else (pos (number i) +ℤ by i)) in
    groups_cut ds keys here c.args.by t c.args.side c.group_cut.result is c.group_cut.ensures

pub returns-clause-none : goal.returns-clause-none
returns-clause-none c = λ none.
    let s = c.args.sequence.now in
    let ds = ways_in s in
    let keys = keys_in s in
    let here = c.args.here in
    let t = to_z w128 (of_z w128 c.counted.result) in
    let by : to_z w128 (of_z w128 c.args.by) ≡ c.args.by = omega (arith, ints) in
    let off : t ≡ c.counted.result = omega (arith, ints) in
    let inside : here < length s.groups.now.numbers.items = omega (arith, s.grouped.size, c.requires.here) in
    let number : c.index.result.now ≡ peer_group ds keys here =
    c.index.ensures ∙ read_at s.groups.now.numbers.items here c.index.result.now 0 inside ∙ s.grouped.each here c.requires.here in
    let is = off ∙ c.counted.ensures ∙ (λ i. if is_end c.args.side then (pos (number i) +ℤ by i) +ℤ pos 1 else (pos (number i) +ℤ by i)) in
    peers_cut ds keys s.in_order here c.requires.here c.args.by t none c.args.side c.group_cut.result is c.group_cut.ensures
