use Rattle.std.proofs.Common.{◌≡◌, ◌∙◌, ◌<◌, length, arith}
use Rattle.semantics.specs.Windows.{peer_group}
use Rattle.windows_groups.specs.window_order.Placed.{keys_in, ways_in}
use Rattle.windows.proofs.lemmas.window_totals.TotalLemmas.{read_at}
use Rattle.windows.proofs.lemmas.window_values.RankLemmas.{before_group}
use Rattle.windows.proofs.window_values.ranks.rows_before.Goals as goal

pub returns : goal.returns
returns c =
    let s = c.args.sequence.now in
    let ds = ways_in s in
    let keys = keys_in s in
    let here = c.args.here in
    let g = c.index-group.result.now in
    let there : here < length s.groups.now.numbers.items = omega (arith, s.grouped.size, c.requires) in
    let number : g ≡ peer_group ds keys here = c.index-group.ensures ∙ read_at s.groups.now.numbers.items here g 0 there ∙ s.grouped.each here c.requires in
    let last = s.grouped.last here c.requires in
    let within : g < length s.groups.now.starts.items = omega (arith, last, number) in
    c.index.ensures ∙ read_at s.groups.now.starts.items g c.index.result.now 0 within
    ∙ before_group ds keys s.groups.now s.in_order s.grouped here c.requires g number
