use Rattle.std.proofs.Common.{◌≡◌, ◌∙◌, is_le, sym, ap, arith, to_z, of_z}
use Rattle.std.specs.Int.{w128}
use Rattle.std.proofs.lemmas.Int.{ints}
use Rattle.semantics.specs.Query.{FrameUnit}
use Rattle.semantics.specs.Sequence.{keys_cmp}
use Rattle.semantics.specs.Windows.{edge_key, row_at}
use Rattle.windows_groups.specs.window_order.Placed.{keys_in, ways_in}
use Rattle.windows.specs.frames.Cuts.{ahead}
use Rattle.windows.proofs.lemmas.frames.CutLemmas.{up_to_edge}
use Rattle.windows.proofs.frames.cuts.is_ahead.Goals as goal

pub returns-in-End : goal.returns-in-End
returns-in-End c =
    let ds = ways_in c.args.sequence.now in
    let keys = keys_in c.args.sequence.now in
    let by : to_z w128 (of_z w128 c.args.by) ≡ c.args.by = omega (arith, ints) in
    let key = row_at keys c.args.at in
    let here = row_at keys c.args.here in
    c.is_le.ensures ∙ ap is_le (c.compare_at_edge-order.ensures ∙ ap (λ b. keys_cmp ds key (edge_key ds b here)) by)
    ∙ up_to_edge ds key (edge_key ds c.args.by here)
    ∙ sym (ap (λ s. ahead s ds FrameUnit.range keys c.args.here c.args.by c.args.at) c.in-End.is)
