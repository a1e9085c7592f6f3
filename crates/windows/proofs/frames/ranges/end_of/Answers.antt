use Rattle.std.proofs.Common.{◌≡◌, length, sym, subst, arith, to_z, of_z}
use Rattle.std.specs.Int.{w128}
use Rattle.std.proofs.lemmas.Int.{ints}
use Rattle.semantics.specs.Windows.{after_edge, distance, unless}
use Rattle.semantics_names.specs.Places.{unit_of}
use Rattle.resolver_terms.specs.SelectView.{edge_of}
use Rattle.windows_groups.specs.window_order.Placed.{keys_in, ways_in}
use Rattle.windows_groups.proofs.lemmas.window_order.EntryLemmas.{length-keys_of}
use Rattle.windows.specs.declared.frames.cuts.Side.TheVariants.{End}
use Rattle.windows.specs.frames.Cuts.{CutsPlaces, ahead}
use Rattle.windows.proofs.lemmas.frames.UnionLemmas.{end_none, end_some}
use Rattle.windows.proofs.frames.ranges.end_of.Goals as goal

pub returns-in-Some : goal.returns-in-Some
returns-in-Some c =
    let ds = ways_in c.args.sequence.now in
    let keys = keys_in c.args.sequence.now in
    let unit = unit_of c.args.unit in
    let by : to_z w128 (of_z w128 c.in-Some.by) ≡ c.in-Some.by = omega (arith, ints) in
    end_some (λ k b. after_edge ds unit keys c.args.here b k) (distance (edge_of c.args.edge)) (length keys) c.cut.result c.in-Some.by (sym c.in-Some.ensures.value)
    (subst (λ b. CutsPlaces (ahead End ds unit keys c.args.here b) (length keys) c.cut.result) by c.cut.ensures)

pub returns-in-None : goal.returns-in-None
returns-in-None c =
    let ds = ways_in c.args.sequence.now in
    let keys = keys_in c.args.sequence.now in
    let unit = unit_of c.args.unit in
    subst (λ n. CutsPlaces (λ k. unless (λ by. after_edge ds unit keys c.args.here by k) (distance (edge_of c.args.edge))) (length keys) n) (length-keys_of c.args.sequence.now.entries.now)
    (end_none (λ k b. after_edge ds unit keys c.args.here b k) (distance (edge_of c.args.edge)) (length keys) (sym c.in-None.ensures.value))
