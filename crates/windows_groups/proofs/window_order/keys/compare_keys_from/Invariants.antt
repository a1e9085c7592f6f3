use Rattle.std.proofs.Common.{◌≡◌, drop, map}
use Rattle.values.specs.Datum.{datum_of}
use Rattle.semantics.specs.Sequence.{keys_cmp}
use Rattle.resolver_terms.specs.SelectView.{direction_of}
use Rattle.windows_groups.proofs.window_order.keys.compare_keys_from.Given as goal

abbrev pub invariant-loop-at : goal.invariant-loop-at
invariant-loop-at l =
    let ways = map direction_of l.directions in
    keys_cmp (drop l.from ways) (drop l.from (map datum_of l.a)) (drop l.from (map datum_of l.b)) ≡ keys_cmp (drop l.at ways) (drop l.at (map datum_of l.a)) (drop l.at (map datum_of l.b))
