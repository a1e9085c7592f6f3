use Rattle.std.proofs.Common.{◌≡◌, drop, map}
use Rattle.values.specs.Datum.{datum_of}
use Rattle.semantics.specs.Sequence.{keys_cmp}
use Rattle.windows_groups.specs.Keys.{directions, key_values}
use Rattle.windows_groups.proofs.order.compare_rows.Given as goal

abbrev pub invariant-loop-at : goal.invariant-loop-at
invariant-loop-at l =
    let x = key_values l.order (map datum_of l.a) in
    let y = key_values l.order (map datum_of l.b) in
    keys_cmp (directions l.order) x y ≡ keys_cmp (drop l.at (directions l.order)) (drop l.at x) (drop l.at y)
