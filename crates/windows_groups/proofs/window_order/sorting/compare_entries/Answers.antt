use Rattle.std.proofs.Common.{◌≡◌, ◌∙◌, Equal, map, ap, sym}
use Rattle.std.specs.Ordering.{ordering_then}
use Rattle.values.specs.Datum.{datum_of}
use Rattle.values.specs.Order.{row_cmp}
use Rattle.values.proofs.RowLemmas.{slice_cmp-rows}
use Rattle.semantics.specs.Sequence.{keys_cmp}
use Rattle.resolver_terms.specs.SelectView.{direction_of}
use Rattle.windows_groups.proofs.window_order.sorting.compare_entries.Goals as goal

pub returns-in-Equal : goal.returns-in-Equal
returns-in-Equal c =
    let a = c.args.a.now in
    let b = c.args.b.now in
    let ways = map direction_of c.args.directions.now in
    let tie : keys_cmp ways (map datum_of a.keys.items) (map datum_of b.keys.items) ≡ Equal =
    sym (c.compare_keys.ensures ∙ (λ i. keys_cmp ways (map datum_of (c.as_slice.ensures.value i)) (map datum_of (c.as_slice-2.ensures.value i)))) ∙ c.in-Equal.is in
    c.cmp.ensures ∙ slice_cmp-rows a.row.now b.row.now
    ∙ sym (ap (λ o. ordering_then o (row_cmp (map datum_of a.row.now) (map datum_of b.row.now))) tie)
