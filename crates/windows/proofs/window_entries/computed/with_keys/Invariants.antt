use Rattle.std.proofs.Common.{◌≡◌, map, take}
use Rattle.values.specs.Datum.{Datum, datum_of}
use Rattle.expr.specs.Meaning.{eval}
use Rattle.resolver_terms.specs.SelectView.{sort_of}
use Rattle.windows.specs.window_partitions.Tagged.{terms_of}
use Rattle.semantics.specs.Valuation.{term_values}
use Rattle.windows_groups.specs.window_order.Entries.{keys_of}
use Rattle.windows_groups.specs.declared.window_order.sorting.Entry.{Entry}
use Rattle.windows.specs.window_entries.Tags.{tags_of}
use Rattle.windows.proofs.window_entries.computed.with_keys.Given as goal

abbrev pub invariant-loop-entry : goal.invariant-loop-entry
invariant-loop-entry l = record {
  rows : tags_of l.placed.items ≡ tags_of (take l.entry-index l.entries);
  keys : (w : Datum) → keys_of l.placed.items ≡ map (λ (e : Entry). term_values (eval w) (terms_of (map sort_of l.order)) (map datum_of e.row.now)) (take l.entry-index l.entries);
}
