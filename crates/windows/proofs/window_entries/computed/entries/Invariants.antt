use Rattle.std.proofs.Common.{◌≡◌, map, take}
use Rattle.std.specs.List.{range_with_len}
use Rattle.values.specs.Datum.{Datum, datum_of}
use Rattle.expr.specs.Meaning.{eval}
use Rattle.expr.specs.View.{term}
use Rattle.semantics.specs.Valuation.{term_values}
use Rattle.windows_groups.specs.window_order.Entries.{keys_of, rows_of}
use Rattle.windows_groups.specs.declared.window_order.sorting.Entry.{Entry}
use Rattle.windows.proofs.window_entries.computed.entries.Given as goal

abbrev pub invariant-loop-index : goal.invariant-loop-index
invariant-loop-index l = record {
  places : map (λ (e : Entry). e.index) l.placed.items ≡ range_with_len 0 l.index;
  rows : rows_of l.placed.items ≡ map (λ row. map datum_of row.items) (take l.index l.rows);
  keys : (w : Datum) → keys_of l.placed.items ≡ map (λ row. term_values (eval w) (map term l.terms) (map datum_of row.items)) (take l.index l.rows);
}
