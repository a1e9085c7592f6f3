use Rattle.std.proofs.Common.{◌≡◌, ◌+◌, ◌-◌, ◌<◌, ◌≤◌, ℕ, All, List, length, map, slice_index, Option, Some}
use Rattle.values.specs.Datum.{Datum, datum_of}
use Rattle.values.specs.Row.{Row}
use Rattle.expr.specs.Meaning.{eval}
use Rattle.semantics.specs.Sequence.{value_at}
use Rattle.windows.specs.window_entries.Tags.{tags_of}
use Rattle.windows.specs.window_partitions.Partition.{ArePartitions, part_at}
use Rattle.windows.specs.Wanted.{wanted}
use Rattle.windows.proofs.evaluated.put_parts.Given as goal
use Rattle.resolver_terms.specs.SelectView.{call_of, window_of}

abbrev pub invariant-loop-number : goal.invariant-loop-number
invariant-loop-number l = record {
  size : length l.results.items ≡ length l.fn.results.items;
  few : l.added ≤ length l.parts.entries.items;
  behind : l.added ≤ slice_index l.parts.starts.items (l.number - 1);
  right : (w : Datum) (o : Option Datum) (rows : List Row) → ArePartitions (eval w) (window_of l.call.window) rows (tags_of l.parts.entries.items) l.parts.starts.items
      → (g : ℕ) → g + 1 < l.number → g + 1 < length l.parts.starts.items
      → All (λ i. wanted w o (call_of l.call) rows i ≡ Some (value_at (map datum_of l.results.items) i)) (map (λ (t : Row × ℕ). t.1) (part_at (tags_of l.parts.entries.items) l.parts.starts.items g));
}
