use Rattle.std.proofs.Common.{◌≡◌, ℕ, length, map, Option}
use Rattle.values.specs.Datum.{Datum, datum_of}
use Rattle.semantics.specs.Query as query
use Rattle.semantics.specs.Valuation.{Valuation}
use Rattle.semantics.specs.Windows.{window_result}
use Rattle.windows_groups.specs.window_order.Placed.{rows_in}
use Rattle.windows.specs.window_results.Known.{known_for, known_of}
use Rattle.windows.specs.window_results.Over.{IsWindowOver}
use Rattle.windows.specs.window_results.Put.{AreWanted, numbers_in}
use Rattle.windows.proofs.lemmas.window_results.PutLemmas.{ArePut}
use Rattle.windows.proofs.window_results.computed.Computed.put_along.Given as goal

abbrev pub invariant-loop-here : goal.invariant-loop-here
invariant-loop-here l = record {
  size : length l.results.items ≡ length l.fn.results.items;
  puts : (value : Valuation) (o : Option Datum) (window : query.Window) (f : query.WindowFunction) (want : ℕ → Option Datum) → IsWindowOver value window l.sequence l.frame
      → known_of l.self ≡ known_for value f (rows_in l.sequence) → AreWanted want (window_result value o window f (rows_in l.sequence)) (numbers_in l.sequence)
      → ArePut want (numbers_in l.sequence) (map datum_of l.fn.results.items) (map datum_of l.results.items) l.here;
}
