use Rattle.std.proofs.Common.{◌≡◌, map}
use Rattle.values.specs.Datum.{datum_of}
use Rattle.windows.proofs.lemmas.window_totals.TotalLemmas.{IsAdded}
use Rattle.windows.proofs.window_totals.running.Totals.new.Given as goal

abbrev pub invariant-loop-value : goal.invariant-loop-value
invariant-loop-value l = record {
  once : l.total.added ≡ l.value-index;
  totals : IsAdded (map datum_of l.given) l.value-index l.total.sum l.total.count l.sums.items l.counts.items;
}
