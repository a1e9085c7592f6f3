use Rattle.std.proofs.Common.{◌≡◌, ◌≤◌, length, map, take}
use Rattle.values.specs.Datum.{Datum, datum_of}
use Rattle.expr.specs.Meaning.{eval}
use Rattle.expr.specs.View.{term}
use Rattle.semantics.specs.Valuation.{term_values}
use Rattle.operators_results.proofs.columns.project.Given as goal

abbrev pub invariant-loop-column : goal.invariant-loop-column
invariant-loop-column l = record {
  values : (w : Datum) → take l.next (map datum_of l.out.items)
      ≡ term_values (eval w) (map term (take l.column-index l.columns)) (map datum_of l.row);
  at : l.next ≡ l.column-index;
  long : l.next ≤ length l.out.items;
}
