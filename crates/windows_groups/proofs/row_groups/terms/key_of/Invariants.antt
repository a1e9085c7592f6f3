use Rattle.std.proofs.Common.{◌≡◌, map, take}
use Rattle.values.specs.Datum.{Datum, datum_of}
use Rattle.expr.specs.Meaning.{eval}
use Rattle.expr.specs.View.{term}
use Rattle.semantics.specs.Valuation.{term_values}
use Rattle.windows_groups.proofs.row_groups.terms.key_of.Given as goal

abbrev pub invariant-loop-term : goal.invariant-loop-term
invariant-loop-term l = (w : Datum) → l.key ≡ term_values (eval w) (map term (take l.term-index l.by)) (map datum_of l.row)
