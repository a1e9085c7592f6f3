use Rattle.std.proofs.Common.{◌≡◌, map, take}
use Rattle.values.specs.Datum.{Datum, datum_of}
use Rattle.expr.specs.Meaning.{eval}
use Rattle.expr.specs.View.{term}
use Rattle.resolver_terms.specs.declared.selects.SortTerm.{SortTerm}
use Rattle.windows.proofs.window_entries.computed.sort_values.Given as goal

abbrev pub invariant-loop-sort : goal.invariant-loop-sort
invariant-loop-sort l =
    (w : Datum) → map datum_of l.values.items ≡ map (λ (s : SortTerm). eval w (term s.term) (map datum_of l.row)) (take l.sort-index l.order)
