use Rattle.std.proofs.Common.{◌≡◌, map, take, Vec, Global}
use Rattle.values.specs.Datum.{Datum, datum_of}
use Rattle.values.specs.declared.value.Value.{Value}
use Rattle.resolver_terms.specs.declared.selects.WindowCall.{WindowCall}
use Rattle.windows.specs.Wanted.{column_of}
use Rattle.windows.proofs.evaluated.evaluate_all.Given as goal
use Rattle.resolver_terms.specs.SelectView.{call_of}

abbrev pub invariant-loop-call : goal.invariant-loop-call
invariant-loop-call l = (w : Datum) → map (λ (column : Vec Value Global). map datum_of column.items) l.columns.items
    ≡ map (λ (call : WindowCall). column_of w (map (λ (row : Vec Value Global). map datum_of row.items) l.rows) (call_of call)) (take l.call-index l.calls)
