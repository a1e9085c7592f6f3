-- The rows so far have numbers or NULL there.
use Rattle.std.proofs.Common.{map}
use Rattle.std.specs.List.{AllWithin}
use Rattle.values.specs.Datum.{datum_of}
use Rattle.semantics.specs.Sequence.{value_at}
use Rattle.windows_groups.specs.window_order.Ranks.{IsNumber}
use Rattle.windows_groups.proofs.order.are_ranked.Given as goal

abbrev pub invariant-loop-row : goal.invariant-loop-row
invariant-loop-row l = AllWithin (λ row. IsNumber (value_at (map datum_of row.items) l.at)) l.rows 0 l.row-index
