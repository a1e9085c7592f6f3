use Rattle.std.proofs.Common.{◌≡◌, ◌∙◌, IfOk, Some, map, option_map, subst, sym}
use Rattle.values.specs.Datum.{datum_of}
use Rattle.values.specs.Row.{Row}
use Rattle.expr.specs.View.{term}
use Rattle.integrity_indexes.specs.index_rows.Kept.{keeps_row}
use Rattle.integrity_indexes.proofs.index_rows.conditions.is_kept.Goals as goal

pub returns : goal.returns
returns c =
    let same : map datum_of c.as_slice.result.now ≡ c.args.row.now = c.as_slice.ensures ∙ c.in_ok-values.ensures in
    subst (λ (o : _). IfOk c.is_met.result (λ kept. kept ≡ keeps_row (option_map (λ e. term e.now) o) c.args.row.now)) (sym c.in-Some.is)
    (subst (λ (r : Row). IfOk c.is_met.result (λ kept. kept ≡ keeps_row (Some (term c.in-Some.condition.now)) r)) same c.is_met.ensures)
