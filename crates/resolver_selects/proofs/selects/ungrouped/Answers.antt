use Rattle.std.proofs.Common.{None, Ok, ap, sym, ◌∙◌}
use Rattle.std.proofs.lemmas.Result.{err_from_is_err_and}
use Rattle.expr.specs.View.{term}
use Rattle.resolver_selects.proofs.selects.ungrouped.Goals as goal

pub returns-in_err-behind : goal.returns-in_err-behind
returns-in_err-behind g c =
    let p = err_from_is_err_and c.from_residual.result c.from_residual.ensures.1 in
    rw (p.1, p.2) (rw c.len.ensures at (c.in_err-behind.ensures (term c.args.test) None))

pub returns : goal.returns
returns g c = (rw c.len.ensures at (c.in_ok-behind.ensures (term c.args.test) None)) ∙ ap Ok (sym c.named.ensures)
