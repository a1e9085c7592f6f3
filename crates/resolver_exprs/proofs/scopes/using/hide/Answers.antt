use Rattle.std.proofs.Common.{slice_set, ap, sym, ◌∙◌}
use Rattle.std.proofs.lemmas.List.Edits.{map_over_more}
use Rattle.resolver_exprs.specs.scopes.Using.{hidden_column}
use Rattle.resolver_exprs.proofs.scopes.using.hide.Goals as goal

pub loop-shown-preserved : goal.loop-shown-preserved
loop-shown-preserved c =
    let one = hidden_column c.args.name.now in
    ap (slice_set c.loop-shown.columns c.loop-shown.shown-index) (c.hide.ensures ∙ ap one (sym c.shown-item.is))
    ∙ map_over_more one c.args.columns.now c.loop-shown.columns c.loop-shown.shown-index c.shown-item.result c.loop-shown-test.true
    c.loop-shown.invariant c.shown-item.is
