use Rattle.std.proofs.Common.{◌++◌, ap, inr, rules, ◌∙◌}
use Rattle.semantics_names.specs.Outcome.{also}
use Rattle.resolver_types.proofs.lemmas.body_types.ColumnLemmas.{too_few}
use Rattle.resolver_types.proofs.body_types.columns.one_types.Goals as goal

pub returns-in_default : goal.returns-in_default
returns-in_default c =
    inr (c.loop-x.invariant
    ∙ ap (also (λ rest. c.loop-x.types.items ++ rest)) (too_few c.args.first.now c.loop-x.rest.now c.loop-x.x-index c.loop-x-test.true (search rules)))
