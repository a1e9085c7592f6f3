use Rattle.std.proofs.Common.{◌≡◌, Ok, ap, rules, ◌∙◌}
use Rattle.resolver_bodies.specs.BodyView.{body_of, source_of}
use Rattle.resolver_bodies.specs.declared.bodies.Body.TheFolds.{fold_out-Source}
use Rattle.resolver_bodies.specs.declared.bodies.Body.TheViews.{the_lemmas}
use Rattle.resolver_bodies.specs.declared.bodies.Source.{Derived}
use Rattle.semantics.specs.Query.{Source}
use Rattle.resolver.proofs.lemmas.statement_names.CountLemmas.{within_none, within_some}
use Rattle.resolver.proofs.statement_names.items.source.Goals as goal

pub returns-then-not-is_within : goal.returns-then-not-is_within
returns-then-not-is_within c =
    within_none (body_of c.args.body.now) c.is_within.result c.is_within.ensures c.if-not-is_within.true

pub returns : goal.returns
returns c =
    let made : source_of (Derived c.in_ok-new.field-0) ≡ Source.derived (body_of c.in_ok-new.field-0.value) =
    search (rules, the_lemmas, fold_out-Source) in
    ap Ok (made ∙ ap (λ b. Source.derived (body_of b)) c.in_ok-new.ensures.ok ∙ ap Source.derived c.in_ok-body.ensures)
    ∙ within_some (body_of c.args.body.now) c.is_within.result c.is_within.ensures c.if-not-is_within.false
