use Rattle.std.proofs.Common.{◌≡◌, map, rules, subst, sym, ap, ◌∙◌}
use Rattle.resolver_bodies.specs.BodyView.{body_of, single_of}
use Rattle.resolver_bodies.specs.declared.bodies.Body.TheFolds.{fold-roll-Body, fold_out-Body}
use Rattle.resolver_bodies.specs.declared.bodies.Body.TheViews.{the_lemmas}
use Rattle.semantics.specs.Query.{Body}
use Rattle.semantics_names.specs.Statement.{operator_of}
use Rattle.resolver_terms.specs.Outcome.{Gives}
use Rattle.resolver.proofs.lemmas.query_types.OrderLemmas.{compound_is, single_is}
use Rattle.resolver.specs.query_types.Ordered.{ordered_compound, ordered_types}
use Rattle.resolver.proofs.query_types.queries.types_in_order.Goals as goal
use Rattle.resolver_terms.specs.SelectView.{key_of}

pub returns-in-Select : goal.returns-in-Select
returns-in-Select c =
    let tables = map (λ t. t.items) c.args.tables.now in
    let order = map key_of c.args.order.now in
    let single = single_of c.in-Select.single in
    let tree : body_of c.args.body.now ≡ Body.select single.from single.select = search (rules, the_lemmas, fold-roll-Body, fold_out-Body) in
    subst (Gives (λ v. v.items) c.single_types.result)
    (sym (ap (λ body. ordered_types tables body order) tree ∙ single_is tables single.from single.select order)) c.single_types.ensures

pub returns-in-Compound : goal.returns-in-Compound
returns-in-Compound c =
    let tables = map (λ t. t.items) c.args.tables.now in
    let order = map key_of c.args.order.now in
    let left = body_of c.in-Compound.field-0.value in
    let operator = operator_of c.in-Compound.field-1 in
    let single = single_of c.in-Compound.field-2 in
    let whole = Body.compound left operator single.from single.select in
    let tree : body_of c.args.body.now ≡ whole = search (rules, the_lemmas, fold-roll-Body, fold_out-Body) in
    subst (Gives (λ v. v.items) c.compound_types.result)
    (sym (ap (λ body. ordered_types tables body order) tree ∙ compound_is tables left operator single.from single.select order
    ∙ ap (λ body. ordered_compound tables body order) (sym tree))) c.compound_types.ensures
