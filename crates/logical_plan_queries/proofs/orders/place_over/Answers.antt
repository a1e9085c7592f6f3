use Rattle.std.proofs.Common.{◌∙◌, List, map, sym, ap, subst, arith}
use Rattle.std.proofs.lemmas.List.{length-map, map_push}
use Rattle.expr.specs.Term.{Term}
use Rattle.expr.specs.View.{term}
use Rattle.semantics.specs.Query as query
use Rattle.resolver_terms.specs.SelectView.{key_term_of}
use Rattle.resolver_terms.specs.declared.selects.KeyTerm.{KeyTerm}
use Rattle.logical_plan_queries.specs.Places.{IsPlacedOver}
use Rattle.logical_plan_queries.proofs.PlacedLemmas.{placed_past, placed_result, placed_term}
use Rattle.logical_plan_queries.proofs.orders.place_over.Goals as goal

pub returns-in-Result-clause-placed : goal.returns-in-Result-clause-placed
returns-in-Result-clause-placed c =
    let columns = map term c.args.columns.now.items in
    subst (λ (by : KeyTerm). IsPlacedOver c.args.read.now c.args.width (key_term_of by) columns columns c.in-Result.at) (sym c.in-Result.is)
    (placed_result c.args.read.now c.args.width columns c.in-Result.at c.if-at-width.true)

pub returns-in-Result-2-clause-placed : goal.returns-in-Result-2-clause-placed
returns-in-Result-2-clause-placed c =
    let columns = map term c.args.columns.now.items in
    let past = c.if-at-width.false in
    subst (λ (by : KeyTerm). IsPlacedOver c.args.read.now c.args.width (key_term_of by) columns columns 18446744073709551615) (sym c.in-Result.is)
    (placed_past c.args.read.now c.args.width columns c.in-Result.at (omega (arith, past)))

pub returns-in_ok-push-in-Some-clause-placed : goal.returns-in_ok-push-in-Some-clause-placed
returns-in_ok-push-in-Some-clause-placed c =
    let before = map term c.args.columns.now.items in
    let at = c.len-at.result in
    let last = c.len-at.ensures ∙ c.args.columns.now.ok.0 ∙ sym (length-map c.args.columns.now.items term) in
    let stands = rw c.in-Some.is at c.in_ok-expr_over-in-Term.ensures.stands in
    subst (λ (by : KeyTerm). IsPlacedOver c.args.read.now c.args.width (key_term_of by) before (map term c.push.new.self.items) at) (sym c.in-Term.is)
    (subst (λ (columns : List Term). IsPlacedOver c.args.read.now c.args.width (query.KeyTerm.term (term c.in-Term.t)) before columns at)
    (sym (ap (map term) c.in_ok-push-in-Some.ensures.items ∙ map_push term c.args.columns.now.items c.in-Some.e))
    (placed_term c.args.read.now c.args.width before (term c.in-Some.e) (term c.in-Term.t) at stands last))
