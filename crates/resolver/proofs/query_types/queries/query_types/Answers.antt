use Rattle.std.proofs.Common.{map, subst, sym}
use Rattle.resolver_bodies.specs.BodyView.{body_of}
use Rattle.resolver_terms.specs.Outcome.{Gives}
use Rattle.resolver.proofs.lemmas.query_types.OrderLemmas.{query_is}
use Rattle.resolver.proofs.query_types.queries.query_types.Goals as goal
use Rattle.resolver_terms.specs.SelectView.{key_of}

pub returns : goal.returns
returns c = λ query same_body same_order.
    subst (Gives (λ v. v.items) c.types_in_order.result) (sym (query_is (map (λ t. t.items) c.args.tables.now) query (body_of c.args.body.now)
    (map key_of c.args.order.now) same_body same_order)) c.types_in_order.ensures
