use Rattle.std.proofs.Common.{◌≡◌, IfOk, map, subst}
use Rattle.resolver_terms.specs.SelectView.{key_of}
use Rattle.resolver_terms.proofs.lemmas.copies.SameLemmas.{same_order}
use Rattle.resolver_terms.proofs.copies.same.copy_order.Goals as goal

pub returns : goal.returns
returns c = subst (λ whole. IfOk c.order_with.result (λ v. map key_of v.items ≡ whole)) (same_order (map key_of c.args.order.now)) c.order_with.ensures
