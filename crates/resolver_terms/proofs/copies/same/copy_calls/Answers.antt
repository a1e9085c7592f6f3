use Rattle.std.proofs.Common.{◌≡◌, IfOk, map, subst}
use Rattle.resolver_terms.specs.SelectView.{call_of}
use Rattle.resolver_terms.proofs.lemmas.copies.SameLemmas.{same_calls}
use Rattle.resolver_terms.proofs.copies.same.copy_calls.Goals as goal

pub returns : goal.returns
returns c = subst (λ whole. IfOk c.calls_with.result (λ v. map call_of v.items ≡ whole)) (same_calls (map call_of c.args.calls.now)) c.calls_with.ensures
