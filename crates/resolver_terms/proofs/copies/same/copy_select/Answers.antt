use Rattle.std.proofs.Common.{◌≡◌, IfOk, subst}
use Rattle.resolver_terms.specs.SelectView.{select_of}
use Rattle.resolver_terms.proofs.lemmas.copies.SameLemmas.{same_select}
use Rattle.resolver_terms.proofs.copies.same.copy_select.Goals as goal

pub returns : goal.returns
returns c = subst (λ whole. IfOk c.select_with.result (λ copy. select_of copy ≡ whole)) (same_select (select_of c.args.select.now)) c.select_with.ensures
