use Rattle.std.proofs.Common.{◌≡◌, IfOk, subst}
use Rattle.expr.specs.View.{term}
use Rattle.expr.proofs.CopyLemmas.{same_term}
use Rattle.expr.proofs.copies.copy.Goals as goal

pub returns : goal.returns
returns c = subst (λ t. IfOk c.copy.result (λ x. term x ≡ t)) (same_term (term c.args.e.now)) c.copy.ensures
