use Rattle.std.proofs.Common.{◌≡◌, IfOk, map, subst}
use Rattle.expr.specs.View.{term}
use Rattle.expr.proofs.CopyLemmas.{same_terms}
use Rattle.expr.proofs.copies.copy_all.Goals as goal

pub returns : goal.returns
returns c = subst (λ ts. IfOk c.copy_all.result (λ v. map term v.items ≡ ts)) (same_terms (map term c.args.items.now)) c.copy_all.ensures.each
