use Rattle.std.proofs.Common.{◌≡◌, IfOk, subst}
use Rattle.resolver_terms.specs.SelectView.{window_of}
use Rattle.resolver_terms.proofs.lemmas.copies.SameLemmas.{same_window}
use Rattle.resolver_terms.proofs.copies.same.copy_window.Goals as goal

pub returns : goal.returns
returns c = subst (λ whole. IfOk c.window_with.result (λ copy. window_of copy ≡ whole)) (same_window (window_of c.args.window.now)) c.window_with.ensures
