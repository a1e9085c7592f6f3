use Rattle.std.proofs.Common.{◌≡◌, IfOk, option_map, subst}
use Rattle.resolver_terms.specs.SelectView.{grouping_of}
use Rattle.resolver_terms.proofs.lemmas.copies.SameLemmas.{same_grouping}
use Rattle.resolver_terms.proofs.copies.same.copy_grouping.Goals as goal

pub returns : goal.returns
returns c = subst (λ whole. IfOk c.grouping_with.result (λ copy. option_map grouping_of copy ≡ whole)) (same_grouping (option_map grouping_of c.args.grouping.now)) c.grouping_with.ensures
