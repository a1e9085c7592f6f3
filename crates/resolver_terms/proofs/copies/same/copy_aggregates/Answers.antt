use Rattle.std.proofs.Common.{◌≡◌, IfOk, map, subst}
use Rattle.resolver_terms.specs.SelectView.{aggregate_of}
use Rattle.resolver_terms.proofs.lemmas.copies.SameLemmas.{same_aggregates}
use Rattle.resolver_terms.proofs.copies.same.copy_aggregates.Goals as goal

pub returns : goal.returns
returns c = subst (λ whole. IfOk c.aggregates_with.result (λ v. map aggregate_of v.items ≡ whole)) (same_aggregates (map aggregate_of c.args.aggregates.now)) c.aggregates_with.ensures
