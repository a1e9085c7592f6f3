use Rattle.expr.proofs.lemmas.operations.LikeLemmas.{test_is_relation}
use Rattle.expr.proofs.operations.laws.like_is_relation.Goals as goal

pub returns : goal.returns
returns c = test_is_relation
