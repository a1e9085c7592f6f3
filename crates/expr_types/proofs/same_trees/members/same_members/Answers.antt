use Rattle.std.proofs.Common.{ap}
use Rattle.expr.specs.Filled.{literals}
use Rattle.expr_types.proofs.lemmas.same_trees.MemberLemmas.{literals_alone}
use Rattle.expr_types.proofs.same_trees.members.same_members.Goals as goal

pub returns : goal.returns
returns c = (
  (λ t. ap literals (c.is_same.ensures.0 t)),
  (λ e. c.is_same.ensures.1 (literals_alone c.args.a.now c.args.b.now e)),
)
