use Rattle.std.proofs.Common.{map, ap}
use Rattle.expr.specs.View.{term, terms}
use Rattle.expr_types.proofs.lemmas.same_trees.SameLemmas.{terms_alone}
use Rattle.expr_types.proofs.same_trees.equality.same_tree_lists.Goals as goal

pub returns : goal.returns
returns c = (
  (λ t. terms_alone (map term c.args.a.now) (map term c.args.b.now) (c.same_trees.ensures.0 t)),
  (λ e. c.same_trees.ensures.1 (ap terms e)),
)
