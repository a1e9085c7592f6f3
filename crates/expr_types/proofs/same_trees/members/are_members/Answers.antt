use Rattle.std.proofs.Common.{rules}
use Rattle.expr_types.proofs.lemmas.same_trees.MemberLemmas.{members_end}
use Rattle.expr_types.proofs.same_trees.members.are_members.Goals as goal

pub returns : goal.returns
returns c =
    members_end c.args.items.now c.args.set.now c.loop-item.rest.now c.loop-item.item-index _ (search rules) c.is_empty.ensures c.loop-item.invariant
