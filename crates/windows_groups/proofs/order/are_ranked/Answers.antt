use Rattle.windows_groups.proofs.RankLemmas.{are_ranked, some_key}
use Rattle.windows_groups.proofs.order.are_ranked.Goals as goal

pub returns : goal.returns
returns c = λ yes. are_ranked c.args.order.now some_key c.args.rows.now c.loop-row.row-index c.if-order-ne1.false c.loop-row-test.false c.loop-row.invariant
