use Rattle.windows_groups.proofs.lemmas.window_order.RankLemmas.{padded_at}
use Rattle.windows_groups.proofs.window_order.ranks.front_of.Goals as goal

pub returns : goal.returns
returns c = λ at within.
    rw c.copy_from_slice.ensures.after (padded_at c.args.bytes.now c.min-count.result at c.min-count.ensures within)
