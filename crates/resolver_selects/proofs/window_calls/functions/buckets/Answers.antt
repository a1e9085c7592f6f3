use Rattle.std.proofs.Common.{inr}
use Rattle.resolver_selects.proofs.lemmas.window_calls.RankingLemmas.{buckets_several}
use Rattle.resolver_selects.proofs.window_calls.functions.buckets.Goals as goal

pub returns-in-len2-up : goal.returns-in-len2-up
returns-in-len2-up c = inr (buckets_several c.args.items.now c.in-len2-up.len_at_least)
