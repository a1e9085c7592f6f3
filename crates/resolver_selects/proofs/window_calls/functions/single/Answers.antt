use Rattle.std.proofs.Common.{inr}
use Rattle.resolver_selects.proofs.lemmas.window_calls.RankingLemmas.{single_several}
use Rattle.resolver_selects.proofs.window_calls.functions.single.Goals as goal

pub returns-in-len2-up : goal.returns-in-len2-up
returns-in-len2-up g c =
    inr (single_several (g.I.InnerQueries.answers c.args.inner.now) (g.P.Place.meaning c.args.place.now) c.args.items.now c.in-len2-up.len_at_least)
