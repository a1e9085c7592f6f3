use Rattle.std.proofs.Common.{inr}
use Rattle.resolver_selects.proofs.lemmas.window_calls.RankingLemmas.{shift_several}
use Rattle.resolver_selects.proofs.window_calls.functions.other_row.Goals as goal

pub returns-in-len4-up : goal.returns-in-len4-up
returns-in-len4-up g c =
    inr (shift_several (g.I.InnerQueries.answers c.args.inner.now) (g.P.Place.meaning c.args.place.now) c.args.items.now c.in-len4-up.len_at_least)
