use Rattle.std.proofs.Common.{◌≡◌, inr, length, rules}
use Rattle.resolver_selects.proofs.lemmas.window_calls.RankingLemmas.{nth_alone, nth_several}
use Rattle.resolver_selects.proofs.window_calls.functions.nth.Goals as goal

pub returns-in-len1 : goal.returns-in-len1
returns-in-len1 g c =
    let one : length c.args.items.now ≡ 1 = search rules in
    inr (nth_alone (g.I.InnerQueries.answers c.args.inner.now) (g.P.Place.meaning c.args.place.now) c.args.items.now one)

pub returns-in-len3-up : goal.returns-in-len3-up
returns-in-len3-up g c =
    inr (nth_several (g.I.InnerQueries.answers c.args.inner.now) (g.P.Place.meaning c.args.place.now) c.args.items.now c.in-len3-up.len_at_least)
