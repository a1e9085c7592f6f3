use Rattle.std.proofs.Common.{inr}
use Rattle.resolver_terms.specs.SelectView.{function_of}
use Rattle.resolver_selects.proofs.lemmas.window_calls.RankingLemmas.{without_some}
use Rattle.resolver_selects.proofs.window_calls.functions.without.Goals as goal

pub returns-in-len1-up : goal.returns-in-len1-up
returns-in-len1-up c = inr (without_some (function_of c.args.function) c.args.items.now c.in-len1-up.len_at_least)
