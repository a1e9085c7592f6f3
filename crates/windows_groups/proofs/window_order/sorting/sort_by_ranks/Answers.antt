use Rattle.std.proofs.Common.{rules, sym}
use Rattle.std.proofs.lemmas.Fn.{always_returns_same}
use Rattle.resolver_terms.specs.SelectView.{direction_of}
use Rattle.windows_groups.proofs.lemmas.window_order.RankLemmas.{first_rank, first_ranks_stable}
use Rattle.windows_groups.proofs.window_order.sorting.sort_by_ranks.Goals as goal

pub returns-clause-stable : goal.returns-clause-stable
returns-clause-stable c =
    first_ranks_stable c.args.directions.now c.in-Some.first.now c.args.entries.now.items c.sort_by_cached_key.new.self.items (sym c.in-Some.ensures.value)
    (c.sort_by_cached_key.ensures.stable (first_rank (direction_of c.in-Some.first.now)) (always_returns_same _ _ _ (λ a r f k. search rules)))
