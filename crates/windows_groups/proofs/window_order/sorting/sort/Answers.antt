use Rattle.std.proofs.Common.{rules, is_lt, map}
use Rattle.std.proofs.lemmas.Result.{on_ok_weaker}
use Rattle.std.proofs.lemmas.List.Sorted.{IsPermutation-trans, ranks_by}
use Rattle.std.proofs.lemmas.Fn.{always_returns_same}
use Rattle.resolver_terms.specs.SelectView.{direction_of}
use Rattle.windows_groups.specs.window_order.Entries.{entry_cmp, view}
use Rattle.windows_groups.proofs.lemmas.window_order.RankLemmas.{stable_twice}
use Rattle.windows_groups.proofs.lemmas.window_order.SortLemmas.{entry_total, in_order, is_sequence}
use Rattle.windows_groups.proofs.window_order.sorting.sort.Goals as goal

pub returns-clause-same : goal.returns-clause-same
returns-clause-same c = IsPermutation-trans _ _ _ c.sort_by_ranks.ensures.same c.sort_by.ensures.permutation

pub returns-clause-stable : goal.returns-clause-stable
returns-clause-stable c =
    let ways = map direction_of c.args.directions.now in
    stable_twice (λ a b. is_lt (entry_cmp ways (view a) (view b))) c.args.entries.now.items c.sort_by_ranks.new.entries.items c.sort_by.new.self.items c.sort_by_ranks.ensures.stable
    (c.sort_by.ensures.stable (λ a b. is_lt (entry_cmp ways (view a) (view b))) (ranks_by (entry_total ways) view) (always_returns_same _ _ _ (λ a r f k. search rules)))

pub returns-clause-in_order : goal.returns-clause-in_order
returns-clause-in_order c =
    let ways = map direction_of c.args.directions.now in
    on_ok_weaker c.sort_by.result
    (λ sorted. in_order ways c.args.entries.now.items c.sort_by.new.self.items (IsPermutation-trans _ _ _ c.sort_by_ranks.ensures.same c.sort_by.ensures.permutation)
    (sorted (λ a b. is_lt (entry_cmp ways (view a) (view b))) (ranks_by (entry_total ways) view) (always_returns_same _ _ _ (λ a r f k. search rules))))
    c.sort_by.ensures.sorted

pub returns-clause-sequence : goal.returns-clause-sequence
returns-clause-sequence c =
    let ways = map direction_of c.args.directions.now in
    on_ok_weaker c.sort_by.result
    (λ sorted. is_sequence ways c.args.entries.now.items c.sort_by.new.self.items (IsPermutation-trans _ _ _ c.sort_by_ranks.ensures.same c.sort_by.ensures.permutation)
    (sorted (λ a b. is_lt (entry_cmp ways (view a) (view b))) (ranks_by (entry_total ways) view) (always_returns_same _ _ _ (λ a r f k. search rules))))
    c.sort_by.ensures.sorted
