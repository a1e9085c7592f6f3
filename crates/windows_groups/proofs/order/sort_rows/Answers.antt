use Rattle.std.proofs.Common.{rules, is_lt, map}
use Rattle.std.proofs.lemmas.Result.{on_ok_weaker}
use Rattle.std.proofs.lemmas.List.Sorted.{IsPermutation-trans, ranks_by}
use Rattle.std.proofs.lemmas.Fn.{always_returns_same}
use Rattle.values.specs.Datum.{datum_of}
use Rattle.values.specs.Row.{rows_data}
use Rattle.semantics.specs.Sequence.{keys_cmp}
use Rattle.semantics.proofs.KeyLemmas.{keys_cmp_total}
use Rattle.windows_groups.specs.Keys.{directions, key_values}
use Rattle.windows_groups.specs.Ranked.{AreRanked, first_rank}
use Rattle.windows_groups.proofs.RankLemmas.{ranks_tell}
use Rattle.windows_groups.proofs.order.sort_rows.Goals as goal

pub returns-then-ranked-clause-sorted : goal.returns-then-ranked-clause-sorted
returns-then-ranked-clause-sorted c =
    let order = c.args.order.now in
    let are : AreRanked order (rows_data c.args.rows.now.items) = rw c.as_slice.ensures.value at (c.are_ranked-ranked.ensures c.if-ranked.true) in
    ranks_tell order c.args.rows.now.items c.sort_by_cached_key.new.self.items are c.sort_by_cached_key.ensures.permutation
    (c.in_ok-sort_by_cached_key.ensures.sorted (λ row. first_rank order (map datum_of row.items))
    (always_returns_same _ _ _ (λ a r f k. search rules)))

pub returns-clause-same : goal.returns-clause-same
returns-clause-same c = IsPermutation-trans _ _ _ c.sort_by_cached_key.ensures.permutation c.sort_by.ensures.permutation

pub returns-clause-sorted : goal.returns-clause-sorted
returns-clause-sorted c =
    let order = c.args.order.now in
    let ways = directions order in
    on_ok_weaker c.sort_by.result
    (λ sorted. sorted (λ a b. is_lt (keys_cmp ways (key_values order (map datum_of a.items)) (key_values order (map datum_of b.items))))
    (ranks_by (keys_cmp_total ways) (λ row. key_values order (map datum_of row.items))) (always_returns_same _ _ _ (λ a r f k. search rules)))
    c.sort_by.ensures.sorted
