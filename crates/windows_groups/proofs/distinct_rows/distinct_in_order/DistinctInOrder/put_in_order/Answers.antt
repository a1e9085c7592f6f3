use Rattle.std.proofs.Common.{rules, refl}
use Rattle.std.proofs.lemmas.Fn.{always_returns_same}
use Rattle.windows_groups.specs.Keys.{comes_before}
use Rattle.windows_groups.proofs.FirstLemmas.{comes_before_order}
use Rattle.windows_groups.proofs.lemmas.distinct_rows.OnceLemmas.{once_cut}
use Rattle.windows_groups.proofs.distinct_rows.distinct_in_order.DistinctInOrder.put_in_order.Goals as goal

pub returns-clause-kept : goal.returns-clause-kept
returns-clause-kept c = λ came keeps.
    let order = c.args.order.now in
    once_cut order c.args.self.now came keeps c.sort_by.new.self.keys c.in_ok-sort_by.ensures.reordered.0
    (c.in_ok-sort_by.ensures.sorted (comes_before order) (comes_before_order order) (always_returns_same _ _ _ (λ a r f k. search rules)))
    (record { most = c.args.self.now.most; kept = c.cut.new.rows; ordered = c.len-self.result }) refl c.cut.ensures c.len-self.ensures.len
