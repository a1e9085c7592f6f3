use Rattle.std.proofs.Common.{subst, List, IsPermutation}
use Rattle.std.proofs.lemmas.List.Sorted.{IsPermutation-map}
use Rattle.values.specs.Row.{Row, rows_data}
use Rattle.windows_groups.specs.Keys.{comes_before}
use Rattle.windows_groups.proofs.FirstLemmas.{row_of, sorted_map}
use Rattle.windows_groups.proofs.lemmas.distinct_rows.OnceLemmas.{once_begins}
use Rattle.windows_groups.proofs.distinct_rows.distinct_in_order.DistinctInOrder.in_order.Goals as goal

pub returns : goal.returns
returns c = λ came keeps.
    once_begins c.args.order.now c.args.self came keeps (rows_data c.sort_rows.new.rows.items)
    (subst (λ (keys : List Row). IsPermutation keys (rows_data c.sort_rows.new.rows.items)) c.in_ok-rows.ensures
    (IsPermutation-map row_of c.in_ok-rows.rows.items c.sort_rows.new.rows.items c.in_ok-sort_rows.ensures.same))
    (sorted_map (comes_before c.args.order.now) row_of c.sort_rows.new.rows.items c.in_ok-sort_rows.ensures.sorted)
