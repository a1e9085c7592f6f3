use Rattle.std.proofs.Common.{rules, is_lt, map}
use Rattle.std.proofs.lemmas.Fn.{always_returns_same}
use Rattle.std.proofs.lemmas.List.Sorted.{ranks_by}
use Rattle.values.specs.Datum.{datum_of}
use Rattle.values.specs.Order.{datum_cmp}
use Rattle.values.specs.OrderLaws.{datum_cmp_total}
use Rattle.expr.specs.value_sets.Order.{value_at}
use Rattle.expr.proofs.value_sets.order.sort.Goals as goal

pub returns-clause-ascends : goal.returns-clause-ascends
returns-clause-ascends c =
    let values = map datum_of c.args.values.now in
    c.sort_unstable_by.ensures.sorted (λ a b. is_lt (datum_cmp (value_at values a) (value_at values b))) (ranks_by datum_cmp_total (value_at values))
    (always_returns_same _ _ _ (λ a r f k. search rules))
