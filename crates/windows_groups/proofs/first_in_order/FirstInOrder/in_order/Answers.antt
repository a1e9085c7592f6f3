use Rattle.values.specs.Row.{rows_data}
use Rattle.windows_groups.specs.Keys.{comes_before}
use Rattle.windows_groups.proofs.FirstLemmas.{KeepsOf-begins, comes_before_order}
use Rattle.windows_groups.proofs.first_in_order.FirstInOrder.in_order.Goals as goal

pub returns : goal.returns
returns c = λ all keeps.
    KeepsOf-begins (comes_before c.args.order.now) c.args.self.most (comes_before_order c.args.order.now) (rows_data c.put_in_order.new.self.first.items) all
    (rw (c.in_ok-put_in_order.ensures.most, c.in_ok-put_in_order.ensures.rest) at (c.in_ok-put_in_order.ensures.kept all keeps))
