use Rattle.windows_groups.proofs.FirstLemmas.{KeepsOf-put, few_are_kept}
use Rattle.windows_groups.proofs.first_in_order.FirstInOrder.put_in_order.Goals as goal

pub returns-clause-few : goal.returns-clause-few
returns-clause-few c =
    let few = few_are_kept c.args.self.now.most c.sort_rows.new.rows.items c.append.new.other.items c.in_ok-append.ensures.other_items in
    record { first = rw c.cut.ensures few.0; more = few.1 }

pub returns-clause-kept : goal.returns-clause-kept
returns-clause-kept c = λ all keeps.
    rw (c.cut.ensures, c.in_ok-append.ensures.other_items)
    (KeepsOf-put c.args.order.now c.args.self.now.most c.args.self.now.first.items c.args.self.now.more.items c.sort_rows.new.rows.items all
    (rw c.in_ok-append.ensures.items at c.in_ok-sort_rows.ensures.same) c.in_ok-sort_rows.ensures.sorted keeps)
