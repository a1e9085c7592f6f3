use Rattle.std.proofs.Common.{◌≡◌, ◌∙◌, true, false, Ordering, length, map, sym, ap, arith, subst}
use Rattle.std.specs.Ordering.{is_lt}
use Rattle.values.specs.Datum.{datum_of}
use Rattle.windows_groups.proofs.FirstLemmas.{IsBehind-row, not_less}
use Rattle.windows_groups.proofs.first_in_order.FirstInOrder.is_behind.Goals as goal

pub returns : goal.returns
returns c = λ is more up.
    let long = ap length c.deref.ensures.value in
    let some = c.in-Some-last.ensures.item.3.0 in
    let at_least : c.is_ge.result ≡ true = is in
    let compared = rw c.as_slice.ensures.value at c.compare_rows.ensures in
    IsBehind-row c.args.order.now c.args.self.now.most c.in-Some.most c.args.self.now.first.items more (map datum_of c.args.row.now) c.in-Some-last.last.now c.in-Some.is
    (omega (arith, long, c.deref.ensures.len))
    (omega (arith, some, long))
    (rw c.deref.ensures.value at c.in-Some-last.ensures.item.1)
    up
    (subst (λ (o : Ordering). is_lt o ≡ false) compared (not_less c.compare_rows.result (sym c.is_ge.ensures ∙ at_least)))
