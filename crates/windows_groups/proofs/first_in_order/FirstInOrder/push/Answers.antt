use Rattle.std.proofs.Common.{map}
use Rattle.std.proofs.lemmas.List.{map_push}
use Rattle.values.specs.Row.{rows_data}
use Rattle.values.specs.Datum.{datum_of}
use Rattle.windows_groups.specs.Keys.{comes_before}
use Rattle.windows_groups.proofs.FirstLemmas.{KeepsOf-pass, KeepsOf-push}
use Rattle.windows_groups.proofs.first_in_order.FirstInOrder.push.Goals as goal

pub returns-then-is_behind-clause-kept : goal.returns-then-is_behind-clause-kept
returns-then-is_behind-clause-kept c = λ all keeps.
    let kept = c.args.self.now in
    KeepsOf-pass (comes_before c.args.order.now) kept.most (rows_data kept.first.items) (rows_data kept.more.items) all keeps (map datum_of c.args.row.items)
    (rw c.as_slice.ensures.value at (c.is_behind.ensures c.if-is_behind.true (rows_data kept.more.items) keeps.ascends))

pub returns-then-not-is_full-clause-kept : goal.returns-then-not-is_full-clause-kept
returns-then-not-is_full-clause-kept c = λ all keeps.
    let kept = c.args.self.now in
    rw (c.in_ok-push.ensures.items, map_push (λ row. map datum_of row.items) kept.more.items c.args.row)
    (KeepsOf-push (comes_before c.args.order.now) kept.most (rows_data kept.first.items) (rows_data kept.more.items) all keeps (map datum_of c.args.row.items))

pub returns-clause-kept : goal.returns-clause-kept
returns-clause-kept c = λ all keeps.
    let kept = c.args.self.now in
    c.in_ok-put_in_order.ensures.kept _
    (rw (c.in_ok-push.ensures.items, map_push (λ row. map datum_of row.items) kept.more.items c.args.row)
    (KeepsOf-push (comes_before c.args.order.now) kept.most (rows_data kept.first.items) (rows_data kept.more.items) all keeps (map datum_of c.args.row.items)))
