use Rattle.std.proofs.lemmas.List.{length-map}
use Rattle.std.proofs.lemmas.List.Sorted.{Contains-permutation}
use Rattle.values.specs.Datum.{datum_of}
use Rattle.expr.proofs.value_sets.order.order_of.Goals as goal

pub returns : goal.returns
returns c =
    let places = c.in_ok-order.order.items in
    let order = c.sort.new.order.items in
    let long = length-map c.args.values.now datum_of in
    record {
      ascends = c.sort.ensures.ascends;
      all = λ at inside. Contains-permutation places order at c.sort.ensures.same (c.in_ok-order.ensures at (rw long at inside));
    }
