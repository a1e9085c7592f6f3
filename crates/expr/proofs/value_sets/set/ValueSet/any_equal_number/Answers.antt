use Rattle.std.proofs.Common.{◌≡◌, refl, rules}
use Rattle.values.specs.Datum.{int}
use Rattle.expr.specs.operations.Operations.{is_null}
use Rattle.expr.specs.value_sets.Order.{is_among}
use Rattle.expr.proofs.value_sets.set.ValueSet.any_equal_number.Goals as goal

pub returns : goal.returns
unfolding is_null
returns c =
    let told : c.has_number.result ≡ is_among (int c.args.number) c.args.self.now = search rules in
    c.any_equal_where.ensures (int c.args.number) refl told
