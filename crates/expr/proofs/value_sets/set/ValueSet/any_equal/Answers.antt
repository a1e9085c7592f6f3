use Rattle.std.proofs.Common.{◌≡◌, ◌∙◌, ◌==◌, false, ap, sym}
use Rattle.values.specs.Datum.{datum_of}
use Rattle.expr.specs.operations.Operations.{is_null}
use Rattle.expr.proofs.lemmas.value_sets.EqualLemmas.{known_is, null_against}
use Rattle.expr.proofs.value_sets.set.ValueSet.any_equal.Goals as goal

pub returns-then-is_null : goal.returns-then-is_null
returns-then-is_null c =
    let values = c.self.inside.values in
    rw (← c.self.view_is) (sym (
    null_against (datum_of c.args.value.now) values.items _ (c.is_empty.ensures ∙ ap (λ n. n == 0) values.ok.0) c.if-is_empty.false
    (sym c.is_null.ensures ∙ c.if-is_null.true)))

pub has-requires : goal.has-requires
has-requires c = known_is (datum_of c.args.value.now) (sym c.is_null.ensures ∙ c.if-is_null.false)

pub returns : goal.returns
returns c =
    let x = datum_of c.args.value.now in
    let known : is_null x ≡ false = sym c.is_null.ensures ∙ c.if-is_null.false in
    c.any_equal_where.ensures x known c.has.ensures
