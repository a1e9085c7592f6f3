use Rattle.std.proofs.Common.{◌≡◌, ◌∙◌, ap, false, map, sym}
use Rattle.values.specs.Datum.{datum_of}
use Rattle.expr.specs.value_sets.Order.{is_among}
use Rattle.expr.proofs.lemmas.value_sets.EqualLemmas.{found, missing_known, missing_null}
use Rattle.expr.proofs.value_sets.set.ValueSet.any_equal_where.Goals as goal

pub returns-then-is_one : goal.returns-then-is_one
returns-then-is_one c = λ x known same. sym (found x known c.args.self.now (sym same ∙ c.if-is_one.true))

pub returns-then-self : goal.returns-then-self
returns-then-self c = λ x known same.
    let values = c.self.inside.values.items in
    let other : is_among x (map datum_of values) ≡ false = ap (is_among x) c.self.view_is ∙ sym same ∙ c.if-is_one.false in
    rw (← c.self.view_is) (sym (missing_null x known (map datum_of values) other (sym c.self.invariant.nulls ∙ c.if-self.true)))

pub returns-else-self : goal.returns-else-self
returns-else-self c = λ x known same.
    let values = c.self.inside.values.items in
    let other : is_among x (map datum_of values) ≡ false = ap (is_among x) c.self.view_is ∙ sym same ∙ c.if-is_one.false in
    rw (← c.self.view_is) (sym (missing_known x known (map datum_of values) other (sym c.self.invariant.nulls ∙ c.if-self.false)))
