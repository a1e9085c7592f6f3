use Rattle.std.proofs.Common.{◌∙◌, rules, map}
use Rattle.std.proofs.lemmas.Fn.{always_returns_same}
use Rattle.values.specs.Datum.{datum_of}
use Rattle.values.specs.Order.{datum_cmp}
use Rattle.expr.specs.value_sets.Order.{value_at}
use Rattle.expr.proofs.lemmas.value_sets.AmongLemmas.{searched}
use Rattle.expr.proofs.value_sets.order.is_among.Goals as goal

pub returns : goal.returns
returns c =
    let values = map datum_of c.args.values.now in
    let value = datum_of c.args.value.now in
    let place = c.binary_search_by.ensures.position (λ at. datum_cmp (value_at values at) value) (always_returns_same _ _ _ (λ a r f k. search rules)) in
    c.is_ok.ensures.value ∙ searched values value c.requires.known c.args.order.now c.requires.order c.binary_search_by.result place
