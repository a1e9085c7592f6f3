use Rattle.std.proofs.Common.{◌∙◌, SFits, rules, w64}
use Rattle.std.proofs.lemmas.Int.{to_z-of_z}
use Rattle.expr.proofs.lemmas.value_sets.NumberLemmas.{searched_number}
use Rattle.expr.proofs.value_sets.numbers.has_number.Goals as goal

pub returns : goal.returns
returns c = λ values are.
    let fits : SFits w64 c.args.number = search rules in
    c.is_ok.ensures.value
    ∙ searched_number values c.args.numbers.now c.args.number are c.binary_search.result c.binary_search.ensures.bound (rw (to_z-of_z w64 c.args.number fits) at c.binary_search.ensures.position)
