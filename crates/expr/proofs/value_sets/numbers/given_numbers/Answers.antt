use Rattle.std.proofs.Common.{◌∙◌, ◌++◌, ◌∷◌, [], SFits, ap, rules, sym, w64}
use Rattle.std.proofs.lemmas.Int.{to_z-of_z}
use Rattle.expr.proofs.lemmas.value_sets.NumberLemmas.{number_more, other_more}
use Rattle.expr.proofs.value_sets.numbers.given_numbers.Goals as goal
use Rattle.expr.proofs.value_sets.numbers.given_numbers.Goals.{in-Int+in_ok-push, in_default}

pub loop-value-preserved : goal.loop-value-preserved
loop-value-preserved c =
    let values = c.args.values.now in
    let i = c.loop-value.value-index in
    let v = c.value-item.result in
    let within = c.loop-value-test.true in
    elim c.match-value.branch [
      | in-Int+in_ok-push w ↦
          let n = w.in-Int.number in
          let fits : SFits w64 n = search rules in
          ap (λ vec. vec.items) w.numbers-is ∙ w.in_ok-push.ensures.items
          ∙ ap (λ m. c.loop-value.numbers.items ++ m ∷ []) (to_z-of_z w64 n fits)
          ∙ ap (λ front. front ++ n ∷ []) c.loop-value.invariant
          ∙ sym (number_more values i v n within c.value-item.is w.in-Int.is)
      | in_default w ↦
          ap (λ vec. vec.items) w.numbers-is ∙ c.loop-value.invariant
          ∙ sym (other_more values i v within c.value-item.is w.in_default.not-Int)
    ]
