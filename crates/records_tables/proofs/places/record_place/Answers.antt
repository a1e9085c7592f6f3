use Rattle.std.proofs.Common.{◌≡◌, ◌∙◌, ◌+◌, ◌≤◌, ◌<◌, ℕ, [], length, arith, rules, ap, sym}
use Rattle.records_tables.specs.primary_rows.Firsts.{has_number, firsts}
use Rattle.records_tables.proofs.PlaceLemmas.{key_within, others_below, place_fits, place_met, place_new, place_of_key, place_of_other}
use Rattle.records_tables.proofs.places.record_place.Goals.{then-not-contains, else-not-contains}
use Rattle.records_tables.proofs.places.record_place.Goals as goal

less_at : {a b : ℕ} → a < b → a ≤ b
less_at less = omega arith

pub returns-in-Ok-clause-within : goal.returns-in-Ok-clause-within
returns-in-Ok-clause-within c =
    let place = c.in-Ok.ensures.found.1 in
    let inside = key_within c.args.key.now c.args.width c.args.column c.requires.key c.in-Ok.ensures.found.0 in
    omega (arith, place, inside)

pub returns-in-Ok-clause-place : goal.returns-in-Ok-clause-place
returns-in-Ok-clause-place c = c.in-Ok.ensures.found.1 ∙ sym (place_of_key c.args.key.now c.args.width c.args.column c.in-Ok.ensures.found.0)

pub loop-other-init : goal.loop-other-init
loop-other-init c = let is = c.in-Err.ensures.none.1 in omega (arith, is)

pub overflow_add-place : goal.overflow_add-place
overflow_add-place c =
    let most = place_fits c.args.key.now c.args.width c.args.column c.loop-other.other-counter c.loop-other.place c.requires.key c.requires.within (less_at c.loop-other-test.true)
    c.loop-other.invariant (sym c.contains.ensures.value ∙ c.if-not-contains.true) in
    search (rules, most)

pub loop-other-preserved : goal.loop-other-preserved
loop-other-preserved c =
    let key = c.args.key.now in
    let other = c.loop-other.other-counter in
    let told : c.contains.result ≡ has_number key other = c.contains.ensures.value in
    elim c.if-not-contains.branch [
      | then-not-contains w ↦
          w.place-is ∙ place_new key c.args.width c.args.column other c.loop-other.place c.requires.key c.requires.within (less_at c.loop-other-test.true) c.loop-other.invariant
          (sym told ∙ w.if-not-contains.true)
      | else-not-contains w ↦
          w.place-is ∙ place_met key c.args.width c.args.column other c.loop-other.place c.requires.key c.requires.within (less_at c.loop-other-test.true) c.loop-other.invariant
          (sym told ∙ w.if-not-contains.false)
    ]

pub returns-clause-within : goal.returns-clause-within
returns-clause-within c =
    let end : c.loop-other.other-counter ≡ c.args.column = omega (arith, c.loop-other.auto.other-counter-end, c.loop-other-test.false) in
    let so_far = c.loop-other.invariant ∙ ap (λ n. length (firsts [] c.args.key.now) + others_below c.args.key.now n) end in
    let most = place_fits c.args.key.now c.args.width c.args.column c.args.column c.loop-other.place c.requires.key c.requires.within (omega arith) so_far c.in-Err.ensures.none.0 in
    omega (arith, most)

pub returns-clause-place : goal.returns-clause-place
returns-clause-place c =
    let end : c.loop-other.other-counter ≡ c.args.column = omega (arith, c.loop-other.auto.other-counter-end, c.loop-other-test.false) in
    c.loop-other.invariant ∙ ap (λ n. length (firsts [] c.args.key.now) + others_below c.args.key.now n) end
    ∙ sym (place_of_other c.args.key.now c.args.width c.args.column c.in-Err.ensures.none.0 c.requires.within)
