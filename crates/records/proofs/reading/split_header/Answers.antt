use Rattle.std.proofs.Common.{◌≡◌, ◌∙◌, ℤ, List, ℕ, pos, take, drop, ◌-◌, sym, subst, rules, arith, SFits, w64}
use Rattle.std.specs.Int.{FitsUnsignedBits}
use Rattle.std.proofs.lemmas.Int.{to_z-of_z}
use Rattle.std.proofs.lemmas.List.{take_rest}
use Rattle.records.specs.Varint.{BeginsVarint}
use Rattle.records.specs.Record.{SplitsHeader}
use Rattle.records.proofs.HeaderLemmas.{split_agrees, split_made, split_fits, as_length, length_fits}
use Rattle.records.proofs.reading.split_header.Goals.{then-end-start-via-then-end-start, then-end-start-via-else-end-start+then-bytes-end}
use Rattle.records.proofs.reading.split_header.Goals as goal

pub returns-in_default-clause-none : goal.returns-in_default-clause-none
returns-in_default-clause-none c = λ spelt bodies h.
    let value = c.in_ok-size.size in
    let fits : SFits w64 value = search rules in
    let a = split_agrees c.args.bytes.now spelt bodies value c.in_ok-size.start c.in_ok-size.ensures.found h in
    c.in_default.ensures (subst (FitsUnsignedBits 64) (sym (to_z-of_z w64 value fits)) (length_fits value _ fits a.value_is))

pub returns-then-end-start-clause-none : goal.returns-then-end-start-clause-none
returns-then-end-start-clause-none c = λ spelt bodies h.
    let bytes = c.args.bytes.now in
    let value = c.in_ok-size.size in
    let end = c.in-Ok.end in
    let fits : SFits w64 value = search rules in
    let is : value ≡ pos end = sym (to_z-of_z w64 value fits) ∙ as_length _ end c.in-Ok.ensures.0 c.in-Ok.ensures.1 in
    let begins = subst (λ (z : ℤ). BeginsVarint bytes z c.in_ok-size.start) is c.in_ok-size.ensures.found in
    let b = split_fits bytes spelt bodies c.in_ok-size.start end begins h in
    elim c.then-end-start.branch [
      | then-end-start-via-then-end-start w ↦ omega (arith, b.0, w.if-end-start.true)
      | then-end-start-via-else-end-start+then-bytes-end w ↦ omega (arith, b.1, w.if-bytes-end.true)
    ]

pub returns-clause-found : goal.returns-clause-found
returns-clause-found c =
    let bytes = c.args.bytes.now in
    let value = c.in_ok-size.size in
    let end = c.in-Ok.end in
    let fits : SFits w64 value = search rules in
    let is : value ≡ pos end = sym (to_z-of_z w64 value fits) ∙ as_length _ end c.in-Ok.ensures.0 c.in-Ok.ensures.1 in
    let begins = subst (λ (z : ℤ). BeginsVarint bytes z c.in_ok-size.start) is c.in_ok-size.ensures.found in
    subst (λ (bodies : List ℕ). SplitsHeader bytes (take (end - c.in_ok-size.start) (drop c.in_ok-size.start bytes)) bodies) (sym (take_rest bytes end))
    (split_made bytes c.in_ok-size.start end c.if-end-start.false c.if-bytes-end.false begins)
