use Rattle.std.proofs.Common.{◌≡◌, ◌∙◌, ◌+ℤ◌, ◌-ℤ◌, if◌then◌else◌, ap, sym, arith, to_z, of_z}
use Rattle.std.specs.Int.{w128}
use Rattle.std.specs.Ordering.{int_cmp}
use Rattle.std.proofs.lemmas.Int.{ints}
use Rattle.resolver_terms.specs.SelectView.{direction_of}
use Rattle.windows.proofs.lemmas.frames.EdgeLemmas.{numbers}
use Rattle.windows.proofs.frames.edges.compare_numbers.Goals as goal

pub returns-then-descending : goal.returns-then-descending
returns-then-descending c = λ d same.
    let m = c.args.number in
    let n = c.args.here in
    let by = c.args.by in
    let edge : to_z w128 (of_z w128 (to_z w128 (of_z w128 c.from-here.result) -ℤ to_z w128 (of_z w128 by))) ≡ n -ℤ by = omega (arith, ints) in
    let number : to_z w128 (of_z w128 c.from-number.result) ≡ m = omega (arith, ints) in
    c.cmp.ensures ∙ (λ i. int_cmp (edge i) (number i)) ∙ sym (ap (λ b. if b then int_cmp (n -ℤ by) m else int_cmp m (n +ℤ by)) c.if-descending.true)
    ∙ numbers c.args.descending (direction_of d) m n by same

pub returns-else-descending : goal.returns-else-descending
returns-else-descending c = λ d same.
    let m = c.args.number in
    let n = c.args.here in
    let by = c.args.by in
    let edge : to_z w128 (of_z w128 (to_z w128 (of_z w128 c.from-here.result) +ℤ to_z w128 (of_z w128 by))) ≡ n +ℤ by = omega (arith, ints) in
    let number : to_z w128 (of_z w128 c.from-number.result) ≡ m = omega (arith, ints) in
    c.cmp-else-descending.ensures ∙ (λ i. int_cmp (number i) (edge i)) ∙ sym (ap (λ b. if b then int_cmp (n -ℤ by) m else int_cmp m (n +ℤ by)) c.if-descending.false)
    ∙ numbers c.args.descending (direction_of d) m n by same
