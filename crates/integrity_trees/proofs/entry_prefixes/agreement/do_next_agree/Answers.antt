use Rattle.std.proofs.Common.{◌≡◌, ◌∙◌, false, true, sym}
use Rattle.integrity_trees.proofs.entry_prefixes.agreement.do_next_agree.Goals as goal

pub returns-in_default-clause-differ : goal.returns-in_default-clause-differ
returns-in_default-clause-differ c = λ no x y xs ys one other. absurd (c.in_default.ensures.none x xs one)

pub returns-in_default-read-clause-differ : goal.returns-in_default-read-clause-differ
returns-in_default-read-clause-differ c = λ no x y xs ys one other. absurd (c.in_default-read.ensures.none y ys other)

pub returns-clause-agree : goal.returns-clause-agree
returns-clause-agree c = λ yes x y xs ys one other.
    let first = (c.in-Some.ensures.found x xs).0 one in
    let second = (c.in-Some-read.ensures.found y ys).0 other in
    (first.0 ∙ c.are_equal.ensures.0 yes ∙ sym second.0, first.1, second.1)

pub returns-clause-differ : goal.returns-clause-differ
returns-clause-differ c = λ no x y xs ys one other same.
    let first = (c.in-Some.ensures.found x xs).0 one in
    let second = (c.in-Some-read.ensures.found y ys).0 other in
    let t = c.are_equal.ensures.1 (sym first.0 ∙ same ∙ second.0) in
    let e : false ≡ true = sym no ∙ t in cc
