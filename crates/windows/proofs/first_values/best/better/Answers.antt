use Rattle.std.proofs.Common.{◌∙◌, is_lt, map, ap, sym, subst}
use Rattle.values.specs.Datum.{datum_of}
use Rattle.windows.specs.first_values.Best.{IsBest}
use Rattle.windows.proofs.lemmas.first_values.BestLemmas.{first_better, second_better}
use Rattle.windows.proofs.first_values.best.better.Goals as goal

pub returns-then-is_lt-clause-first : goal.returns-then-is_lt-clause-first
returns-then-is_lt-clause-first c = λ S T f g.
    let xs = map datum_of c.args.values.now in
    second_better c.args.side xs S T c.in-Some-Some.first c.in-Some-Some.second
    (subst (λ o. IsBest c.args.side xs S o) c.in-Some-Some.is-0 f) (subst (λ o. IsBest c.args.side xs T o) c.in-Some-Some.is-1 g)
    (sym (ap is_lt c.compare_at.ensures) ∙ sym c.is_lt.ensures ∙ c.if-is_lt.true)

pub returns-else-is_lt-clause-first : goal.returns-else-is_lt-clause-first
returns-else-is_lt-clause-first c = λ S T f g.
    let xs = map datum_of c.args.values.now in
    first_better c.args.side xs S T c.in-Some-Some.first c.in-Some-Some.second
    (subst (λ o. IsBest c.args.side xs S o) c.in-Some-Some.is-0 f) (subst (λ o. IsBest c.args.side xs T o) c.in-Some-Some.is-1 g)
    (sym (ap is_lt c.compare_at.ensures) ∙ sym c.is_lt.ensures ∙ c.if-is_lt.false)
