use Rattle.std.proofs.Common.{◌≡◌, ◌∙◌, Bool, true, false, None, Option, Some, ap, map, refl, rules, sym, unwrap_or}
use Rattle.values.specs.Datum.{datum_of}
use Rattle.expr.specs.Conjuncts.{keeps}
use Rattle.expr.specs.View.{term}
use Rattle.expr.specs.operations.Operations.{condition, truth}
use Rattle.expr.proofs.AnswerLemmas.{for_every}
use Rattle.expr.proofs.conditions.is_true.Goals as goal

keeps_known : (b : Bool) → keeps (truth (condition (Some b))) ≡ b
unfolding truth condition
keeps_known true = refl
keeps_known false = refl

keeps_found : (o : Option Bool) → keeps (truth (condition o)) ≡ unwrap_or o false
unfolding truth condition
keeps_found (Some true) = refl
keeps_found (Some false) = refl
keeps_found None = refl

pub returns-in-Some-clause-value : goal.returns-in-Some-clause-value
returns-in-Some-clause-value c = λ w.
    ap (λ v. keeps (truth v)) (for_every (term c.args.condition.now) (map datum_of c.args.row.now) (condition (Some c.in-Some.holds)) c.in-Some.ensures w)
    ∙ keeps_known c.in-Some.holds

pub returns-in-Some-number_among-clause-value : goal.returns-in-Some-number_among-clause-value
returns-in-Some-number_among-clause-value c = λ w.
    let found = c.in-Some-number_among.found in
    let told : c.unwrap_or.result ≡ unwrap_or found false = search rules in
    ap (λ v. keeps (truth v)) (for_every (term c.args.condition.now) (map datum_of c.args.row.now) (condition found) c.in-Some-number_among.ensures w)
    ∙ keeps_found found ∙ sym told
