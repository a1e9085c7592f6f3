use Rattle.std.proofs.Common.{◌∙◌, ◌++◌, All, List, ap, map, rules, subst, sym}
use Rattle.expr.specs.Conjuncts.{conjuncts}
use Rattle.expr.specs.declared.tree.Expr.{Expr}
use Rattle.expr.specs.View.{term}
use Rattle.expr.specs.Names.{IsAnswered}
use Rattle.logical_plan_terms.specs.Over.{IsOver}
use Rattle.logical_plan_terms.proofs.ConjunctLemmas.{conjuncts_answered, conjuncts_stand}
use Rattle.logical_plan_terms.proofs.OverLemmas.{told}
use Rattle.logical_plan_terms.proofs.conditions.conjuncts_over.Goals as goal

pub returns-clause-stand : goal.returns-clause-stand
returns-clause-stand c =
    conjuncts_stand c.args.read.now c.args.inner (term c.args.condition.now) (map term c.conjuncts.new.out.items)
    (told c.in_ok-is_over.field-0 (IsOver c.args.read.now c.args.inner (term c.args.condition.now)) (search rules) c.in_ok-is_over.ensures)
    (c.in_ok-conjuncts.ensures ∙ ap (λ (es : List Expr). map term es ++ conjuncts (term c.in_ok-e.e)) c.new-es.ensures.items
    ∙ ap conjuncts c.in_ok-e.ensures)

pub returns-clause-answered : goal.returns-clause-answered
returns-clause-answered c =
    subst (All IsAnswered)
    (sym (c.in_ok-conjuncts.ensures ∙ ap (λ (es : List Expr). map term es ++ conjuncts (term c.in_ok-e.e)) c.new-es.ensures.items ∙ ap conjuncts c.in_ok-e.ensures))
    (conjuncts_answered c.args.read.now (term c.args.condition.now))
