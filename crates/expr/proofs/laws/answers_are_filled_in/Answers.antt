use Rattle.expr.proofs.FilledLemmas.{answers_are_bags, filled_has_type, filled_is_answered, fills_conjuncts}
use Rattle.expr.proofs.laws.answers_are_filled_in.Goals as goal

pub returns-clause-conjuncts : goal.returns-clause-conjuncts
returns-clause-conjuncts c = fills_conjuncts

pub returns-clause-bags : goal.returns-clause-bags
returns-clause-bags c = answers_are_bags

pub returns-clause-types : goal.returns-clause-types
returns-clause-types c = filled_has_type

pub returns-clause-none : goal.returns-clause-none
returns-clause-none c = filled_is_answered
