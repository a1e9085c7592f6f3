use Rattle.semantics.proofs.TypedLemmas.{Permits-typed, answers_typed, body_typed, from_typed, from_width-is}
use Rattle.semantics.proofs.laws.values_have_types.Goals as goal

pub returns-clause-permitted : goal.returns-clause-permitted
returns-clause-permitted c = Permits-typed

pub returns-clause-body : goal.returns-clause-body
returns-clause-body c = λ w db catalog body types stand_in fits has. body_typed w stand_in db catalog fits body types has

pub returns-clause-from : goal.returns-clause-from
returns-clause-from c = λ w db catalog value answers from types stand_in fits has.
    (from_width-is w stand_in db catalog fits answers from types has, from_typed w stand_in db catalog fits value answers from types has)

pub returns-clause-answers : goal.returns-clause-answers
returns-clause-answers c = λ w db catalog from types stand_in fits has. answers_typed w stand_in db catalog fits from types has
