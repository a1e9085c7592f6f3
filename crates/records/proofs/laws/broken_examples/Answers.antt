use Rattle.records.proofs.Examples.{past_the_end, one_byte_less, type_ten, type_seven, not_utf8}
use Rattle.records.proofs.laws.broken_examples.Goals as goal

pub returns-clause-past_the_end : goal.returns-clause-past_the_end
returns-clause-past_the_end c = past_the_end

pub returns-clause-one_byte_less : goal.returns-clause-one_byte_less
returns-clause-one_byte_less c = one_byte_less

pub returns-clause-type_ten : goal.returns-clause-type_ten
returns-clause-type_ten c = type_ten

pub returns-clause-type_seven : goal.returns-clause-type_seven
returns-clause-type_seven c = type_seven

pub returns-clause-not_utf8 : goal.returns-clause-not_utf8
returns-clause-not_utf8 c = not_utf8
