use Rattle.std.proofs.Common.{rules}
use Rattle.expr.proofs.lemmas.value_sets.NumberLemmas.{above_all, among_none, below_all}
use Rattle.expr.proofs.value_sets.numbers.spans.Goals as goal

pub returns-then-is_empty : goal.returns-then-is_empty
returns-then-is_empty c = λ _ values are. among_none values c.args.numbers.now c.args.number are (search rules)

pub returns-then-number-numbers : goal.returns-then-number-numbers
returns-then-number-numbers c = λ _ values are. below_all values c.args.numbers.now c.args.number are (search rules)

pub returns-then-numbers-number : goal.returns-then-numbers-number
returns-then-numbers-number c = λ _ values are. above_all values c.args.numbers.now c.args.number are (search rules) (search rules)
