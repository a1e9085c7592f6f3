use Rattle.std.specs.Prelude.{false}
use Rattle.semantics.proofs.HitLemmas.{aggregate_is_hit, column_is_hit, from_rows_are_choices, group_is_hit, having_is_hit, on_is_hit, where_is_hit, window_is_hit, window_number_is_hit}
use Rattle.semantics.proofs.laws.reached_is_hit.Goals as goal

pub returns-clause-choices : goal.returns-clause-choices
returns-clause-choices c = λ w db value from. from_rows_are_choices w db value from false

pub returns-clause-on : goal.returns-clause-on
returns-clause-on c = on_is_hit

pub returns-clause-condition : goal.returns-clause-condition
returns-clause-condition c = where_is_hit

pub returns-clause-groups : goal.returns-clause-groups
returns-clause-groups c = group_is_hit

pub returns-clause-aggregates : goal.returns-clause-aggregates
returns-clause-aggregates c = aggregate_is_hit

pub returns-clause-having : goal.returns-clause-having
returns-clause-having c = having_is_hit

pub returns-clause-windows : goal.returns-clause-windows
returns-clause-windows c = window_is_hit

pub returns-clause-window_numbers : goal.returns-clause-window_numbers
returns-clause-window_numbers c = window_number_is_hit

pub returns-clause-columns : goal.returns-clause-columns
returns-clause-columns c = column_is_hit
