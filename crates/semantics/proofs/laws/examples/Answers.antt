use Rattle.semantics.proofs.ExampleLemmas.{compounds_show, groups_show, inner_show, joins_show, sums_typed, windows_show}
use Rattle.semantics.proofs.laws.examples.Goals as goal

pub returns-clause-joins : goal.returns-clause-joins
returns-clause-joins c = joins_show

pub returns-clause-groups : goal.returns-clause-groups
returns-clause-groups c = groups_show

pub returns-clause-windows : goal.returns-clause-windows
returns-clause-windows c = windows_show

pub returns-clause-compounds : goal.returns-clause-compounds
returns-clause-compounds c = compounds_show

pub returns-clause-inner_queries : goal.returns-clause-inner_queries
returns-clause-inner_queries c = inner_show

pub returns-clause-typed : goal.returns-clause-typed
returns-clause-typed c = sums_typed
