use Rattle.semantics_refusals.proofs.AlikeLemmas as alike
use Rattle.semantics_refusals.proofs.laws.alike_expressions_are_grouped.Goals as goal

pub returns : goal.returns
returns c = alike.alike_is_of_group_by c.names_are_columns.ensures.one
