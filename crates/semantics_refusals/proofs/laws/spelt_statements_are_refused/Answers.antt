use Rattle.semantics_refusals.proofs.SpeltLemmas as spelt
use Rattle.semantics_refusals.proofs.laws.spelt_statements_are_refused.Goals as goal

pub returns-clause-having : goal.returns-clause-having
returns-clause-having c = spelt.spelt_having_has_groups

pub returns-clause-columns : goal.returns-clause-columns
returns-clause-columns c = spelt.spelt_unknown_column_is_refused c.names_are_columns.ensures.none

pub returns-clause-ambiguous : goal.returns-clause-ambiguous
returns-clause-ambiguous c = spelt.spelt_ambiguous_column_is_refused c.names_are_columns.ensures.two
