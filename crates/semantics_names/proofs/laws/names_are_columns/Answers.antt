use Rattle.semantics_names.proofs.ScopeLemmas.{ambiguous_is_two, name_is_column, unknown_is_none}
use Rattle.semantics_names.proofs.laws.names_are_columns.Goals as goal

pub returns-clause-one : goal.returns-clause-one
returns-clause-one c = name_is_column

pub returns-clause-none : goal.returns-clause-none
returns-clause-none c = unknown_is_none

pub returns-clause-two : goal.returns-clause-two
returns-clause-two c = ambiguous_is_two
