use Rattle.semantics_names.proofs.LimitLemmas.{distinct_is_said, sources_are_distinct}
use Rattle.semantics_names.proofs.laws.names_are_distinct.Goals as goal

pub returns-clause-names : goal.returns-clause-names
returns-clause-names c = distinct_is_said

pub returns-clause-sources : goal.returns-clause-sources
returns-clause-sources c = sources_are_distinct
