use Rattle.semantics_names.proofs.SourceLemmas.{name_is_source, unknown_source_is_none}
use Rattle.semantics_names.proofs.laws.names_are_sources.Goals as goal

pub returns-clause-first : goal.returns-clause-first
returns-clause-first c = name_is_source

pub returns-clause-none : goal.returns-clause-none
returns-clause-none c = unknown_source_is_none
