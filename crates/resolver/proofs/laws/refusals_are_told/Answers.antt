use Rattle.resolver.proofs.RefusalLemmas.{compound_widths, inner_width, item_widths, repeated_source, using_ambiguous, using_unknown}
use Rattle.resolver.proofs.laws.refusals_are_told.Goals as goal

pub returns-clause-items : goal.returns-clause-items
returns-clause-items c = item_widths

pub returns-clause-compounds : goal.returns-clause-compounds
returns-clause-compounds c = compound_widths

pub returns-clause-inner : goal.returns-clause-inner
returns-clause-inner c = inner_width

pub returns-clause-sources : goal.returns-clause-sources
returns-clause-sources c = repeated_source

pub returns-clause-unknown : goal.returns-clause-unknown
returns-clause-unknown c = using_unknown c.names_are_columns.ensures.none

pub returns-clause-two : goal.returns-clause-two
returns-clause-two c = using_ambiguous c.names_are_columns.ensures.two
