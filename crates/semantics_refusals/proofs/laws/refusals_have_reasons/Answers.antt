use Rattle.semantics_refusals.proofs.RefusalLemmas as refusals
use Rattle.semantics_refusals.proofs.laws.refusals_have_reasons.Goals as goal

pub returns : goal.returns
returns c = refusals.refusals_have_reasons (c.names_are_columns.ensures.none, c.names_are_columns.ensures.two, c.names_are_distinct.ensures.names, c.same_is_equal.ensures, c.names_are_columns.ensures.one, c.places_are_kept.ensures.scalar)
