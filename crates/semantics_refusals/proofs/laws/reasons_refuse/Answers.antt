use Rattle.semantics_refusals.proofs.BareRefusedLemmas as groups
use Rattle.semantics_refusals.proofs.LimitLemmas as limits
use Rattle.semantics_refusals.proofs.MistypedFaultLemmas as faults
use Rattle.semantics_refusals.proofs.MistypedQueryLemmas as types
use Rattle.semantics_refusals.proofs.RepeatedLemmas as names
use Rattle.semantics_refusals.proofs.UnevenLemmas as numbers
use Rattle.semantics_refusals.proofs.UnknownColumnLemmas as columns
use Rattle.semantics_refusals.proofs.UnknownSourceLemmas as sources
use Rattle.semantics_refusals.proofs.WindowLemmas as windows
use Rattle.semantics_refusals.proofs.WrongPlaceLemmas as places
use Rattle.semantics_refusals.proofs.laws.reasons_refuse.Goals as goal

pub returns-clause-sources : goal.returns-clause-sources
returns-clause-sources c = sources.unknown_source_is_refused

pub returns-clause-columns : goal.returns-clause-columns
returns-clause-columns c = columns.unknown_column_is_refused c.names_are_columns.ensures.none

pub returns-clause-ambiguous : goal.returns-clause-ambiguous
returns-clause-ambiguous c = columns.ambiguous_column_is_refused c.names_are_columns.ensures.two

pub returns-clause-uneven : goal.returns-clause-uneven
returns-clause-uneven c = numbers.uneven_is_refused

pub returns-clause-repeated : goal.returns-clause-repeated
returns-clause-repeated c = names.repeated_is_refused c.names_are_distinct.ensures.names

pub returns-clause-limit : goal.returns-clause-limit
returns-clause-limit c = limits.beyond_limit_is_refused

pub returns-clause-frame : goal.returns-clause-frame
returns-clause-frame c = windows.bad_frame_is_refused c.places_are_kept.ensures.scalar c.typed_is_taken.ensures

pub returns-clause-place : goal.returns-clause-place
returns-clause-place c = places.wrong_place_is_refused c.places_are_kept.ensures.scalar

pub returns-clause-bare : goal.returns-clause-bare
returns-clause-bare c = groups.bare_column_is_refused c.same_is_equal.ensures

pub returns-clause-mistyped : goal.returns-clause-mistyped
returns-clause-mistyped c = types.mistyped_is_refused c.typed_is_taken.ensures

pub returns-clause-mismatch : goal.returns-clause-mismatch
returns-clause-mismatch c = faults.mistyped_is_mismatch c.typed_is_taken.ensures
