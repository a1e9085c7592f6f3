use Rattle.semantics_refusals.proofs.TypeExampleLemmas as examples
use Rattle.semantics_refusals.proofs.laws.types_are_worked.Goals as goal

pub returns-clause-clashes : goal.returns-clause-clashes
returns-clause-clashes c = examples.clashes_are_found

pub returns-clause-places : goal.returns-clause-places
returns-clause-places c = examples.places_misfit

pub returns-clause-own : goal.returns-clause-own
returns-clause-own c = examples.own_types_are_least
