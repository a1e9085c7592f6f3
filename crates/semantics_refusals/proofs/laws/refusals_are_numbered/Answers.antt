use Rattle.semantics_refusals.proofs.RefusalLemmas as refusals
use Rattle.semantics_refusals.proofs.laws.refusals_are_numbered.Goals as goal

pub returns : goal.returns
returns c = refusals.refusals_are_numbered
