use Rattle.operators_runs.proofs.lemmas.inner_rows.KeptLemmas as lemma
use Rattle.operators_runs.proofs.inner_rows.laws.kept_are_stored.Goals as goal

pub returns : goal.returns
returns c = lemma.kept_are_stored
