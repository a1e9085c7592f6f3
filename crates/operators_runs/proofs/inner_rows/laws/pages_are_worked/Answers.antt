use Rattle.operators_runs.proofs.lemmas.inner_rows.WorkExampleLemmas.{pages_worked}
use Rattle.operators_runs.proofs.inner_rows.laws.pages_are_worked.Goals as goal

pub returns : goal.returns
returns c = pages_worked
