-- The worked queries, computed.
use Rattle.std.proofs.Common.{refl}
use Rattle.expr.specs.operations.Operations.{comparison, condition, is_null, same, settle, test_of, truth}
use Rattle.values.specs.Datum.{Datum}
use Rattle.operators_runs.specs.inner_rows.WorkExamples.{AskFor, worked_pages}

pub pages_worked : (w : Datum) → AskFor w worked_pages
unfolding settle same is_null truth condition test_of comparison
pages_worked w = (refl, (refl, (refl, (refl, (refl, tt)))))
