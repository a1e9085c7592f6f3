use Rattle.std.proofs.Common.{refl}
use Rattle.operators_runs.proofs.execution.rows.waiting.Goals as goal

pub returns : goal.returns
returns c = record { given = λ pages sources. (refl, refl); over = λ sources over. over; ahead = λ pages sources on. refl }
