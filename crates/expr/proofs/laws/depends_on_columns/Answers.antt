use Rattle.expr.proofs.ColumnLemmas.{depends_on_columns}
use Rattle.expr.proofs.laws.depends_on_columns.Goals as goal

pub returns : goal.returns
returns c = depends_on_columns
