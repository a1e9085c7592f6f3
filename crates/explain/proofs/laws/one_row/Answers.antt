use Rattle.explain.proofs.RowLemmas.{same_text, same_row}
use Rattle.explain.proofs.laws.one_row.Goals as goal

pub returns-clause-text : goal.returns-clause-text
returns-clause-text c = same_text

pub returns-clause-row : goal.returns-clause-row
returns-clause-row c = same_row
