use Rattle.records_searches.proofs.ComingLemmas.{more_if}
use Rattle.records_searches.proofs.cells.cell_at.Goals as goal

pub returns-clause-more : goal.returns-clause-more
returns-clause-more c = more_if c.args.cursor.now c.in-Ok.found c.in-Ok.ensures.outcome
