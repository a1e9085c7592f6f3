use Rattle.btree.specs.Views.{cell_data}
use Rattle.btree.specs.image.Pages.{pages_seen}
use Rattle.records_searches.proofs.ComingLemmas.{payload_found}
use Rattle.records_searches.proofs.cells.payload_of.Goals as goal

pub returns-clause-bytes : goal.returns-clause-bytes
returns-clause-bytes g c = λ steady values has.
    rw c.ok_or.ensures.value
    (payload_found (pages_seen c.args.pager.now.state) (cell_data c.args.cell.now) values has c.in_ok-payload.field-0 (c.in_ok-payload.ensures.outcome steady))
