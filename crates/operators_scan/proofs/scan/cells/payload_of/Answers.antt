use Rattle.btree.specs.image.Pages.{pages_seen}
use Rattle.btree.specs.Views.{payload_data}
use Rattle.operators_scan.proofs.lemmas.scan.CellLemmas.{payload_found}
use Rattle.operators_scan.proofs.scan.cells.payload_of.Goals as goal

pub returns-clause-bytes : goal.returns-clause-bytes
returns-clause-bytes g c = λ steady bytes has.
    rw c.ok_or.ensures.value
    (payload_found (pages_seen c.args.pager.now.state) (payload_data c.args.cell.now.payload) bytes has c.in_ok-payload.field-0 (c.in_ok-payload.ensures.outcome steady))
