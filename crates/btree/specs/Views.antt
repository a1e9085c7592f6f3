-- What contracts see of a cell.
use Rattle.btree.specs.image.Cell.{CellData, PayloadData}
use Rattle.btree.specs.declared.cell.Cell.{Cell}
use Rattle.btree.specs.declared.cell.Payload.{Payload}

abbrev pub payload_data : Payload → PayloadData
payload_data payload = record { size = payload.size; local = payload.local.now; overflow = payload.overflow }

abbrev pub cell_data : Cell → CellData
cell_data cell = record { rowid = cell.rowid; payload = payload_data cell.payload }
