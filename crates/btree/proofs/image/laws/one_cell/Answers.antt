use Rattle.btree.proofs.lemmas.image.CellLemmas.{one_cell}
use Rattle.btree.proofs.image.laws.one_cell.Goals as goal

pub returns : goal.returns
returns c = record { same = one_cell }
