use Rattle.btree.proofs.lemmas.image.RowidLemmas.{one_rowid}
use Rattle.btree.proofs.image.laws.one_rowid.Goals as goal

pub returns : goal.returns
returns c = record { same = one_rowid }
