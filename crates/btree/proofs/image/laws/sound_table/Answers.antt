use Rattle.btree.proofs.lemmas.image.TableLemmas.{sound_rows}
use Rattle.btree.proofs.image.laws.sound_table.Goals as goal

pub returns : goal.returns
returns c = record { rows = sound_rows }
