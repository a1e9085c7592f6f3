use Rattle.btree.proofs.lemmas.image.TableLemmas.{unbroken}
use Rattle.btree.proofs.image.laws.no_sound_table_is_broken.Goals as goal

pub returns : goal.returns
returns c = record { unbroken = unbroken }
