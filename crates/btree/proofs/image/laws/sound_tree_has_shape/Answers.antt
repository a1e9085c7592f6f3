use Rattle.btree.proofs.lemmas.image.ShapeLemmas.{sound_shape}
use Rattle.btree.proofs.image.laws.sound_tree_has_shape.Goals as goal

pub returns : goal.returns
returns c = record { shape = sound_shape }
