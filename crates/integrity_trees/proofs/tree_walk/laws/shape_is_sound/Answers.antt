use Rattle.integrity_trees.proofs.lemmas.tree_walk.ShapeLemmas.{sound_of_shape}
use Rattle.integrity_trees.proofs.tree_walk.laws.shape_is_sound.Goals as goal

pub returns : goal.returns
returns c = record { sound = λ pages kind levels root few shape. sound_of_shape pages kind levels root few shape }
