use Rattle.btree.proofs.lemmas.image.NamedLemmas.{named_places}
use Rattle.btree.proofs.image.laws.places_of_tree.Goals as goal

pub returns : goal.returns
returns c = record { places = λ pages kind root levels shape named. named_places pages kind root named levels shape }
