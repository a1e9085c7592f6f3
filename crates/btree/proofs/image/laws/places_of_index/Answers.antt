use Rattle.btree.proofs.lemmas.image.EntryLemmas.{entries_of}
use Rattle.btree.proofs.image.laws.places_of_index.Goals as goal

pub returns : goal.returns
returns c = record { entries = λ pages before root levels strict shape order. entries_of pages before strict root levels shape order }
