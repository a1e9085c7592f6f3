use Rattle.btree.proofs.lemmas.image.TableLemmas.{rows_of}
use Rattle.btree.proofs.image.laws.places_of_table.Goals as goal

pub returns : goal.returns
returns c = record { rows = λ pages root levels shape order. rows_of pages root levels shape order }
