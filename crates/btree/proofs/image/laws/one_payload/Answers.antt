use Rattle.btree.proofs.lemmas.image.ChainLemmas.{one_payload}
use Rattle.btree.proofs.image.laws.one_payload.Goals as goal

pub returns : goal.returns
returns c = record { same = one_payload }
