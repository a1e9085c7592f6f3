use Rattle.btree.proofs.lemmas.image.WorkedChain.{chain_bytes, no_shorter}
use Rattle.btree.proofs.image.laws.example_chain.Goals as goal

pub returns : goal.returns
returns c = record { bytes = chain_bytes; no_shorter = no_shorter }
