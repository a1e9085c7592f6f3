use Rattle.semantics.proofs.ScanLemmas.{unordered_permitted}
use Rattle.semantics.proofs.laws.order_is_free.Goals as goal

pub returns : goal.returns
returns c = unordered_permitted
