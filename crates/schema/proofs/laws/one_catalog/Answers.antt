use Rattle.schema.proofs.LawLemmas.{one_catalog}
use Rattle.schema.proofs.laws.one_catalog.Goals as goal

pub returns : goal.returns
returns c = one_catalog
