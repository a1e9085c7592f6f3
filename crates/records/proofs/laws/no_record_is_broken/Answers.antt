use Rattle.records.proofs.RecordLemmas.{not_broken}
use Rattle.records.proofs.laws.no_record_is_broken.Goals as goal

pub returns : goal.returns
returns c = not_broken
