use Rattle.records.proofs.RecordLemmas.{one_record}
use Rattle.records.proofs.laws.one_record.Goals as goal

pub returns : goal.returns
returns c = one_record
