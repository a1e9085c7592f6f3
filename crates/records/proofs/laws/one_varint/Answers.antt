use Rattle.records.proofs.VarintLemmas.{one_varint}
use Rattle.records.proofs.laws.one_varint.Goals as goal

pub returns : goal.returns
returns c = λ a x b y v w p q e. let same = one_varint a x b y v w p q e in (same.varint, same.value)
