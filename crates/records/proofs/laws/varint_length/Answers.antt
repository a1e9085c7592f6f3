use Rattle.std.proofs.Common.{arith}
use Rattle.records.proofs.VarintLemmas.{shape}
use Rattle.records.proofs.laws.varint_length.Goals as goal

pub returns : goal.returns
returns c = λ bytes value is. let s = shape bytes value is in (omega arith, s.most)
