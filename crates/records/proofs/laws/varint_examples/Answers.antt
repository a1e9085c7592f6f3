use Rattle.records.proofs.Examples.{two_bytes, padded, nine_bytes, cut}
use Rattle.records.proofs.laws.varint_examples.Goals as goal

pub returns-clause-two_bytes : goal.returns-clause-two_bytes
returns-clause-two_bytes c = two_bytes

pub returns-clause-padded : goal.returns-clause-padded
returns-clause-padded c = padded

pub returns-clause-nine_bytes : goal.returns-clause-nine_bytes
returns-clause-nine_bytes c = nine_bytes

pub returns-clause-cut : goal.returns-clause-cut
returns-clause-cut c = cut
