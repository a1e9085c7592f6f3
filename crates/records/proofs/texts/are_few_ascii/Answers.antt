use Rattle.std.proofs.Common.{◌<◌, ◌≤◌, ⊎_elim, length, arith}
use Rattle.std.proofs.lemmas.Bool.{cases_lt}
use Rattle.std.proofs.lemmas.List.{get_or_past}
use Rattle.records.proofs.texts.are_few_ascii.Goals as goal

pub returns : goal.returns
returns c = λ yes i.
    ⊎_elim (λ (inside : i < length c.args.bytes.now). c.loop-byte.invariant i (omega arith))
    (λ (past : length c.args.bytes.now ≤ i). omega (arith, get_or_past c.args.bytes.now i 0 past))
    (cases_lt i (length c.args.bytes.now))
