use Rattle.std.proofs.Common.{rules, SFits, w64}
use Rattle.std.proofs.lemmas.Int.{to_z-of_z}
use Rattle.records.proofs.VarintLemmas.{ends_third, one_front}
use Rattle.records.proofs.varints.varint.Goals as goal

pub returns-in-len3-up-clause-found : goal.returns-in-len3-up-clause-found
returns-in-len3-up-clause-found c =
    let f : SFits w64 c.cast_signed.result = search rules in
    rw (to_z-of_z w64 c.cast_signed.result f, c.cast_signed.ensures)
    (ends_third c.args.bytes.now c.from-in-len3-up.result c.from-in-len3-up-2.result c.from-in-len3-up-3.result c.in-len3-up.len_at_least c.if-byte-lt128.false c.if-last-lt128.false c.if-last-lt128-2.true
    c.from-in-len3-up.ensures c.from-in-len3-up-2.ensures c.from-in-len3-up-3.ensures)

pub returns-in-len3-up-clause-only : goal.returns-in-len3-up-clause-only
returns-in-len3-up-clause-only c = λ value len begins.
    let f : SFits w64 c.cast_signed.result = search rules in
    let third =
    ends_third c.args.bytes.now c.from-in-len3-up.result c.from-in-len3-up-2.result c.from-in-len3-up-3.result c.in-len3-up.len_at_least c.if-byte-lt128.false c.if-last-lt128.false c.if-last-lt128-2.true
    c.from-in-len3-up.ensures c.from-in-len3-up-2.ensures c.from-in-len3-up-3.ensures in
    let s = one_front c.args.bytes.now _ value 3 len third begins in
    let back = to_z-of_z w64 c.cast_signed.result f in
    cc (s.0, s.1, back, c.cast_signed.ensures)
