use Rattle.std.proofs.Common.{◌*◌, ◌%◌, ◌++◌, ◌∷◌, [], ◌≤◌, ◌^◌, ◌+◌, ℕ, take, arith, rules, sym, ap, ◌∙◌, SFits, w64}
use Rattle.std.proofs.lemmas.Int.{to_z-of_z}
use Rattle.std.proofs.lemmas.List.{take_more, take_all}
use Rattle.std.proofs.lemmas.List.Elements.{All-more, All-same}
use Rattle.std.proofs.lemmas.Grind.{pow_more}
use Rattle.std.proofs.Math.Nat.{pow-le-pow_right}
use Rattle.records.proofs.VarintLemmas.{one_front, none_inside_front, ends_short, ends_long, seven_bits-push}
use Rattle.records.specs.Varint.{seven_bits, GoesOn, EndsInside}
use Rattle.records.proofs.varints.varint_by_bytes.Goals as goal

pub returns-then-read-eq8-clause-found : goal.returns-then-read-eq8-clause-found
returns-then-read-eq8-clause-found c =
    let l = c.loop-read.invariant in
    let f : SFits w64 c.cast_signed.result = search rules in
    rw (to_z-of_z w64 c.cast_signed.result f, c.cast_signed.ensures)
    (ends_long c.args.bytes.now c.loop-read.read c.loop-read.bits c.from-byte.result c.if-read-eq8.true c.loop-read-test.true c.from-byte.ensures l.go_on l.bits)

pub returns-then-read-eq8-clause-only : goal.returns-then-read-eq8-clause-only
returns-then-read-eq8-clause-only c = λ value len begins.
    let l = c.loop-read.invariant in
    let f : SFits w64 c.cast_signed.result = search rules in
    let long =
    ends_long c.args.bytes.now c.loop-read.read c.loop-read.bits c.from-byte.result c.if-read-eq8.true c.loop-read-test.true c.from-byte.ensures l.go_on l.bits in
    let s = one_front c.args.bytes.now _ value 9 len long begins in
    let back = to_z-of_z w64 c.cast_signed.result f in
    cc (s.0, s.1, back, c.cast_signed.ensures)

pub overflow_mul-bits-in-loop-read : goal.overflow_mul-bits-in-loop-read
overflow_mul-bits-in-loop-read c =
    let low : c.loop-read.read ≤ 7 = omega arith in
    let cap : 128 ^ c.loop-read.read ≤ 128 ^ 7 = pow-le-pow_right (omega arith) low in search rules

pub overflow_add-bits-in-loop-read : goal.overflow_add-bits-in-loop-read
overflow_add-bits-in-loop-read c =
    let low : c.loop-read.read ≤ 7 = omega arith in
    let cap : 128 ^ c.loop-read.read ≤ 128 ^ 7 = pow-le-pow_right (omega arith) low in search rules

pub returns-then-byte-lt128-clause-found : goal.returns-then-byte-lt128-clause-found
returns-then-byte-lt128-clause-found c =
    let l = c.loop-read.invariant in
    let r = c.cast_signed-then-byte-lt128 in
    let f : SFits w64 r.result = search rules in
    rw (to_z-of_z w64 r.result f, r.ensures)
    (ends_short c.args.bytes.now c.loop-read.read c.loop-read.bits c.from-byte.result (omega arith) c.loop-read-test.true c.from-byte.ensures c.if-byte-lt128.true l.go_on l.bits)

pub returns-then-byte-lt128-clause-only : goal.returns-then-byte-lt128-clause-only
returns-then-byte-lt128-clause-only c = λ value len begins.
    let l = c.loop-read.invariant in
    let r = c.cast_signed-then-byte-lt128 in
    let f : SFits w64 r.result = search rules in
    let short =
    ends_short c.args.bytes.now c.loop-read.read c.loop-read.bits c.from-byte.result (omega arith) c.loop-read-test.true c.from-byte.ensures c.if-byte-lt128.true l.go_on l.bits in
    let s = one_front c.args.bytes.now _ value (c.loop-read.read + 1) len short begins in
    let back = to_z-of_z w64 r.result f in
    cc (s.0, s.1, back, r.ensures)

pub loop-read-preserved : goal.loop-read-preserved
loop-read-preserved c =
    let l = c.loop-read.invariant in
    let read = c.loop-read.read in
    let bytes = c.args.bytes.now in
    record {
      at_most = omega arith;
      bits = ap (λ (b : ℕ). b * 128 + c.from-byte.result % 128) l.bits ∙ sym (ap seven_bits (take_more bytes read 0 c.loop-read-test.true ∙ ap (λ (b : ℕ). take read bytes ++ b ∷ []) (sym c.from-byte.ensures)) ∙ seven_bits-push (take read bytes) c.from-byte.result);
      fits = rw (pow_more 128 read) (omega (arith, l.fits));
      go_on = All-more GoesOn bytes read 0 c.loop-read-test.true l.go_on (rw (← c.from-byte.ensures) c.if-byte-lt128.false);
    }

pub returns-clause-only : goal.returns-clause-only
returns-clause-only c = λ value len begins.
    let bytes = c.args.bytes.now in
    let l = c.loop-read.invariant in
    let all = All-same GoesOn bytes (take c.loop-read.read bytes) (sym (take_all c.loop-read.read bytes c.loop-read-test.false)) l.go_on in
    let cut : EndsInside bytes = record { go_on = all; short = omega (arith, l.at_most) } in
    absurd (none_inside_front bytes value len begins cut)
