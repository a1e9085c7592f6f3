use Rattle.std.proofs.Common.{◌≡◌, ◌∙◌, ◌-◌, ℕ, ap, arith, get_or}
use Rattle.integrity_indexes.proofs.lemmas.entry_batches.CodeLemmas.{trimmed_at}
use Rattle.integrity_indexes.proofs.entry_batches.codes.significant.Goals as goal

pub returns-else-bytes-size-eq0-clause-trimmed : goal.returns-else-bytes-size-eq0-clause-trimmed
returns-else-bytes-size-eq0-clause-trimmed c =
    trimmed_at c.args.bytes.now c.loop-size.size c.loop-size.invariant.most c.loop-size.invariant.zeros
    (λ k e zero. let last : c.loop-size.size - 1 ≡ k = omega (arith, e) in
    c.if-bytes-size-eq0.false (ap (λ (m : ℕ). get_or c.args.bytes.now m 0) last ∙ zero))

pub returns-after-loop-size-clause-trimmed : goal.returns-after-loop-size-clause-trimmed
returns-after-loop-size-clause-trimmed c =
    trimmed_at c.args.bytes.now c.loop-size.size c.loop-size.invariant.most c.loop-size.invariant.zeros
    (λ k e zero. let none = c.loop-size-test.false in absurd (omega (arith, e, none)))
