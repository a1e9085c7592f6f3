use Rattle.std.proofs.Common.{◌<◌, ◌≤◌, ⊎_elim, length, refl, arith}
use Rattle.std.proofs.lemmas.Bool.{cases_lt}
use Rattle.std.proofs.lemmas.List.{get_or_past}
use Rattle.records.proofs.texts.are_ascii.Goals as goal

pub loop-at-preserved : goal.loop-at-preserved
loop-at-preserved c = record {
  room = omega arith;
  ascii = λ i within. ⊎_elim (λ (before : i < c.loop-at.at). c.loop-at.invariant.ascii i before)
      (λ (from : c.loop-at.at ≤ i). c.if-not-is_ascii_at.ensures refl i from within)
      (cases_lt i c.loop-at.at);
}

pub returns : goal.returns
returns c = λ yes i.
    let bytes = c.args.bytes.now in
    ⊎_elim (λ (inside : i < length bytes).
    ⊎_elim (λ (before : i < c.loop-at.at). c.loop-at.invariant.ascii i before)
    (λ (from : c.loop-at.at ≤ i). c.is_ascii_at-2.ensures yes i (omega arith) (omega arith))
    (cases_lt i c.loop-at.at))
    (λ (past : length bytes ≤ i). omega (arith, get_or_past bytes i 0 past))
    (cases_lt i (length bytes))
