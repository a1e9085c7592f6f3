use Rattle.std.proofs.Common.{List, [], drop, length, refl, arith, ap, subst}
use Rattle.values.specs.Datum.{Datum}
use Rattle.records.specs.Fields.{AreUnread}
use Rattle.std.proofs.lemmas.List.{drop-drop, length-drop}
use Rattle.records.proofs.fields.FieldReader.skip.Goals as goal

pub returns-then-not-skip_one-clause-none : goal.returns-then-not-skip_one-clause-none
returns-then-not-skip_one-clause-none c = λ no values unread.
    let here = c.loop-passed.invariant values unread in
    let none = c.if-not-skip_one.ensures.none refl (drop c.loop-passed._passed values) here.1 in
    let left : AreUnread c.loop-passed.self [] = subst (λ (l : List Datum). AreUnread c.loop-passed.self l) none here.1 in (
      omega (arith, ap length none, length-drop c.loop-passed._passed values, here.0, c.loop-passed-test.true),
      rw (c.if-not-skip_one.ensures.stays refl) left,
    )

pub loop-passed-preserved : goal.loop-passed-preserved
loop-passed-preserved c = λ values unread.
    let here = c.loop-passed.invariant values unread in
    let next = c.if-not-skip_one.ensures.past refl (drop c.loop-passed._passed values) here.1 in (
      omega (arith, next.0, length-drop c.loop-passed._passed values, here.0),
      rw (drop-drop 1 c.loop-passed._passed values) at next.1,
    )
