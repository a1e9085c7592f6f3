use Rattle.std.proofs.Common.{◌≤◌, List, drop, length}
use Rattle.values.specs.Datum.{Datum}
use Rattle.records.specs.Fields.{AreUnread}
use Rattle.records.proofs.fields.FieldReader.skip.Given as goal

abbrev pub invariant-loop-passed : goal.invariant-loop-passed
invariant-loop-passed l = (values : List Datum) → AreUnread l.fn.self values → (l._passed ≤ length values) × AreUnread l.self (drop l._passed values)
