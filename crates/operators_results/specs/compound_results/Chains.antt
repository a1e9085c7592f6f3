-- SELECTs of which each gives all of its rows, one after the other: UNION ALL joins them, and none is DISTINCT. (SELECT, "Compound
-- Select Statements")
use Rattle.std.specs.Prelude.{◌≡◌, false}
use Rattle.semantics.specs.Query.{union_all}
use Rattle.logical_plan.specs.answers.Arms.{ArmsData, joined, one}

abbrev pub AreAll : ArmsData → Type 0
AreAll (one arm) = arm.distinct ≡ false
AreAll (joined left operator arm) = (arm.distinct ≡ false) × (operator ≡ union_all) × AreAll left
