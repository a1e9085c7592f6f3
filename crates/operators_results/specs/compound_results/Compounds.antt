-- The answer of SELECTs that are joined. (SELECT, "Compound Select Statements", "The ORDER BY clause" and "The LIMIT clause")
use Rattle.std.specs.Prelude.{◌≡◌, ◌⊎◌}
use Rattle.values.specs.declared.fault.Fault.{Fault}
use Rattle.values.specs.declared.fault.Fault.TheVariants.{Overflow}
use Rattle.pager.specs.Calls.{IsReadFault}
use Rattle.operators_loops.specs.Basis.{Basis}
use Rattle.logical_plan.specs.answers.Arms.{ArmData, ArmHits, ArmsData, ArmsHit}

-- why a fault comes over a steady source: reading failed, or the arm or one of the arms reaches an operation out of range
abbrev pub IsArmCause : Basis → ArmData → Fault → Type 0
IsArmCause on arm fault = IsReadFault fault ⊎ ((fault ≡ Overflow) × ArmHits on.w on.db arm)

abbrev pub IsArmsCause : Basis → ArmsData → Fault → Type 0
IsArmsCause on arms fault = IsReadFault fault ⊎ ((fault ≡ Overflow) × ArmsHit on.w on.db arms)
