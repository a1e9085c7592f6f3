-- Why a run stops.
use Rattle.std.specs.Prelude.{◌≡◌, ◌⊎◌}
use Rattle.values.specs.declared.fault.Fault.{Fault}
use Rattle.values.specs.declared.fault.Fault.TheVariants.{Changed, Overflow, WriteFailed}
use Rattle.pager.specs.Calls.{IsReadFault}
use Rattle.operators_loops.specs.Basis.{Basis}
use Rattle.logical_plan_queries.specs.Answers.{HitsOf, PlannedData}

-- the faults that come from outside: those of reading, and a failed write
abbrev pub IsOutsideFault : Fault → Type 0
IsOutsideFault fault = IsReadFault fault ⊎ (fault ≡ WriteFailed)

-- the faults of a run: these, a changed image, and an operation out of range
abbrev pub IsRunFault : Fault → Type 0
IsRunFault fault = IsOutsideFault fault ⊎ ((fault ≡ Changed) ⊎ (fault ≡ Overflow))

-- why a run stops over a steady source: a fault from outside, or the plan reaches an operation out of range
abbrev pub IsRunCause : Basis → PlannedData → Fault → Type 0
IsRunCause on planned fault = IsOutsideFault fault ⊎ ((fault ≡ Overflow) × HitsOf on.w on.db planned)
