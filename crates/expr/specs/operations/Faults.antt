-- The faults of a call.
use Rattle.values.specs.declared.fault.Fault.{Fault}
use Rattle.values.specs.declared.fault.Fault.TheVariants as fault
use Rattle.expr.specs.declared.operations.operations.Stop.{Stop}
use Rattle.expr.specs.declared.operations.operations.Stop.TheVariants.{Overflow, NoMemory}

-- the fault that tells of a stop
abbrev pub fault_of : Stop → Fault
fault_of Overflow = fault.Overflow
fault_of NoMemory = fault.NoMemory
