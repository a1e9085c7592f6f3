-- Whether something is handed out, or the fault that stands in its place.
use Rattle.std.specs.Prelude.{Result}
use Rattle.values.specs.declared.fault.Fault.{Fault}
use Rattle.semantics_names.specs.Outcome.{also}

abbrev pub passed : {A : Type 0} → Result A Fault → Result (Unit {0}) Fault
passed = also (λ a. tt)
