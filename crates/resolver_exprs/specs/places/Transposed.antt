-- What a part may be, or the fault that stands in its place.
use Rattle.std.specs.Prelude.{Option, Some, None, Result, Ok}
use Rattle.values.specs.declared.fault.Fault.{Fault}
use Rattle.semantics_names.specs.Outcome.{also}

abbrev pub transposed : {A : Type 0} → Option (Result A Fault) → Result (Option A) Fault
transposed None = Ok None
transposed (Some outcome) = also Some outcome
