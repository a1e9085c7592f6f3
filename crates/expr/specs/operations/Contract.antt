-- What calls answer.
use Rattle.std.specs.Prelude.{◌≡◌, Option, Some, None, Result, Ok, Err}
use Rattle.values.specs.declared.value.Value.{Value}
use Rattle.expr.specs.declared.operations.operations.Stop.{Stop}
use Rattle.expr.specs.declared.operations.operations.Stop.TheVariants.{Overflow, NoMemory}
use Rattle.values.specs.Datum.{Datum, datum_of}

-- the value exactly where there is one, and a stop for overflow exactly where there is none
abbrev pub ComputesAs : {A B : Type 0} → (A → B) → Result A Stop → Option B → Type 0
ComputesAs f (Ok a) m = m ≡ Some (f a)
ComputesAs f (Err Overflow) m = m ≡ None
ComputesAs f (Err NoMemory) m = Unit {0}

abbrev pub Computes : Result Value Stop → Option Datum → Type 0
Computes = ComputesAs datum_of
