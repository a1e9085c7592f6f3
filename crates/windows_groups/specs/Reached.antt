-- What calls over windows reach on rows. (Window Functions)
use Rattle.std.specs.Prelude.{Any, List, flat_map}
use Rattle.values.specs.Datum.{Datum}
use Rattle.values.specs.Row.{Row}
use Rattle.expr.specs.Meaning.{Overflows, eval}
use Rattle.semantics.specs.Hits.{CallLeaves, call_terms}
use Rattle.semantics.specs.Query.{WindowCall}

-- an expression of one of these calls reaches an operation out of range on a row
abbrev pub CallsReach : List WindowCall → Row → Type 0
CallsReach calls row = Any (λ t. Overflows t row) (flat_map call_terms calls)

-- the number of one of these calls leaves 64 bits, at some of these rows
abbrev pub SomeLeaves : Datum → List WindowCall → List Row → Type 0
SomeLeaves w calls rows = Any (CallLeaves (eval w) rows) calls
