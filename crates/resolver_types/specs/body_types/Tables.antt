-- A table of the catalog.
use Rattle.std.specs.Prelude.{ℕ, List, Result, slice_get}
use Rattle.values.specs.declared.fault.Fault.{Fault}
use Rattle.values.specs.declared.fault.Fault.TheVariants.{TypeMismatch}
use Rattle.values.specs.declared.value.Ty.{Ty}
use Rattle.semantics_names.specs.Outcome.{followed, found_or}
use Rattle.semantics_names.specs.Types.{of_width}

-- the one at a place, of so many columns
abbrev pub table_types : List (List Ty) → ℕ → ℕ → Result (List Ty) Fault
table_types tables place width = followed (found_or TypeMismatch (slice_get tables place)) (of_width width)
