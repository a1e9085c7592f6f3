-- A key of ORDER BY. (SELECT, "The ORDER BY clause")
use Rattle.std.specs.Prelude.{Bool, true, false, List, Option, Some, None, Result, Err, slice_get}
use Rattle.values.specs.declared.fault.Fault.{Fault}
use Rattle.values.specs.declared.fault.Fault.TheVariants.{WrongPlace}
use Rattle.values.specs.declared.value.Ty.{Ty}
use Rattle.resolver_types.specs.body_types.Rows.{RowData}
use Rattle.semantics.specs.Query.{KeyTerm}
use Rattle.semantics_names.specs.Types.{term_type, typed}

-- where expressions stand over this row, if there is one for them
abbrev pub key_over : Option RowData → List Ty → KeyTerm → Result Ty Fault
key_over over types (KeyTerm.result at) = typed (slice_get types at)
key_over None types (KeyTerm.term t) = Err WrongPlace
key_over (Some r) types (KeyTerm.term t) = term_type r.answers r.columns t

-- behind DISTINCT there is none
abbrev pub rows_behind : Bool → RowData → Option RowData
rows_behind true r = None
rows_behind false r = Some r
