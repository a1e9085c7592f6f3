-- A column of FROM's row, over the rows that result columns speak of.
use Rattle.std.specs.Prelude.{List, Option, Some, None, Result, Ok}
use Rattle.values.specs.declared.fault.Fault.{Fault}
use Rattle.expr.specs.Term.{Term}
use Rattle.semantics_names.specs.Outcome.{also}
use Rattle.semantics_names.specs.Places.{key_column}
use Rattle.semantics_names.specs.Statement.{Input, ResultColumn, or_bare, result}

-- itself, over the rows of FROM; over those of groups, the expression of GROUP BY that it is
abbrev pub over_input : Option (List Term) → Term → Result Term Fault
over_input None = Ok
over_input (Some by) = λ t. or_bare (key_column by (Ok t))

abbrev pub over_rows : Option (List Term) → ResultColumn → Result ResultColumn Fault
over_rows by r = also (result r.name) (over_input by r.term)

-- result columns need no more of these rows than this
abbrev pub input_of : Option (List Term) → Input
input_of by = record { says = λ e. Ok None; over_input = over_input by; width = 0; grouping = None }
