-- Why a statement is refused by its names or its types, in the words of what is written in it. (SELECT; WITH clause; STRICT Tables)
use Rattle.std.specs.Prelude.{List}
use Rattle.values.specs.declared.fault.Fault.{Fault}
use Rattle.values.specs.declared.fault.Fault.TheVariants as f
use Rattle.sql_reader_syntax.specs.StatementTree.{StatementTree}
use Rattle.semantics_names.specs.Typed.{IsNoQuery, Table}
use Rattle.semantics_refusals.specs.BadFrames.{HasBadFrame}
use Rattle.semantics_refusals.specs.BareColumns.{HasBareColumn}
use Rattle.semantics_refusals.specs.Limits.{IsBeyondLimit}
use Rattle.semantics_refusals.specs.Mismatches.{IsMistyped}
use Rattle.semantics_refusals.specs.RepeatedNames.{HasRepeatedName}
use Rattle.semantics_refusals.specs.UnevenColumns.{HasUnevenColumns}
use Rattle.semantics_refusals.specs.UnknownColumns.{HasAmbiguousColumn, HasUnknownColumn}
use Rattle.semantics_refusals.specs.UnknownSources.{HasUnknownSource}
use Rattle.semantics_refusals.specs.WrongPlaces.{HasAnyWrongPlace}

-- what such a fault says is written somewhere in the statement; of the others nothing is said here
abbrev pub IsReason : List Table → StatementTree → Fault → Type 0
IsReason tables tree f.UnknownTable = HasUnknownSource tables tree
IsReason tables tree f.UnknownColumn = HasUnknownColumn tables tree
IsReason tables tree f.Ambiguous = HasAmbiguousColumn tables tree
IsReason tables tree f.ColumnCount = HasUnevenColumns tables tree
IsReason tables tree f.DuplicateName = HasRepeatedName tree
IsReason tables tree f.TypeMismatch = IsMistyped tables tree
IsReason tables tree f.Limit = IsBeyondLimit tables tree
IsReason tables tree f.BadFrame = HasBadFrame tables tree
IsReason tables tree f.WrongPlace = HasAnyWrongPlace tables tree
IsReason tables tree f.BareColumn = HasBareColumn tables tree
IsReason tables tree _ = Unit {0}

-- a statement that is refused by a fault has what the fault says
abbrev pub RefusalsHaveReasons : Type 0
RefusalsHaveReasons = (tables : List Table) (tree : StatementTree) (fault : Fault) → IsNoQuery tables tree fault → IsReason tables tree fault
