-- Which faults the names and types of a statement have. (SELECT; STRICT Tables)
use Rattle.std.specs.Prelude.{◌≡◌, ◌⊎◌, ◌≤◌, List}
use Rattle.values.specs.Fault.{number_of}
use Rattle.values.specs.declared.fault.Fault.{Fault}
use Rattle.values.specs.declared.fault.Fault.TheVariants.{NoMemory}
use Rattle.sql_reader_syntax.specs.StatementTree.{StatementTree}
use Rattle.semantics_names.specs.Typed.{IsNoQuery, Table}

-- a fault of names or types, as docs/FAULTS.md numbers them
abbrev pub IsNameFault : Fault → Type 0
IsNameFault fault = (31 ≤ number_of fault) × (number_of fault ≤ 40)

-- a statement that is refused is so by one of them, or memory ran out
abbrev pub RefusalsAreNumbered : Type 0
RefusalsAreNumbered = (tables : List Table) (tree : StatementTree) (fault : Fault) → IsNoQuery tables tree fault → (fault ≡ NoMemory) ⊎ IsNameFault fault
