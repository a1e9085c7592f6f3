-- What ORDER BY may name.
use Rattle.std.specs.Prelude.{ℕ, List, [], ◌∷◌, false, Option, Some, None, Result, Ok, Err}
use Rattle.values.specs.declared.fault.Fault.{Fault}
use Rattle.values.specs.declared.fault.Fault.TheVariants.{Ambiguous}
use Rattle.semantics.specs.Query.{Key, KeyTerm}
use Rattle.semantics_names.specs.Expression.{Answers, Says}
use Rattle.semantics_names.specs.Outcome.{also}
use Rattle.semantics_names.specs.Places.{direction_of}
use Rattle.semantics_names.specs.Statement.{key, key_term, no_row, on_row}
use Rattle.sql_reader_syntax.specs.ExprTree.{ExprTree}
use Rattle.sql_reader_syntax.specs.Tree.{Name}
use Rattle.sql_reader_syntax.specs.declared.query.Direction as written

-- of these places one, if there is one, and not two
abbrev pub only_one : List ℕ → Result (Option ℕ) Fault
only_one [] = Ok None
only_one (at ∷ []) = Ok (Some at)
only_one (at ∷ other ∷ rest) = Err Ambiguous

-- an expression over the rows of a SELECT, where there are such rows
abbrev pub on_rows : Answers → Option Says → ExprTree → Result KeyTerm Fault
on_rows answers None = no_row
on_rows answers (Some says) = on_row answers false says

-- one term of ORDER BY
abbrev pub sort_key : List Name → (ExprTree → Result KeyTerm Fault) → ExprTree × written.Direction → Result Key Fault
sort_key names otherwise t = also (key (direction_of t.1)) (key_term names otherwise t.0)
