-- A term of ORDER BY of a window.
use Rattle.std.specs.Prelude.{Result}
use Rattle.values.specs.declared.fault.Fault.{Fault}
use Rattle.semantics.specs.Query.{SortTerm}
use Rattle.semantics_names.specs.Expression.{Answers, Says, term_of}
use Rattle.semantics_names.specs.Outcome.{also}
use Rattle.semantics_names.specs.Places.{direction_of}
use Rattle.sql_reader_syntax.specs.ExprTree.{ExprTree}
use Rattle.sql_reader_syntax.specs.declared.query.Direction as written

abbrev pub sort_key : Answers → Says → ExprTree × written.Direction → Result SortTerm Fault
sort_key answers says t = also (λ u. record { term = u; direction = direction_of t.1 }) (term_of answers says t.0)
