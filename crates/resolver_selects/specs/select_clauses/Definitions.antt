-- A window that a SELECT names.
use Rattle.std.specs.Prelude.{Result}
use Rattle.values.specs.declared.fault.Fault.{Fault}
use Rattle.semantics_names.specs.Expression.{Answers, Says}
use Rattle.semantics_names.specs.Outcome.{also}
use Rattle.semantics_names.specs.Places.{Defined, window_of}
use Rattle.sql_reader_syntax.specs.ExprTree.{WindowTree}
use Rattle.sql_reader_syntax.specs.Tree.{Name}

abbrev pub named_window : Answers → Says → Name × WindowTree → Result Defined Fault
named_window answers says d = also (λ window. record { name = d.0; window = window }) (window_of answers says d.1)
