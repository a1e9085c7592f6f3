-- Windows, one after another.
use Rattle.std.proofs.Common.{◌≡◌, List, ◌∷◌, Result, Ok, Err, map, refl}
use Rattle.values.specs.declared.fault.Fault.{Fault}
use Rattle.sql_reader_grammar.specs.Reading.{definitions_of}
use Rattle.semantics_names.specs.Expression.{Answers, Says}
use Rattle.semantics_names.specs.Outcome.{also, both}
use Rattle.semantics_names.specs.Places.{window_of}
use Rattle.semantics_names.specs.Statement.{defined_of}
use Rattle.sql_reader_grammar.specs.statement_trees.TreeView.{definition_of}
use Rattle.sql_reader_grammar.specs.declared.statement_trees.queries.NamedWindow.{NamedWindow}
use Rattle.resolver_selects.specs.select_clauses.Definitions.{named_window}

both_also : {A B : Type 0} (f : A → B) (r : Result A Fault) (s : Result (List B) Fault) → both (λ a bs. f a ∷ bs) r s ≡ both ◌∷◌ (also f r) s
both_also f (Ok a) s = refl
both_also f (Err fault) s = refl

pub window_by_window : (answers : Answers) (says : Says) (x : NamedWindow) (xs : List NamedWindow)
    → defined_of answers says (definitions_of (map definition_of (x ∷ xs)))
    ≡ both ◌∷◌ (named_window answers says (definition_of x)) (defined_of answers says (definitions_of (map definition_of xs)))
window_by_window answers says x xs =
    both_also (λ window. record { name = (definition_of x).0; window = window }) (window_of answers says (definition_of x).1)
    (defined_of answers says (definitions_of (map definition_of xs)))
