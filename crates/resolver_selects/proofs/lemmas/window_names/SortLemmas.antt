-- The terms of ORDER BY of a window, one after another.
use Rattle.std.proofs.Common.{◌≡◌, List, ◌∷◌, Result, Ok, Err, map, refl}
use Rattle.values.specs.declared.fault.Fault.{Fault}
use Rattle.sql_reader_grammar.specs.Reading.{terms_of}
use Rattle.semantics_names.specs.Expression as e
use Rattle.semantics_names.specs.Expression.{Answers, Says}
use Rattle.semantics_names.specs.Outcome.{also, both}
use Rattle.semantics_names.specs.Places.{direction_of, sorted}
use Rattle.sql_reader_grammar.specs.statement_trees.TreeView.{term_of}
use Rattle.sql_reader_grammar.specs.declared.statement_trees.expressions.OrderingTerm.{OrderingTerm}
use Rattle.resolver_selects.specs.window_names.Sorting.{sort_key}

both_also : {A B : Type 0} (f : A → B) (r : Result A Fault) (s : Result (List B) Fault) → both (λ a bs. f a ∷ bs) r s ≡ both ◌∷◌ (also f r) s
both_also f (Ok a) s = refl
both_also f (Err fault) s = refl

pub one_by_one : (answers : Answers) (says : Says) (x : OrderingTerm) (xs : List OrderingTerm)
    → sorted answers says (terms_of (map term_of (x ∷ xs)))
    ≡ both ◌∷◌ (sort_key answers says (term_of x)) (sorted answers says (terms_of (map term_of xs)))
one_by_one answers says x xs =
    both_also (λ u. record { term = u; direction = direction_of (term_of x).1 }) (e.term_of answers says (term_of x).0)
    (sorted answers says (terms_of (map term_of xs)))
