-- The terms of ORDER BY, one after another.
use Rattle.std.proofs.Common.{◌≡◌, List, ◌∷◌, Result, Ok, Err, map, refl}
use Rattle.values.specs.declared.fault.Fault.{Fault}
use Rattle.sql_reader_grammar.specs.Reading.{terms_of}
use Rattle.semantics.specs.Query.{KeyTerm}
use Rattle.semantics_names.specs.Outcome.{also, both}
use Rattle.semantics_names.specs.Places.{direction_of}
use Rattle.semantics_names.specs.Statement.{key, key_term, keys_of}
use Rattle.sql_reader_grammar.specs.statement_trees.TreeView.{term_of}
use Rattle.sql_reader_grammar.specs.declared.statement_trees.expressions.OrderingTerm.{OrderingTerm}
use Rattle.sql_reader_syntax.specs.ExprTree.{ExprTree}
use Rattle.sql_reader_syntax.specs.Tree.{Name}
use Rattle.resolver_exprs.specs.order_keys.Named.{sort_key}

both_also : {A B : Type 0} (f : A → B) (r : Result A Fault) (s : Result (List B) Fault) → both (λ a bs. f a ∷ bs) r s ≡ both ◌∷◌ (also f r) s
both_also f (Ok a) s = refl
both_also f (Err fault) s = refl

pub one_by_one : (names : List Name) (otherwise : ExprTree → Result KeyTerm Fault) (x : OrderingTerm) (xs : List OrderingTerm)
    → keys_of names otherwise (terms_of (map term_of (x ∷ xs)))
    ≡ both ◌∷◌ (sort_key names otherwise (term_of x)) (keys_of names otherwise (terms_of (map term_of xs)))
one_by_one names otherwise x xs =
    both_also (key (direction_of (term_of x).1)) (key_term names otherwise (term_of x).0) (keys_of names otherwise (terms_of (map term_of xs)))
