-- Where two columns are called so.
use Rattle.std.proofs.Common.{◌≡◌, ℕ, ◌+◌, [], ◌∷◌, Option, Some, None, Err, IsSome, MatchOption, drop, get_or, ap, sym, ◌∙◌, add-one}
use Rattle.values.specs.declared.fault.Fault.TheVariants.{Ambiguous}
use Rattle.sql_reader_syntax.specs.Tree.{Name}
use Rattle.semantics_names.specs.Outcome.{also}
use Rattle.semantics_names.specs.Scope.{Scope, Shown, bare_term, called, column_of, only, places_of, shown_places}
use Rattle.resolver_exprs.specs.scopes.Next.{IsNext}

no_column : Shown
no_column = record { source = None; name = []; places = [] }

-- one at a place, and another behind it
pub two : (table : Option Name) (name : Name) (scope : Scope) (at : ℕ) (next : Option ℕ) → IsNext table name scope at (called table name 0 scope)
    → MatchOption next (called table name (at + 1) (drop (at + 1) scope) ≡ []) (λ n. IsNext table name scope n (called table name (at + 1) (drop (at + 1) scope)))
    → IsSome next → places_of scope table name ≡ Err Ambiguous
two table name scope at None first second some = absurd cc
two table name scope at (Some n) first second some =
    ap only
    (first.first no_column ∙ ap (λ all. shown_places table at (get_or scope at no_column) ∷ all) (ap (λ n. called table name n (drop n scope)) (sym (add-one at)) ∙ second.first no_column))

pub two_columns : (table : Option Name) (name : Name) (scope : Scope) (at : ℕ) (next : Option ℕ) → IsNext table name scope at (called table name 0 scope)
    → MatchOption next (called table name (at + 1) (drop (at + 1) scope) ≡ []) (λ n. IsNext table name scope n (called table name (at + 1) (drop (at + 1) scope)))
    → IsSome next → column_of scope table name ≡ Err Ambiguous
two_columns table name scope at next first second some = ap (also bare_term) (two table name scope at next first second some)
