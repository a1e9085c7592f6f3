-- A SELECT over groups, and one without.
use Rattle.std.proofs.Common.{◌≡◌, true, false, List, [], ◌∷◌, Ok, refl}
use Rattle.expr.specs.Term.{Term}
use Rattle.semantics.specs.Query.{Aggregate}
use Rattle.semantics_names.specs.Expression.{Answers}
use Rattle.semantics_names.specs.Scope.{Scope}
use Rattle.semantics_names.specs.Statement.{grouped, input_of, ungrouped}
use Rattle.resolver_selects.specs.Groups.{has_groups}
use Rattle.sql_reader_syntax.specs.ExprTree.{MaybeExpr}

module _ (answers : Answers) (scope : Scope) (having : MaybeExpr) where
  pub with_groups : (by : List Term) (aggregates : List Aggregate) → has_groups by aggregates ≡ true
      → input_of answers scope by aggregates having ≡ grouped answers scope by aggregates having
  with_groups [] [] e = absurd cc
  with_groups [] (a ∷ rest) e = refl
  with_groups (t ∷ rest) aggregates e = refl

  pub without_groups : (by : List Term) (aggregates : List Aggregate) → has_groups by aggregates ≡ false
      → input_of answers scope by aggregates having ≡ Ok (ungrouped scope)
  without_groups [] [] e = refl
  without_groups [] (a ∷ rest) e = absurd cc
  without_groups (t ∷ rest) aggregates e = absurd cc
