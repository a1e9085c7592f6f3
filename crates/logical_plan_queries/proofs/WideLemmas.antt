-- Over rows that fit the catalog a typed query's tables have as many values in each row as they have columns.
use Rattle.std.proofs.Common.{◌≡◌, ◌∙◌, Bool, true, false, ℕ, zero, suc, List, [], ◌∷◌, length, slice_get, slice_index_or, Some, sym, subst}
use Rattle.std.specs.List.{AllZip}
use Rattle.std.proofs.lemmas.List.Elements.{All-weaker}
use Rattle.values.specs.Database.{Database}
use Rattle.values.specs.Row.{Row}
use Rattle.values.specs.declared.value.Ty.{Ty}
use Rattle.expr.specs.Types.{IsOfType}
use Rattle.semantics.specs.Query.{Body, From, QueryData, Source, compound, derived, joined, nothing, schema, select, table, with_inner}
use Rattle.semantics.specs.Typed.{BodyHasTypes, FitTypes, FitsCatalog, FromHasTypes, IsTyped, SourceHasTypes}
use Rattle.semantics.proofs.ElementLemmas.{length_all_zip}
use Rattle.logical_plan.specs.JoinPlan.{AreWide, IsWideSource}
use Rattle.logical_plan.proofs.JoinLemmas.{wide_before}
use Rattle.logical_plan_queries.specs.Answers.{AreWideFor}
use Rattle.logical_plan_queries.specs.select_plans.Read.{IsWideBy, reads_all}

some_types : (a b : List Ty) → Some a ≡ Some b → a ≡ b
some_types a b e = cc

rows_at : (catalog : List (List Ty)) (tables : List (List Row)) → AllZip FitTypes catalog tables → (at : ℕ) (types : List Ty) → slice_get catalog at ≡ Some types
    → FitTypes types (slice_index_or tables at [])
rows_at [] tables fit at types found = absurd cc
rows_at (first ∷ catalog) [] fit at types found = absurd fit
rows_at (first ∷ catalog) (rows ∷ tables) fit zero types found = subst (λ types. FitTypes types rows) (some_types first types found) fit.0
rows_at (first ∷ catalog) (rows ∷ tables) fit (suc at) types found = rows_at catalog tables fit.1 at types found

module _ (catalog : List (List Ty)) (db : Database) (fits : FitsCatalog catalog db) where
  source_wide : (source : Source) (types : List Ty) → SourceHasTypes catalog source types → IsWideSource db source
  source_wide (table at width) types typed =
      All-weaker (λ row. AllZip IsOfType types row) (λ row. length row ≡ width)
      (λ row is. sym (length_all_zip IsOfType types row is) ∙ sym typed.1) (slice_index_or db.tables at [])
      (rows_at catalog db.tables fits.tables at types typed.0)
  source_wide schema types typed = tt
  source_wide (derived body) types typed = tt

  from_wide : (from : From) (answers types : List Ty) → FromHasTypes catalog answers from types → AreWide db from
  from_wide nothing answers types typed = tt
  from_wide (joined from kind source on) answers types typed = (from_wide from answers typed.0 typed.2, source_wide source typed.1 typed.3)
  from_wide (with_inner from query) answers types typed = from_wide from answers types typed

  by_all : (b : Bool) (from : From) → AreWide db from → IsWideBy b db from
  by_all true from wide = wide
  by_all false from wide = wide_before db from wide

  body_wide : (body : Body) (types : List Ty) → BodyHasTypes catalog body types → AreWideFor db body
  body_wide (select from s) types typed = by_all (reads_all s.windows s.grouping) from (from_wide from typed.0 typed.1 typed.3)
  body_wide (compound body operator from s) types typed =
      let last = typed.1 in (body_wide body types typed.0, by_all (reads_all s.windows s.grouping) from (from_wide from last.0 last.1 last.3))

  pub typed_wide : (query : QueryData) → IsTyped catalog query → AreWideFor db query.body
  typed_wide query typed = body_wide query.body typed.0 typed.1.body
