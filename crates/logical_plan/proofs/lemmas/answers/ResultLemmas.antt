-- The result rows over the rows of a plan are those of the SELECT.
use Rattle.std.proofs.Common.{◌≡◌, ◌∙◌, All, Contains, ℕ, List, [], ◌∷◌, map, None, Some, unwrap_or, refl, sym, ap, subst, IsPermutation}
use Rattle.std.specs.List.{AllZip}
use Rattle.std.proofs.lemmas.List.Elements.{All-contains_itself, All-head, All-tail}
use Rattle.std.proofs.lemmas.List.Sorted.{IsPermutation-map, IsPermutation-refl}
use Rattle.values.specs.Database.{Database}
use Rattle.values.specs.Datum.{Datum, null}
use Rattle.values.specs.Row.{Row}
use Rattle.expr.specs.Filled.{filled}
use Rattle.expr.specs.Meaning.{eval}
use Rattle.expr.specs.Term.{Term}
use Rattle.semantics.specs.Body.{answers_in, values_over, computed_rows}
use Rattle.semantics.specs.Groups.{grouped}
use Rattle.semantics.specs.Hits.{where_rows}
use Rattle.semantics.specs.OneTable.{shown}
use Rattle.semantics.specs.Query.{From, Select, only, table}
use Rattle.semantics.specs.Valuation.{term_values, with_answers}
use Rattle.semantics.specs.Windows.{windowed}
use Rattle.semantics.proofs.ScanLemmas.{windowed-none}
use Rattle.logical_plan.specs.Plan.{PlanData, rows_of}
use Rattle.logical_plan.specs.Stands.{AreTestsOf}
use Rattle.logical_plan.proofs.WhereLemmas.{one_table_is_where}
use Rattle.logical_plan.specs.answers.Arms.{result_rows}
use Rattle.logical_plan.specs.answers.Permitted.{SaysOf, SeesRows, TableIsSeen}

module _ (w : Datum) (answers : List (List Datum)) (seen : Row → Row) (rows : List Row) where
  -- result columns on what is seen of a row
  pub columns_agree : (columns wholes : List Term) (row : Row) → Contains rows row → AllZip (SaysOf seen rows) columns (map (filled answers) wholes)
      → term_values (eval w) columns (seen row) ≡ term_values (with_answers w answers) wholes row
  columns_agree [] [] row held all = refl
  columns_agree [] (t ∷ wholes) row held all = absurd all
  columns_agree (c ∷ columns) [] row held all = absurd all
  columns_agree (c ∷ columns) (t ∷ wholes) row held all =
      rw (ap (λ value. unwrap_or value null) (all.0 (Some w) row held), columns_agree columns wholes row held all.1) refl

  rows_agree : (columns wholes : List Term) (some : List Row) → All (Contains rows) some → AllZip (SaysOf seen rows) columns (map (filled answers) wholes)
      → result_rows w columns (map seen some) ≡ map (term_values (with_answers w answers) wholes) some
  rows_agree columns wholes [] held all = refl
  rows_agree columns wholes (row ∷ some) held all =
      rw (
        columns_agree columns wholes row (All-head (Contains rows) row some held) all,
        rows_agree columns wholes some (All-tail (Contains rows) row some held) all,
      ) refl

module _ (w : Datum) (db : Database) (from : From) (s : Select) (plan : PlanData) (columns : List Term) (sees : SeesRows w db from s plan columns) where
  -- the result rows over a plan's rows, in some order
  pub results_are : IsPermutation (map (term_values (values_over w db from) s.columns) (computed_rows w db from s)) (result_rows w columns (rows_of w db plan))
  results_are =
      subst (λ (rows : List Row). IsPermutation rows (result_rows w columns (rows_of w db plan)))
      (rows_agree w (answers_in w db from) sees.seen (computed_rows w db from s) columns s.columns (computed_rows w db from s) (All-contains_itself (computed_rows w db from s))
      sees.columns_are)
      (IsPermutation-map (term_values (eval w) columns) (map sees.seen (computed_rows w db from s)) (rows_of w db plan) sees.rows_are)

-- ---- one table

-- what stands for a term says it of each row
pub tests_say : (read : List ℕ) (rows : List Row) (tests terms : List Term) → AreTestsOf read tests terms → AllZip (SaysOf (shown read) rows) tests terms
tests_say read rows [] [] all = tt
tests_say read rows [] (t ∷ terms) all = absurd all
tests_say read rows (e ∷ tests) [] all = absurd all
tests_say read rows (e ∷ tests) (t ∷ terms) all = ((λ o row held. all.0 o row), tests_say read rows tests terms all.1)

-- the rows that WHERE keeps are those that result columns are computed on
pub where_is_computed : (w : Datum) (db : Database) (from : From) (s : Select) → s.grouping ≡ None → s.windows ≡ []
    → where_rows w db from s ≡ computed_rows w db from s
where_is_computed w db from s ungrouped windowless =
    sym (ap (λ calls. windowed (values_over w db from) w calls (grouped (values_over w db from) w s.grouping (where_rows w db from s))) windowless
    ∙ windowed-none (values_over w db from) w (grouped (values_over w db from) w s.grouping (where_rows w db from s))
    ∙ ap (λ grouping. grouped (values_over w db from) w grouping (where_rows w db from s)) ungrouped)

-- a plan that has what is seen of the rows that WHERE keeps, in their order
abbrev pub sees_where : (w : Datum) (db : Database) (from : From) (s : Select) → s.grouping ≡ None → s.windows ≡ [] → (plan : PlanData) (columns : List Term) (seen : Row → Row)
    → rows_of w db plan ≡ map seen (where_rows w db from s)
    → AllZip (SaysOf seen (where_rows w db from s)) columns (map (filled (answers_in w db from)) s.columns)
    → SeesRows w db from s plan columns
sees_where w db from s ungrouped windowless plan columns seen rows_are columns_are = record {
  seen = seen;
  rows_are =
      subst (IsPermutation (map seen (computed_rows w db from s))) (ap (map seen) (sym (where_is_computed w db from s ungrouped windowless)) ∙ sym rows_are)
      (IsPermutation-refl (map seen (computed_rows w db from s)));
  columns_are =
      subst (λ (rows : List Row). AllZip (SaysOf seen rows) columns (map (filled (answers_in w db from)) s.columns))
      (where_is_computed w db from s ungrouped windowless) columns_are;
}

pub table_is_seen : TableIsSeen
table_is_seen w db at width s plan columns ungrouped windowless reads = (
  sees_where w db (only (table at width)) s ungrouped windowless plan columns (shown reads.read)
      (ap (rows_of w db) reads.plan_is ∙ one_table_is_where w db s at width reads.read reads.constants reads.tests reads.split)
      (tests_say reads.read (where_rows w db (only (table at width)) s) columns (map (filled (answers_in w db (only (table at width)))) s.columns) reads.columns_are),
  refl,
)
