-- A plan of FROM and WHERE has their rows.
use Rattle.std.proofs.Common.{◌≡◌, ◌∙◌, ◌&&◌, ◌+◌, Bool, true, false, if◌then◌else◌, flat_map, ℕ, List, [], ◌∷◌, ◌++◌, map, sum_by, append-nil, refl, sym, ap, arith}
use Rattle.std.specs.List.{filter}
use Rattle.std.proofs.lemmas.List.Elements.{filter_agree}
use Rattle.std.proofs.lemmas.List.Folds.{list_all-append}
use Rattle.values.specs.Database.{Database}
use Rattle.values.specs.Datum.{Datum}
use Rattle.values.specs.Row.{Row}
use Rattle.expr.specs.Conjuncts.{conjuncts}
use Rattle.expr.specs.Filled.{filled}
use Rattle.expr.specs.Meaning.{eval}
use Rattle.expr.specs.Term.{Term}
use Rattle.semantics.specs.Hits.{where_rows}
use Rattle.semantics.specs.OneTable.{shown}
use Rattle.semantics.specs.Query.{From, Select, only, table}
use Rattle.semantics.specs.Valuation.{holds_on}
use Rattle.semantics.proofs.ScanLemmas.{from_one, map-identity}
use Rattle.logical_plan.specs.Plan.{are_true, beside, rows_of, table_rows, table_size, work}
use Rattle.logical_plan.specs.Stands.{IsSplitCondition, KeptIsWhere, NothingIsWhere, OneTableIsWhere, OneTableWorks, condition_of, one_table, tested_once}
use Rattle.logical_plan.proofs.RowLemmas.{filter-map, filter-none}
use Rattle.logical_plan.proofs.StandLemmas.{conjuncts_are_true, list_all-IsPermutation, tests_agree}

-- rows of which columns are read, and on which tests are true that stand for a condition
tested_rows : (w : Datum) (columns : List ℕ) (t : Term) (tests : List Term) (rows : List Row)
    → ((row : Row) → are_true w tests (shown columns row) ≡ holds_on (eval w) t row)
    → filter (are_true w tests) (map (shown columns) rows) ≡ map (shown columns) (filter (holds_on (eval w) t) rows)
tested_rows w columns t tests rows same =
    filter-map (are_true w tests) (shown columns) rows
    ∙ ap (map (shown columns)) (filter_agree (λ row. are_true w tests (shown columns row)) (holds_on (eval w) t) same rows)

pub kept_is_where : KeptIsWhere
kept_is_where w db answers columns below rows condition tests is stands =
    ap (filter (are_true w tests)) is
    ∙ tested_rows w columns (filled answers condition) tests rows
    (λ row. tests_agree w columns tests (conjuncts (filled answers condition)) row stands ∙ conjuncts_are_true w (filled answers condition) row)

-- one row of no values, where the tests are true
pub once_rows : (w : Datum) (db : Database) (tests : List Term) → rows_of w db (tested_once tests) ≡ (if are_true w tests [] then [] ∷ [] else [])
once_rows w db [] = refl
once_rows w db (test ∷ tests) = refl

pub nothing_is_where : NothingIsWhere
nothing_is_where w db s tests stands =
    once_rows w db tests
    ∙ ap (λ b. if b then [] ∷ [] else [])
    (tests_agree w [] tests (conjuncts (condition_of w db From.nothing s)) [] stands ∙ conjuncts_are_true w (condition_of w db From.nothing s) [])

module _ (w : Datum) (db : Database) (s : Select) (at width : ℕ) (columns : List ℕ) (constants tests : List Term)
    (split : IsSplitCondition columns (condition_of w db (only (table at width)) s) constants tests) where
  abbrev whole : Term
  whole = condition_of w db (only (table at width)) s

  -- the condition is true where both parts are
  both_true : (row : Row) → (are_true w constants [] && are_true w tests (shown columns row)) ≡ holds_on (eval w) whole row
  both_true row =
      rw (tests_agree w [] constants split.bare row split.constants_are, tests_agree w columns tests split.others row split.tests_are)
      (sym (list_all-append (λ test. holds_on (eval w) test row) split.bare split.others)
      ∙ sym (list_all-IsPermutation (λ test. holds_on (eval w) test row) (conjuncts whole) (split.bare ++ split.others) split.same)
      ∙ conjuncts_are_true w whole row)

  abbrev behind : List Row → List Row
  behind lefts = flat_map (λ l. beside w tests l (map (shown columns) (table_rows db at))) lefts

  of_constants : (b : Bool) → are_true w constants [] ≡ b
      → behind (if b then [] ∷ [] else []) ≡ map (shown columns) (filter (holds_on (eval w) whole) (table_rows db at))
  of_constants true is =
      append-nil _ ∙ map-identity _
      ∙ tested_rows w columns whole tests (table_rows db at) (λ row. ap (λ b. b && are_true w tests (shown columns row)) (sym is) ∙ both_true row)
  of_constants false is =
      sym (ap (map (shown columns)) (filter-none (holds_on (eval w) whole)
      (λ row. sym (both_true row) ∙ ap (λ b. b && are_true w tests (shown columns row)) is) (table_rows db at)))

  pub table_rows_kept : rows_of w db (one_table at columns constants tests) ≡ map (shown columns) (where_rows w db (only (table at width)) s)
  table_rows_kept =
      ap behind (once_rows w db constants) ∙ of_constants (are_true w constants []) refl
      ∙ ap (λ rows. map (shown columns) (filter (holds_on (eval w) whole) rows)) (sym (from_one w db (table at width)))

pub one_table_is_where : OneTableIsWhere
one_table_is_where = table_rows_kept

pub one_table_works : OneTableWorks
one_table_works w db sizes at columns constants tests =
    ap (λ n. n + sum_by (λ l. table_size sizes at) (rows_of w db (tested_once constants))) (nothing_asked constants) ∙ (omega arith)
    ∙ ap (sum_by (λ l. table_size sizes at)) (once_rows w db constants) ∙ of_constants (are_true w constants [])
  where
    nothing_asked : (tests : List Term) → work w db sizes (tested_once tests) ≡ 0
    nothing_asked [] = refl
    nothing_asked (test ∷ tests) = refl

    of_constants : (b : Bool) → sum_by (λ (l : Row). table_size sizes at) (if b then [] ∷ [] else []) ≡ (if b then table_size sizes at else 0)
    of_constants true = omega arith
    of_constants false = refl
