-- Columns of a table's rows, as rows of a SELECT over one row of no values.
use Rattle.std.proofs.Common.{◌≡◌, ◌∙◌, ◌+◌, inl, inr, true, ℕ, List, [], ◌∷◌, ◌++◌, length, map, append-nil, refl, sym, ap, subst, arith, None}
use Rattle.std.specs.List.{filter, range_with_len}
use Rattle.std.proofs.lemmas.List.{ext_get_or, length-map}
use Rattle.std.proofs.lemmas.List.FromFn.{get_or-map-range_with_len, length-map-range_with_len, map-range_with_len_more}
use Rattle.values.specs.Database.{Database}
use Rattle.values.specs.Datum.{Datum, null}
use Rattle.values.specs.Row.{Row}
use Rattle.expr.specs.Meaning.{Overflows, eval, exact}
use Rattle.expr.specs.Term.{Term, column}
use Rattle.semantics.specs.OneTable.{shown}
use Rattle.semantics.specs.Sequence.{value_at}
use Rattle.semantics.specs.Valuation.{term_values}
use Rattle.logical_plan.proofs.HitLemmas.{any_held, from_map}
use Rattle.logical_plan.specs.Plan.{ReachesOverflow, rows_of, table_rows}
use Rattle.logical_plan_queries.specs.select_plans.Laws.{PlanReaches}
use Rattle.logical_plan.specs.answers.Arms.{result_rows}
use Rattle.operators_runs.specs.execution.Columns.{columns_plan}

-- ---- all columns of a row

-- one column more
pub columns_more : (n : ℕ) → map column (range_with_len 0 (n + 1)) ≡ map column (range_with_len 0 n) ++ column n ∷ []
columns_more n = map-range_with_len_more column 0 n n (omega arith)

-- the values of all columns of a row are the row
shown_whole : (n : ℕ) (row : Row) → length row ≡ n → shown (range_with_len 0 n) row ≡ row
shown_whole n row long =
    ext_get_or null (shown (range_with_len 0 n) row) row (length-map-range_with_len (value_at row) 0 n ∙ sym long)
    (λ i within. get_or-map-range_with_len (value_at row) 0 n i i null (omega (arith, within, length-map-range_with_len (value_at row) 0 n)) (omega arith))

values_shown : (w : Datum) (places : List ℕ) (row : Row) → term_values (eval w) (map column places) row ≡ shown places row
values_shown w [] row = refl
values_shown w (place ∷ places) row = ap (λ (rest : Row). value_at row place ∷ rest) (values_shown w places row)

whole_values : (w : Datum) (places : List ℕ) (row : Row)
    → term_values (eval w) (map column (range_with_len 0 (length places))) (shown places row) ≡ shown places row
whole_values w places row =
    values_shown w (range_with_len 0 (length places)) (shown places row)
    ∙ shown_whole (length places) (shown places row) (length-map places (value_at row))

-- ---- the rows of the plan

module _ (w : Datum) (db : Database) (at : ℕ) (places : List ℕ) where
  none_dropped : (rows : List Row) → map (λ r. [] ++ r) (filter (λ r. true) rows) ≡ rows
  none_dropped [] = refl
  none_dropped (row ∷ rows) = ap (λ (rest : List Row). row ∷ rest) (none_dropped rows)

  plan_rows : rows_of w db (columns_plan at places) ≡ map (shown places) (table_rows db at)
  plan_rows = append-nil _ ∙ none_dropped (map (shown places) (table_rows db at))

  each_whole : (rows : List Row) → result_rows w (map column (range_with_len 0 (length places))) (map (shown places) rows) ≡ map (shown places) rows
  each_whole [] = refl
  each_whole (row ∷ rows) = rw (whole_values w places row, each_whole rows) refl

  -- all columns of them are the columns of each row of the table
  pub columns_answer : result_rows w (map column (range_with_len 0 (length places))) (rows_of w db (columns_plan at places)) ≡ map (shown places) (table_rows db at)
  columns_answer = ap (result_rows w (map column (range_with_len 0 (length places)))) plan_rows ∙ each_whole (table_rows db at)

  none_reached : (columns : List ℕ) (row : Row) → ReachesOverflow (map column columns) row → ⊥
  none_reached columns row reaches =
      let held = any_held (λ t. Overflows t row) (map column columns) reaches in
      let from = from_map column columns held.0 held.1 in
      let none : exact (column from.0) row ≡ None = subst (λ (t : Term). exact t row ≡ None) (sym from.2) held.2 in
      cc

  -- and it reaches nothing
  pub columns_reach_none : PlanReaches w db (columns_plan at places) (map column (range_with_len 0 (length places))) → ⊥
  columns_reach_none (inl (inl none)) = none
  columns_reach_none (inl (inr (inl any))) = let none = any.4.4.2 in omega (arith, none)
  columns_reach_none (inl (inr (inr any))) = let none = any.4.2 in omega (arith, none)
  columns_reach_none (inr any) = none_reached (range_with_len 0 (length places)) any.1 any.4
