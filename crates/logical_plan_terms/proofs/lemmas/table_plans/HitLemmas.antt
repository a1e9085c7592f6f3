-- What a plan and expressions on its rows reach, the SELECT can reach.
use Rattle.std.proofs.Common.{◌≡◌, ◌∙◌, Contains, List, ℕ, [], ◌∷◌, ◌++◌, map, None, sym, ap, subst}
use Rattle.std.specs.List.{AllZip}
use Rattle.std.proofs.lemmas.List.Sorted.{Contains-permutation, IsPermutation-sym}
use Rattle.values.specs.Database.{Database}
use Rattle.values.specs.Datum.{Datum}
use Rattle.values.specs.Row.{Row}
use Rattle.expr.specs.Filled.{filled}
use Rattle.expr.specs.Meaning.{Overflows, exact}
use Rattle.expr.specs.Term.{Term}
use Rattle.semantics.specs.Body.{answers_in, select_rows, values_over}
use Rattle.semantics.specs.Body as body
use Rattle.semantics.specs.Groups.{grouped}
use Rattle.semantics.specs.Hits.{where_rows}
use Rattle.semantics.specs.Query.{From, Select}
use Rattle.semantics.specs.Windows.{windowed}
use Rattle.semantics.proofs.HitLemmas.{column_is_hit}
use Rattle.semantics.proofs.ScanLemmas.{windowed-none}
use Rattle.logical_plan.specs.Plan.{ReachesOverflow, rows_of}
use Rattle.logical_plan.proofs.HitLemmas.{any_held, from_map}
use Rattle.logical_plan.proofs.JoinHitLemmas.{terms_reach}
use Rattle.logical_plan.proofs.WholeLemmas.{join_hits}
use Rattle.logical_plan_terms.specs.Over.{StandsOver}
use Rattle.logical_plan_terms.specs.table_plans.Input.{input_from, seen}
use Rattle.logical_plan_terms.specs.table_plans.Laws.{ColumnsAreHit, PlanIsHit}
use Rattle.logical_plan_terms.specs.declared.table_plans.inputs.Input as i
use Rattle.logical_plan_terms.proofs.lemmas.table_plans.RowLemmas.{columns_say, plan_has_bag}

pub plan_is_hit : PlanIsHit
plan_is_hit w db s terms input read plan wide of hits = join_hits w db s terms (input_from input) read plan wide of hits

-- ---- result columns and terms of ORDER BY

-- the rows that result columns are computed on, without groups and windows
computed : (w : Datum) (db : Database) (from : From) (s : Select) → s.grouping ≡ None → s.windows ≡ []
    → where_rows w db from s ≡ select_rows (values_over w db from) w s (body.rows_of w db from)
computed w db from s ungrouped windowless =
    sym (ap (λ calls. windowed (values_over w db from) w calls (grouped (values_over w db from) w s.grouping (where_rows w db from s))) windowless
    ∙ windowed-none (values_over w db from) w (grouped (values_over w db from) w s.grouping (where_rows w db from s))
    ∙ ap (λ grouping. grouped (values_over w db from) w grouping (where_rows w db from s)) ungrouped)

module _ (w : Datum) (db : Database) (s : Select) (input : i.Input) (read : List ℕ) (row : Row) (held : Contains (where_rows w db (input_from input) s) row) where
  abbrev answers : List (List Datum)
  answers = answers_in w db (input_from input)

  say_all : (es ts : List Term) → AllZip (StandsOver read 0) es ts → AllZip (λ e t. exact e (seen input read row) ≡ exact t row) es (map (filled answers) ts)
  say_all [] [] all = tt
  say_all [] (t ∷ ts) all = absurd all
  say_all (e ∷ es) [] all = absurd all
  say_all (e ∷ es) (t ∷ ts) all = (columns_say w db s input read e t all.0 None row held, say_all es ts all.1)

pub columns_are_hit : ColumnsAreHit
columns_are_hit w db s terms es input read plan wide ungrouped windowless of stand any =
    let from = input_from input in
    let here = any_held (ReachesOverflow es) (rows_of w db plan) any in
    let row = from_map (seen input read) (where_rows w db from s) here.0 (Contains-permutation (rows_of w db plan) (map (seen input read) (where_rows w db from s)) here.0
    (IsPermutation-sym (map (seen input read) (where_rows w db from s)) (rows_of w db plan) (plan_has_bag w db s input read plan wide of)) here.1) in
    let reach : ReachesOverflow (map (filled (answers_in w db from)) (s.columns ++ terms)) row.0 =
    terms_reach (seen input read row.0) row.0 es (map (filled (answers_in w db from)) (s.columns ++ terms))
    (say_all w db s input read row.0 row.1 es (s.columns ++ terms) stand) (subst (ReachesOverflow es) (sym row.2) here.2) in
    let t = any_held (λ t. Overflows t row.0) (map (filled (answers_in w db from)) (s.columns ++ terms)) reach in
    let whole = from_map (filled (answers_in w db from)) (s.columns ++ terms) t.0 t.1 in
    column_is_hit w db from s terms row.0 whole.0
    (subst (λ rows. Contains rows row.0) (computed w db from s ungrouped windowless) row.1) whole.1
    (ap (λ t. exact t row.0) whole.2 ∙ t.2)
