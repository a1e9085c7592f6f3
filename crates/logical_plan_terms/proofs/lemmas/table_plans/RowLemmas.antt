-- The rows of a plan are those of FROM that WHERE keeps, as they are seen.
use Rattle.std.proofs.Common.{◌≡◌, ◌∙◌, Contains, ℕ, zero, suc, List, [], ◌∷◌, map, Option, refl, sym, ap, arith}
use Rattle.std.specs.Prelude.{⊤}
use Rattle.std.proofs.lemmas.List.Elements.{All-cons, All-contains, All-filter, All-nil}
use Rattle.values.specs.Database.{Database}
use Rattle.values.specs.Datum.{Datum, null}
use Rattle.values.specs.Row.{Row}
use Rattle.resolver_bodies.specs.BodyView.{JoinedData, joined_all}
use Rattle.expr.specs.Columns.{Agree, columns_of}
use Rattle.expr.specs.Filled.{filled}
use Rattle.expr.specs.Meaning.{run}
use Rattle.expr.specs.Term.{Term}
use Rattle.expr.proofs.ColumnLemmas.{depends_on_columns}
use Rattle.semantics.specs.Body.{answers_in}
use Rattle.semantics.specs.Hits.{where_rows}
use Rattle.semantics.specs.OneTable.{shown}
use Rattle.semantics.specs.Query.{From, Select, joined, nothing, with_inner}
use Rattle.semantics.specs.Sequence.{value_at}
use Rattle.semantics.specs.Valuation.{holds_on, with_answers}
use Rattle.logical_plan_terms.specs.Over.{StandsOver}
use Rattle.logical_plan.specs.JoinPlan.{AreTestsOfNothing, IsEarlyPlan, seen}
use Rattle.logical_plan.specs.Plan.{PlanData}
use Rattle.logical_plan.specs.Stands.{AreTestsOf, StandsFor, tested_once}
use Rattle.logical_plan.proofs.WholeLemmas.{join_is_bag, join_is_where}
use Rattle.logical_plan_terms.specs.table_plans.Input.{input_from, joined_table}
use Rattle.logical_plan_terms.specs.table_plans.Laws.{ColumnsSay, PlanHasBag, PlanHasRows}

-- ---- the row of no values

null_seen : (read : List ℕ) (at : ℕ) → value_at (shown read []) at ≡ null
null_seen [] at = refl
null_seen (c ∷ read) zero = refl
null_seen (c ∷ read) (suc at) = null_seen read at

agree_nulls : (read columns : List ℕ) → Agree [] (shown read []) columns
agree_nulls read [] = tt
agree_nulls read (c ∷ columns) = (sym (null_seen read c), agree_nulls read columns)

-- on it an expression over the columns that are read says what its term says
pub on_nothing : (read : List ℕ) (e t : Term) → StandsFor read e t → (o : Option Datum) → run o [] e ≡ run o [] t
on_nothing read e t stands o = depends_on_columns o [] (shown read []) e (agree_nulls read (columns_of e)) ∙ stands o []

-- ---- plans

once_stands : (read : List ℕ) (tests conditions : List Term) → AreTestsOf read tests conditions → AreTestsOfNothing tests conditions
once_stands read [] [] all = tt
once_stands read [] (t ∷ conditions) all = absurd all
once_stands read (test ∷ tests) [] all = absurd all
once_stands read (test ∷ tests) (t ∷ conditions) all = (λ o. on_nothing read test t all.0 o, once_stands read tests conditions all.1)

pub plan_of_nothing : (read : List ℕ) (plan : PlanData) (tests conditions : List Term) → plan ≡ tested_once tests → AreTestsOf read tests conditions
    → IsEarlyPlan read nothing conditions plan
plan_of_nothing read plan tests conditions same stand = record { tests = tests; plan_is = same; tests_are = once_stands read tests conditions stand }

pub plan_has_rows : PlanHasRows
plan_has_rows w db s input read plan wide of = join_is_where w db s (input_from input) read plan wide of

pub plan_has_bag : PlanHasBag
plan_has_bag w db s input read plan wide of = join_is_bag w db s (input_from input) read plan wide of

-- ---- what is said of rows

-- no inner query stands beside the sources
abbrev IsFlat : From → Type 0
IsFlat nothing = ⊤
IsFlat (joined from kind source on) = IsFlat from
IsFlat (with_inner from query) = ⊥

materialized_all : (from : From) (js : List JoinedData) → IsFlat from → IsFlat (joined_all from js)
materialized_all from [] flat = flat
materialized_all from (j ∷ js) flat = materialized_all (joined from j.kind j.source j.condition) js flat

unanswered : (w : Datum) (db : Database) (from : From) → IsFlat from → answers_in w db from ≡ []
unanswered w db nothing flat = refl
unanswered w db (joined from kind source on) flat = unanswered w db from flat
unanswered w db (with_inner from query) flat = absurd flat

-- without FROM there is one row, of no values
pub only_empty : (w : Datum) (db : Database) (s : Select) (row : Row) → Contains (where_rows w db nothing s) row → row ≡ []
only_empty w db s row held =
    All-contains (λ row. row ≡ []) (where_rows w db nothing s) row
    (All-filter (holds_on (with_answers w []) s.condition) (λ row. row ≡ []) ([] ∷ []) (All-cons (λ row. row ≡ []) [] [] refl (All-nil (λ row. row ≡ []))))
    held

says_of : (w : Datum) (db : Database) (s : Select) (from : From) (read : List ℕ) (e t : Term) → IsFlat from → StandsOver read 0 e t
    → (o : Option Datum) (row : Row) → Contains (where_rows w db from s) row → run o (seen from read row) e ≡ run o row (filled (answers_in w db from) t)
says_of w db s nothing read e t flat stands o row held =
    on_nothing read e (filled [] t) (stands [] (omega arith)) o ∙ ap (λ row. run o row (filled [] t)) (sym (only_empty w db s row held))
says_of w db s (joined from kind source on) read e t flat stands o row held =
    stands [] (omega arith) o row ∙ ap (λ answers. run o row (filled answers t)) (sym (unanswered w db from flat))
says_of w db s (with_inner from query) read e t flat stands o row held = absurd flat

pub columns_say : ColumnsSay
columns_say w db s input read e t stands o row held =
    says_of w db s (input_from input) read e t (materialized_all nothing (map joined_table input.tables.items) tt) stands o row held
