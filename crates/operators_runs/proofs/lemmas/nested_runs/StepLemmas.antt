-- Rows that are given one by one.
use Rattle.std.proofs.Common.{◌≡◌, ◌∙◌, ◌<◌, OnSome, arith, inl, inr, refl, ℕ, List, [], ◌∷◌, ◌++◌, Option, None, Some, Result, Ok, Err, MatchResult, sym, ap, append-nil, append_assoc, subst}
use Rattle.std.specs.Global.{Vec}
use Rattle.values.specs.Row.{Row, rows_data}
use Rattle.values.specs.declared.fault.Fault.{Fault}
use Rattle.values.specs.declared.value.Value.{Value}
use Rattle.btree.specs.image.Pages.{Pages}
use Rattle.operators_runs.proofs.lemmas.inner_rows.KeptLemmas.{kept_are_stored}
use Rattle.operators_runs.specs.inner_rows.InnerView.{kept_rows}
use Rattle.operators_runs.specs.inner_rows.Over.{AreSaid, IsPlanOverKept, IsQueryCause, basis_over}
use Rattle.operators_runs.specs.inner_rows.Runnable.{IsRunnableBody}
use Rattle.operators_runs.specs.inner_rows.Work.{body_work}
use Rattle.semantics.specs.Answer.{Begins, Permits}
use Rattle.semantics.specs.Query.{QueryData}
use Rattle.semantics.specs.Typed.{IsTyped}
use Rattle.operators_runs.specs.nested_runs.Steps.{AsksStep, GoesOn, HasGivenOf, HasPlanGiven, HasSteppedRows, IsPermitted, PlanAsks, PlanSteps, ReadsRowsOrEnded, TakesFirst}
use Rattle.operators_runs.specs.declared.nested_runs.steps.QueryRun.{QueryRun}
use Rattle.operators_runs.specs.declared.nested_runs.steps.QueryRun.TheVariants.{Ended, Gathered, Nested, Planned}
use Rattle.operators_loops.specs.Basis.{AreStored, Basis, ReadsRows}
use Rattle.pager.specs.PagerState.{PagerState}
use Rattle.logical_plan.specs.Plan.{once}
use Rattle.logical_plan_queries.specs.Answers.{IsAnswerOf, PlannedData}
use Rattle.operators_runs.proofs.lemmas.nested_runs.PlannedLemmas.{planned_wide}
use Rattle.operators_runs.specs.execution.Given.{IsRowCause}
use Rattle.operators_runs.specs.declared.execution.rows.Execution.{Execution}
use Rattle.operators_runs.proofs.WrittenLemmas.{given_begin}
use Rattle.operators_scan.specs.scan.Coming.{Asks}
use Rattle.logical_plan.specs.answers.Sources.{sources_of}
use Rattle.schema_tables.specs.ColumnTypes.{column_types}
use Rattle.schema_tables.specs.TableData.{TableData}

module _ (pages : Pages) (tables : List TableData) (query : QueryData) where
  -- of the rows that were gathered the next is given, or there is none
  pub giving : (given : List Row) (old new : List Row) (found : Option Row) → TakesFirst found old new
      → IsPermitted pages tables query (given ++ old) → HasSteppedRows pages tables query (Gathered new) given found
  giving given old new None none all = λ on said.
      subst (Permits on.w on.db query) (ap (λ (rest : List Row). given ++ rest) none ∙ append-nil given) (all on said)
  giving given old new (Some row) first all = λ on said.
      subst (Permits on.w on.db query) (ap (λ (rest : List Row). given ++ rest) first ∙ sym (append_assoc given (row ∷ []) new)) (all on said)

  module _ (typed : IsTyped (column_types tables) query) where
    -- after a row an answer begins with those that were given
    pub query_begins : (run : QueryRun) (given : List Row) (row : Row) → HasGivenOf pages tables query run (given ++ row ∷ [])
        → (on : Basis) → AreSaid pages tables on → Begins on.w on.db query (given ++ row ∷ [])
    query_begins (Planned running) given row gave = λ on said.
        let begun = given_begin pages (sources_of tables []) gave.planned running (given ++ row ∷ []) gave.gave on said.stored in
        record { rest = begun.0; permitted = gave.plan.permits on.w on.db ((given ++ row ∷ []) ++ begun.0) (planned_wide pages tables query typed on said) begun.1 }
    query_begins (Nested waits) [] row gave = absurd (let none = gave.0 in cc)
    query_begins (Nested waits) (first ∷ given) row gave = absurd (let none = gave.0 in cc)
    query_begins (Gathered left) given row gave = λ on said. record { rest = left; permitted = gave on said }
    query_begins Ended given row gave = absurd gave

    -- what a plan gives, the query permits
    pub plan_steps : (old new : Execution) (given : List Row) (gave : HasPlanGiven pages tables query old given) (result : Result (Option Row) Fault)
        → PlanSteps pages (sources_of tables []) gave.planned given new result
        → MatchResult result (HasSteppedRows pages tables query (Planned new) given) (λ e. (on : Basis) → AreSaid pages tables on → IsQueryCause on query e)
    plan_steps old new given gave (Ok (Some row)) steps = record { planned = gave.planned; plan = gave.plan; gave = steps }
    plan_steps old new given gave (Ok None) answers = λ on said. gave.plan.permits on.w on.db given (planned_wide pages tables query typed on said) (answers on said.stored)
    plan_steps old new given gave (Err e) causes = λ on said. cause on said (causes on said.stored)
      where
        cause : (on : Basis) → AreSaid pages tables on → IsRowCause on gave.planned e → IsQueryCause on query e
        cause on said (inl read) = inl read
        cause on said (inr over) = inr (over.0, gave.plan.hits on.w on.db (planned_wide pages tables query typed on said) over.1)

  -- and asks for, the query may
  pub plan_asks : (on : Basis) (old : PagerState) (ahead : ℕ) (now : PagerState) (new : Execution) (result : Result (Option Row) Fault)
      → PlanAsks pages (sources_of tables []) on old ahead now new result → AsksStep pages tables on query old ahead now (Planned new) result
  plan_asks on old ahead now new (Ok (Some row)) asks = asks
  plan_asks on old ahead now new (Ok None) asks = asks
  plan_asks on old ahead now new (Err e) asks = tt

  -- of rows that were gathered no page is asked for
  pub gathered_asks : (on : Basis) (old : PagerState) (ahead : ℕ) (now : PagerState) (left : List Row) (found : Option Row) → Asks on.local old ahead now 0
      → AsksStep pages tables on query old ahead now (Gathered left) (Ok found)
  gathered_asks on old ahead now left (Some row) asks = (0, refl, asks)
  gathered_asks on old ahead now left None asks = asks

  -- what gathering the rows says
  abbrev pub Gathers : QueryData → Result (Vec (Vec Value)) Fault → Type 0
  Gathers of result = (on : Basis) → AreSaid pages tables on → IsTyped (column_types tables) of → IsRunnableBody of.body
      → MatchResult result (λ rows. Permits on.w on.db of (rows_data rows.items)) (IsQueryCause on of)

  module _ (typed : IsTyped (column_types tables) query) (runs : IsRunnableBody query.body) (of : QueryData) (same : of ≡ query) where
    here : (result : Result (Vec (Vec Value)) Fault) → Gathers of result → Gathers query result
    here result says = subst (λ (q : QueryData). Gathers q result) same says

    -- the rows are gathered, and the first of them is given
    pub gathered : (rows : Vec (Vec Value)) (given : List Row) (old new : List Row) (found : Option Row) → old ≡ rows_data rows.items
        → Gathers of (Ok rows) → given ≡ [] → TakesFirst found old new → HasSteppedRows pages tables query (Gathered new) given found
    gathered rows given old new found items says none first =
        giving given old new found first (λ on said.
        subst (Permits on.w on.db query) (sym items ∙ ap (λ (before : List Row). before ++ old) (sym none))
        (here (Ok rows) says on said typed runs))

    pub stopped : (fault : Fault) → Gathers of (Err fault) → (on : Basis) → AreSaid pages tables on → IsQueryCause on query fault
    stopped fault says on said = here (Err fault) says on said typed runs

    -- within what the query may ask for
    pub waiting_asks : (start now : PagerState) → ((on : Basis) → AreSaid pages tables on → IsTyped (column_types tables) of → IsRunnableBody of.body
        → Asks on.local start (body_work on.w on.db on.sizes of.body) now 0)
        → (on : Basis) → AreSaid pages tables on → Asks on.local start (body_work on.w on.db on.sizes query.body) now 0
    waiting_asks start now asks on said =
        subst (λ (q : QueryData). (on : Basis) → AreSaid pages tables on → IsTyped (column_types tables) q → IsRunnableBody q.body
        → Asks on.local start (body_work on.w on.db on.sizes q.body) now 0) same asks on said typed runs

-- what a plan over tables and kept rows answers, the query permits; and why it stops, that does
pub rows_of_plan : (pages : Pages) (tables : List TableData) (query : QueryData) (kept : List (Vec (Vec Value))) (planned : PlannedData) (on : Basis)
    → AreSaid pages tables on → IsPlanOverKept on query (kept_rows kept) planned → (result : Result (Vec (Vec Value)) Fault)
    → ((on : Basis) → AreStored pages (sources_of tables kept) on
    → MatchResult result (λ rows. IsAnswerOf on.w on.db planned (rows_data rows.items)) (IsRowCause on planned))
    → MatchResult result (λ rows. Permits on.w on.db query (rows_data rows.items)) (IsQueryCause on query)
rows_of_plan pages tables query kept planned on said plan (Ok rows) answers =
    plan.permits (rows_data rows.items) (answers (basis_over tables on (kept_rows kept) once) (kept_are_stored pages tables kept on once said))
rows_of_plan pages tables query kept planned on said plan (Err fault) causes =
    cause (causes (basis_over tables on (kept_rows kept) once) (kept_are_stored pages tables kept on once said))
  where
    cause : IsRowCause (basis_over tables on (kept_rows kept) once) planned fault → IsQueryCause on query fault
    cause (inl read) = inl read
    cause (inr over) = inr (over.0, plan.hits over.1)

-- what reads rows does so of a query, whatever is run of it
pub reads_rows : (run : QueryRun) (result : Result (Option Row) Fault) (old new : PagerState) → ReadsRows result old new → ReadsRowsOrEnded run result old new
reads_rows run (Ok found) old new reads = record { image = reads.image; failures = reads.failures; only = tt }
reads_rows run (Err fault) old new reads = record { image = reads.image; failures = reads.failures; only = inl reads.only }

-- what is run of a plan, and rows that were gathered, haven't ended
pub plan_going : (result : Result (Option Row) Fault) (running : Execution) → GoesOn result (Planned running)
plan_going (Ok (Some row)) running = λ is. cc
plan_going (Ok None) running = tt
plan_going (Err fault) running = tt

pub gathered_going : (found : Option Row) (left : List Row) → GoesOn (Ok found) (Gathered left)
gathered_going (Some row) left = λ is. cc
gathered_going None left = tt

-- less is left than was, and so than the most
pub fewer : (found : Option Row) (now was most : ℕ) → OnSome found (now < was) → was < most → OnSome found (now < most)
fewer None now was most less within = tt
fewer (Some row) now was most less within = omega (arith, less, within)
