-- Rows that are given one by one.
use Rattle.std.proofs.Common.{◌≡◌, ◌∙◌, inl, inr, Bool, true, false, ℕ, List, [], ◌∷◌, ◌++◌, IfOk, IfSome, map, None, Option, Some, Result, Ok, Err, MatchResult, refl, sym, ap, append-nil, append_assoc, subst}
use Rattle.std.specs.Global.{Vec}
use Rattle.values.specs.Database.{Database}
use Rattle.values.specs.Datum.{Datum}
use Rattle.values.specs.Row.{Row, rows_data}
use Rattle.values.specs.declared.fault.Fault.{Fault}
use Rattle.values.specs.declared.value.Value.{Value}
use Rattle.pager.specs.PagerState.{PagerState}
use Rattle.btree.specs.image.Pages.{Pages, WhereSteady, pages_seen}
use Rattle.logical_plan.specs.answers.Sources.{IsPlanOf, SourceData}
use Rattle.expr.specs.Term.{Term}
use Rattle.expr.specs.View.{term}
use Rattle.semantics.specs.Answer.{limited, skipped}
use Rattle.logical_plan.specs.Plan.{PlanData, rows_of, work}
use Rattle.operators_loops.specs.Basis.{AreStored, Basis, GivesRowOrNone, GivesNext, GivesNone}
use Rattle.operators.specs.Left.{GivesFirst, plan_of}
use Rattle.operators_results.specs.Coming.{IsComing, IsResultCause}
use Rattle.operators_results.specs.declared.stream.Results.{Results}
use Rattle.operators_results.specs.Slices.{sliced}
use Rattle.operators_results.specs.declared.limits.LimitOffset.{LimitOffset}
use Rattle.operators_results.specs.distinct_results.Coming.{IsDistinctComing}
use Rattle.operators_results.specs.declared.distinct_results.stream.DistinctResults.{DistinctResults}
use Rattle.logical_plan_queries.specs.Answers.{HitsOf, IsAnswerOf, IsPlannedOver, PlannedData, work_of}
use Rattle.logical_plan_queries.specs.select_plans.Laws.{PlanReaches}
use Rattle.logical_plan.specs.answers.Answers.{AnswerData, IsAnswer, IsShown, OrderData, answer_data}
use Rattle.logical_plan.specs.answers.Arms.{ArePlannedOver, ArmData, ArmsData, ArmsHit, each_once_if, one, result_rows, rows_of_arms, work_of_arms}
use Rattle.logical_plan.specs.declared.answers.Answer.{Answer}
use Rattle.windows_groups.specs.distinct_rows.Firsts.{firsts}
use Rattle.operators_results.specs.compound_results.Compounds.{IsArmsCause}
use Rattle.operators_results.specs.compound_results.InTurn.{IsChainComing, arms_of}
use Rattle.operators_results.specs.declared.compound_results.chained.ChainedResults.{ChainedResults}
use Rattle.operators_runs.specs.execution.Columns.{columns_arm}
use Rattle.operators_runs.specs.execution.Given.{Comes, HasAhead, HasAnswered, HasGiven, IsOpenedOf, IsOpenedRun, IsRowCause}
use Rattle.operators_runs.specs.declared.execution.rows.Execution.{Execution}
use Rattle.operators_runs.specs.declared.execution.rows.Execution.TheVariants.{Rows, Distinct, Chained, Waiting, Giving}
use Rattle.operators_runs.proofs.lemmas.execution.AskedLemmas.{columns_work, plan_ahead}
use Rattle.operators_runs.proofs.lemmas.execution.ColumnLemmas.{columns_answer, columns_reach_none}

-- what is said of sources, whatever plan is run
abbrev pub with_plan : Basis → PlanData → Basis
with_plan on plan = record on { plan = plan }

pub stored_with : (pages : Pages) (sources : List SourceData) (on : Basis) (plan : PlanData) → AreStored pages sources on → AreStored pages sources (with_plan on plan)
stored_with pages sources on plan has = λ at source found. has at source found

-- what a call of a stream says, whatever is to come
abbrev pub Says : Pages → List SourceData → (Basis → List Row → ℕ → Type 0) → (Basis → List Row → ℕ → Type 0) → Type 0
Says pages sources IsToCome Then = (on : Basis) (rest : List Row) (ahead : ℕ) → AreStored pages sources on → IsToCome on rest ahead → Then on rest ahead

module _ (pages : Pages) (sources : List SourceData) (planned : PlannedData) (plan : PlanData) (columns : List Term) (IsToCome : Basis → List Row → ℕ → Type 0) (given : List Row)
    (comes : Comes pages sources planned plan columns IsToCome given) (old new : PagerState) (row : Row) where
  -- a row more
  pub next_comes : (plan' : PlanData) (columns' : List Term) (IsLeft : Basis → List Row → ℕ → Type 0) → plan' ≡ plan → columns' ≡ columns
      → Says pages sources IsToCome (λ on rest ahead. GivesNext on.local old ahead new rest row (IsLeft on))
      → Comes pages sources planned plan' columns' IsLeft (given ++ row ∷ [])
  next_comes plan' columns' IsLeft plans terms says = record {
    rows = λ on has same.
        let here = comes.rows on has (same ∙ plans) in
        let gives = says on here.rest here.ahead has here.to_come in
        record {
          rest = gives.later;
          ahead = gives.left;
          answer =
              subst (IsAnswerOf on.w on.db planned)
              (ap (λ (rest : List Row). given ++ rest) gives.rest_is ∙ sym (append_assoc given (row ∷ []) gives.later)) here.answer;
          to_come = gives.is_left;
        };
    hits = λ w db reaches.
        comes.hits w db
        (subst (λ (p : PlanData). PlanReaches w db p columns) plans (subst (λ (terms : List Term). PlanReaches w db plan' terms) terms reaches));
  }

  -- no row more
  pub none_comes : Says pages sources IsToCome (λ on rest ahead. GivesNone on.local old ahead new rest)
      → (on : Basis) → AreStored pages sources on → IsAnswerOf on.w on.db planned given
  none_comes says on has =
      let stored = stored_with pages sources on plan has in
      let here = comes.rows (with_plan on plan) stored refl in
      let none = says (with_plan on plan) here.rest here.ahead stored here.to_come in
      subst (IsAnswerOf on.w on.db planned) (ap (λ (rest : List Row). given ++ rest) none.rest_is ∙ append-nil given) here.answer

  -- a fault has its cause
  pub comes_cause : (e : Fault) → Says pages sources IsToCome (λ on rest ahead. IsResultCause on columns e)
      → (on : Basis) → AreStored pages sources on → IsRowCause on planned e
  comes_cause e says on has =
      let stored = stored_with pages sources on plan has in
      let here = comes.rows (with_plan on plan) stored refl in
      cause (says (with_plan on plan) here.rest here.ahead stored here.to_come)
    where
      cause : IsResultCause (with_plan on plan) columns e → IsRowCause on planned e
      cause (inl read) = inl read
      cause (inr over) = inr (over.0, comes.hits on.w on.db over.1)

-- ---- what is run, a row further

module _ (start now : PagerState) (sources : List SourceData) (row : Row) where
  -- what a call says of what is run
  abbrev pub Steps : Execution → Execution → Result Bool Fault → Type 0
  Steps old new result =
      WhereSteady start (λ pages. (planned : PlannedData) (given : List Row) → HasGiven pages sources planned old given
      → MatchResult result (λ found. HasAnswered found pages sources planned new given row) (λ e. (on : Basis) → AreStored pages sources on → IsRowCause on planned e))

  module _ (old new : Results) (plans : plan_of new.op ≡ plan_of old.op) (terms : map term new.columns.items ≡ map term old.columns.items) where
    pub rows_step : (result : Result Bool Fault)
        → WhereSteady start (λ pages. (on : Basis) (rest : List Row) (ahead : ℕ) → AreStored pages sources on → IsComing pages sources on old rest ahead
        → MatchResult result (λ found. GivesRowOrNone found on.local start ahead now rest row (IsComing pages sources on new)) (IsResultCause on (map term old.columns.items)))
        → Steps (Rows old) (Rows new) result
    rows_step (Ok true) says steady planned given comes =
        next_comes (pages_seen start) sources planned (plan_of old.op) (map term old.columns.items) (λ on. IsComing (pages_seen start) sources on old) given comes start now row
        (plan_of new.op) (map term new.columns.items) (λ on. IsComing (pages_seen start) sources on new) plans terms (says steady)
    rows_step (Ok false) says steady planned given comes =
        none_comes (pages_seen start) sources planned (plan_of old.op) (map term old.columns.items) (λ on. IsComing (pages_seen start) sources on old) given comes start now row
        (says steady)
    rows_step (Err e) says steady planned given comes =
        comes_cause (pages_seen start) sources planned (plan_of old.op) (map term old.columns.items) (λ on. IsComing (pages_seen start) sources on old) given comes start now row
        e (says steady)

  module _ (old new : DistinctResults) (plans : plan_of new.results.op ≡ plan_of old.results.op)
      (terms : map term new.results.columns.items ≡ map term old.results.columns.items) where
    pub distinct_step : (result : Result Bool Fault)
        → WhereSteady start (λ pages. (on : Basis) (rest : List Row) (ahead : ℕ) → AreStored pages sources on → IsDistinctComing pages sources on old rest ahead
        → MatchResult result (λ found. GivesRowOrNone found on.local start ahead now rest row (IsDistinctComing pages sources on new))
        (IsResultCause on (map term old.results.columns.items)))
        → Steps (Distinct old) (Distinct new) result
    distinct_step (Ok true) says steady planned given comes =
        next_comes (pages_seen start) sources planned (plan_of old.results.op) (map term old.results.columns.items)
        (λ on. IsDistinctComing (pages_seen start) sources on old) given comes start now row
        (plan_of new.results.op) (map term new.results.columns.items) (λ on. IsDistinctComing (pages_seen start) sources on new) plans terms (says steady)
    distinct_step (Ok false) says steady planned given comes =
        none_comes (pages_seen start) sources planned (plan_of old.results.op) (map term old.results.columns.items)
        (λ on. IsDistinctComing (pages_seen start) sources on old) given comes start now row (says steady)
    distinct_step (Err e) says steady planned given comes =
        comes_cause (pages_seen start) sources planned (plan_of old.results.op) (map term old.results.columns.items)
        (λ on. IsDistinctComing (pages_seen start) sources on old) given comes start now row e (says steady)

  module _ (old new : ChainedResults) (hits : (w : Datum) (db : Database) → ArmsHit w db (arms_of new.arms) → ArmsHit w db (arms_of old.arms)) where
    pub chained_step : (result : Result Bool Fault)
        → WhereSteady start (λ pages. (on : Basis) (rest : List Row) (ahead : ℕ) → AreStored pages sources on → IsChainComing pages sources on old rest ahead
        → MatchResult result (λ found. GivesRowOrNone found on.local start ahead now rest row (IsChainComing pages sources on new)) (IsArmsCause on (arms_of old.arms)))
        → Steps (Chained old) (Chained new) result
    chained_step (Ok true) says steady planned given comes = record {
      rows = λ on has.
          let here = comes.rows on has in
          let gives : GivesNext on.local start here.ahead now here.rest row (IsChainComing (pages_seen start) sources on new) =
          says steady on here.rest here.ahead has here.to_come in
          record {
            rest = gives.later;
            ahead = gives.left;
            answer =
                subst (IsAnswerOf on.w on.db planned)
                (ap (λ (rest : List Row). given ++ rest) gives.rest_is ∙ sym (append_assoc given (row ∷ []) gives.later)) here.answer;
            to_come = gives.is_left;
          };
      hits = λ w db reached. comes.hits w db (hits w db reached);
    }
    chained_step (Ok false) says steady planned given comes = λ on has.
        let here = comes.rows on has in
        let none : GivesNone on.local start here.ahead now here.rest = says steady on here.rest here.ahead has here.to_come in
        subst (IsAnswerOf on.w on.db planned) (ap (λ (rest : List Row). given ++ rest) none.rest_is ∙ append-nil given) here.answer
    chained_step (Err e) says steady planned given comes = λ on has.
        let here = comes.rows on has in
        cause on (says steady on here.rest here.ahead has here.to_come)
      where
        cause : (on : Basis) → IsArmsCause on (arms_of old.arms) e → IsRowCause on planned e
        cause on (inl read) = inl read
        cause on (inr reached) = inr (reached.0, comes.hits on.w on.db reached.1)

  -- of the rows that were gathered the next is given, or there is none
  pub giving_answers : (pages : Pages) (planned : PlannedData) (given : List Row) (old new : List Row) (found : Bool)
      → GivesFirst found old new row
      → HasGiven pages sources planned (Giving old) given → HasAnswered found pages sources planned (Giving new) given row
  giving_answers pages planned given old new true first all = λ on has.
      subst (IsAnswerOf on.w on.db planned)
      (ap (λ (rest : List Row). given ++ rest) first ∙ sym (append_assoc given (row ∷ []) new)) (all on has)
  giving_answers pages planned given old new false none all = λ on has.
      subst (IsAnswerOf on.w on.db planned) (ap (λ (rest : List Row). given ++ rest) none ∙ append-nil given) (all on has)

  pub giving_step : (old new : List Row) (found : Bool) → GivesFirst found old new row
      → Steps (Giving old) (Giving new) (Ok found)
  giving_step old new found first steady planned given all = giving_answers (pages_seen start) planned given old new found first all

  module _ (gathered : Answer) where
    -- the rows are gathered, and the first of them is given
    pub waiting_step : (rows : Vec (Vec Value)) (old new : List Row) (found : Bool) → old ≡ rows_data rows.items
        → WhereSteady start (λ pages. (on : Basis) → AreStored pages sources on → IsAnswerOf on.w on.db (PlannedData.answer (answer_data gathered)) (rows_data rows.items))
        → GivesFirst found old new row → Steps (Waiting gathered) (Giving new) (Ok found)
    waiting_step rows old new found items answers first steady planned given waits =
        giving_answers (pages_seen start) planned given old new found first
        (λ on has.
        subst (λ (p : PlannedData). IsAnswerOf on.w on.db p (given ++ old)) (sym waits.1)
        (subst (λ (all : List Row). IsAnswerOf on.w on.db (PlannedData.answer (answer_data gathered)) all)
        (sym items ∙ ap (λ (before : List Row). before ++ old) (sym waits.0)) (answers steady on has)))

    pub waiting_stops : (then : Execution) (e : Fault)
        → WhereSteady start (λ pages. (on : Basis) → AreStored pages sources on → IsRowCause on (PlannedData.answer (answer_data gathered)) e) → Steps (Waiting gathered) then (Err e)
    waiting_stops then e causes steady planned given waits = λ on has.
        subst (λ (p : PlannedData). IsRowCause on p e) (sym waits.1) (causes steady on has)

-- ---- the first row

-- rows that an answer gives as they come
as_they_come : (w : Datum) (db : Database) (a : AnswerData) (arms : ArmsData) (slice : LimitOffset) → a.arms ≡ arms → a.order ≡ None
    → ((rows : List Row) → sliced slice rows ≡ limited a.limit (skipped a.offset rows)) → IsAnswer w db a (sliced slice (rows_of_arms w db arms))
as_they_come w db a arms slice arms_are none slices =
    subst (λ (order : Option OrderData). IsShown w order a.limit a.offset (rows_of_arms w db a.arms) (sliced slice (rows_of_arms w db arms))) (sym none)
    (slices (rows_of_arms w db arms) ∙ ap (λ (arms : ArmsData). limited a.limit (skipped a.offset (rows_of_arms w db arms))) (sym arms_are))

-- all rows over a plan are to come
come : (pages : Pages) (sources : List SourceData) (planned : PlannedData) (plan own : PlanData) (columns shown : List Term) (IsToCome : Basis → List Row → ℕ → Type 0)
    (all : Basis → List Row) → own ≡ plan → shown ≡ columns
    → ((on : Basis) → on.plan ≡ plan → IsToCome on (all on) (work on.w on.db on.sizes on.plan))
    → ((on : Basis) → on.plan ≡ plan → IsAnswerOf on.w on.db planned (all on))
    → ((w : Datum) (db : Database) → PlanReaches w db plan columns → HitsOf w db planned)
    → Comes pages sources planned own shown IsToCome []
come pages sources planned plan own columns shown IsToCome all plans terms coming answers hits = record {
  rows = λ on has same. record {
    rest = all on;
    ahead = work on.w on.db on.sizes on.plan;
    answer = answers on (same ∙ plans);
    to_come = coming on (same ∙ plans);
  };
  hits = λ w db reaches.
      hits w db
      (subst (λ (p : PlanData). PlanReaches w db p columns) plans (subst (λ (terms : List Term). PlanReaches w db own terms) terms reaches));
}

module _ (arm : ArmData) (slice : LimitOffset) (a : AnswerData) (arms_are : a.arms ≡ one arm) (none : a.order ≡ None)
    (slices : (rows : List Row) → sliced slice rows ≡ limited a.limit (skipped a.offset rows)) where
  -- the rows of the arm, of which the slice is left
  abbrev rest_of : Basis → List Row
  rest_of on = sliced slice (each_once_if arm.distinct (result_rows on.w arm.columns (rows_of on.w on.db on.plan)))

  arm_answers : (on : Basis) → on.plan ≡ arm.plan → IsAnswerOf on.w on.db (PlannedData.answer a) (rest_of on)
  arm_answers on same =
      subst (λ (p : PlanData). IsAnswer on.w on.db a (sliced slice (each_once_if arm.distinct (result_rows on.w arm.columns (rows_of on.w on.db p))))) (sym same)
      (as_they_come on.w on.db a (one arm) slice arms_are none slices)

  arm_hits : (w : Datum) (db : Database) → PlanReaches w db arm.plan arm.columns → HitsOf w db (PlannedData.answer a)
  arm_hits w db reaches = subst (ArmsHit w db) (sym arms_are) reaches

  arm_over : (sources : List SourceData) (own : PlanData) → own ≡ arm.plan → IsPlannedOver sources (PlannedData.answer a) → IsPlanOf sources own
  arm_over sources own plans over = subst (IsPlanOf sources) (sym plans) (subst (ArePlannedOver sources) arms_are over)

  arm_ahead : (on : Basis) (IsAhead : ℕ → Type 0) → IsAhead (work on.w on.db on.sizes arm.plan) → IsAhead (work_of on.w on.db on.sizes (PlannedData.answer a))
  arm_ahead on IsAhead ahead = subst (λ (arms : ArmsData). IsAhead (work_of_arms on.w on.db on.sizes arms)) (sym arms_are) ahead

  -- an arm whose rows come one by one
  pub rows_opened : (results : Results) → arm.distinct ≡ false → plan_of results.op ≡ arm.plan → map term results.columns.items ≡ arm.columns
      → ((pages : Pages) (sources : List SourceData) (on : Basis) → on.plan ≡ arm.plan
      → IsComing pages sources on results (sliced slice (result_rows on.w arm.columns (rows_of on.w on.db on.plan))) (work on.w on.db on.sizes on.plan))
      → IsOpenedRun (PlannedData.answer a) (Rows results)
  rows_opened results all plans terms coming =
      let each = λ (pages : Pages) (sources : List SourceData) (on : Basis) (same : on.plan ≡ arm.plan).
      subst (λ (b : Bool). IsComing pages sources on results (sliced slice (each_once_if b (result_rows on.w arm.columns (rows_of on.w on.db on.plan)))) (work on.w on.db on.sizes on.plan))
      (sym all) (coming pages sources on same) in
      record {
        given = λ pages sources.
            come pages sources (PlannedData.answer a) arm.plan (plan_of results.op) arm.columns (map term results.columns.items) (λ on. IsComing pages sources on results)
            rest_of plans terms (each pages sources) arm_answers arm_hits;
        over = λ sources over. arm_over sources (plan_of results.op) plans over;
        ahead = λ pages sources on.
            arm_ahead on (HasAhead pages sources on (Rows results))
            (plan_ahead on arm.plan (plan_of results.op) (λ on. IsComing pages sources on results) rest_of plans (each pages sources));
      }

  -- the same, each once
  pub distinct_opened : (distinct : DistinctResults) → arm.distinct ≡ true → plan_of distinct.results.op ≡ arm.plan → map term distinct.results.columns.items ≡ arm.columns
      → ((pages : Pages) (sources : List SourceData) (on : Basis) → on.plan ≡ arm.plan
      → IsDistinctComing pages sources on distinct (sliced slice (firsts (result_rows on.w arm.columns (rows_of on.w on.db on.plan)))) (work on.w on.db on.sizes on.plan))
      → IsOpenedRun (PlannedData.answer a) (Distinct distinct)
  distinct_opened distinct once plans terms coming =
      let each = λ (pages : Pages) (sources : List SourceData) (on : Basis) (same : on.plan ≡ arm.plan).
      subst (λ (b : Bool). IsDistinctComing pages sources on distinct (sliced slice (each_once_if b (result_rows on.w arm.columns (rows_of on.w on.db on.plan))))
      (work on.w on.db on.sizes on.plan)) (sym once) (coming pages sources on same) in
      record {
        given = λ pages sources.
            come pages sources (PlannedData.answer a) arm.plan (plan_of distinct.results.op) arm.columns (map term distinct.results.columns.items)
            (λ on. IsDistinctComing pages sources on distinct) rest_of plans terms (each pages sources) arm_answers arm_hits;
        over = λ sources over. arm_over sources (plan_of distinct.results.op) plans over;
        ahead = λ pages sources on.
            arm_ahead on (HasAhead pages sources on (Distinct distinct))
            (plan_ahead on arm.plan (plan_of distinct.results.op) (λ on. IsDistinctComing pages sources on distinct) rest_of plans (each pages sources));
      }

-- SELECTs whose rows come one by one, one SELECT after the other
pub chained_opened : (arms : ArmsData) (slice : LimitOffset) (chained : ChainedResults) → arms_of chained.arms ≡ arms
    → ((pages : Pages) (sources : List SourceData) (on : Basis)
    → IsChainComing pages sources on chained (sliced slice (rows_of_arms on.w on.db arms)) (work_of_arms on.w on.db on.sizes arms))
    → IsOpenedOf arms slice (Chained chained)
chained_opened arms slice chained same coming a arms_are none slices = record {
  given = λ pages sources. record {
    rows = λ on has. record {
      rest = sliced slice (rows_of_arms on.w on.db arms);
      ahead = work_of_arms on.w on.db on.sizes arms;
      answer = as_they_come on.w on.db a arms slice arms_are none slices;
      to_come = coming pages sources on;
    };
    hits = λ w db reached. subst (ArmsHit w db) (same ∙ sym arms_are) reached;
  };
  over = λ sources over. subst (ArePlannedOver sources) (arms_are ∙ sym same) over;
  ahead = λ pages sources on.
      subst (λ (whole : ArmsData). HasAhead pages sources on (Chained chained) (work_of_arms on.w on.db on.sizes whole)) (sym arms_are)
      (sliced slice (rows_of_arms on.w on.db arms), coming pages sources on);
}

-- an answer in no order gives the rows of its arms as they come
pub opened_told : {E : Type 0} (a : AnswerData) (arms : ArmsData) (slice : LimitOffset) → a.arms ≡ arms → a.order ≡ None
    → ((rows : List Row) → sliced slice rows ≡ limited a.limit (skipped a.offset rows)) → (found : Result (Option Execution) E)
    → IfOk found (λ opened. IfSome opened (IsOpenedOf arms slice)) → IfOk found (λ opened. IfSome opened (IsOpenedRun (PlannedData.answer a)))
opened_told a arms slice same none slices (Ok None) told = tt
opened_told a arms slice same none slices (Ok (Some running)) told = told a same none slices
opened_told a arms slice same none slices (Err e) told = tt

-- columns of each row of a table
pub columns_opened : (at : ℕ) (places : List ℕ) (arm : ArmData) → arm ≡ columns_arm at places
    → (results : Results) → plan_of results.op ≡ arm.plan → map term results.columns.items ≡ arm.columns
    → ((pages : Pages) (sources : List SourceData) (on : Basis) → on.plan ≡ arm.plan
    → IsComing pages sources on results (result_rows on.w arm.columns (rows_of on.w on.db on.plan)) (work on.w on.db on.sizes on.plan))
    → IsOpenedRun (PlannedData.columns at places) (Rows results)
columns_opened at places arm is results plans terms coming =
    let all = λ (on : Basis). result_rows on.w arm.columns (rows_of on.w on.db on.plan) in
    record {
      given = λ pages sources.
          come pages sources (PlannedData.columns at places) arm.plan (plan_of results.op) arm.columns (map term results.columns.items) (λ on. IsComing pages sources on results)
          all plans terms (coming pages sources)
          (λ on same.
          ap (λ (p : PlanData). result_rows on.w arm.columns (rows_of on.w on.db p)) same
          ∙ ap (λ (arm : ArmData). result_rows on.w arm.columns (rows_of on.w on.db arm.plan)) is ∙ columns_answer on.w on.db at places)
          (λ w db reaches. columns_reach_none w db at places (subst (λ (arm : ArmData). PlanReaches w db arm.plan arm.columns) is reaches));
      over = λ sources over. subst (λ (p : PlanData). IsPlanOf sources p) (sym (plans ∙ ap (λ (arm : ArmData). arm.plan) is)) (tt, over);
      ahead = λ pages sources on.
          subst (HasAhead pages sources on (Rows results))
          (ap (λ (arm : ArmData). work on.w on.db on.sizes arm.plan) is ∙ columns_work on at places)
          (plan_ahead on arm.plan (plan_of results.op) (λ on. IsComing pages sources on results) all plans (coming pages sources));
    }
