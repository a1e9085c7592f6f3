-- A query that is run over its plan.
use Rattle.std.proofs.Common.{◌≡◌, ◌∙◌, ◌++◌, inl, inr, ℕ, List, [], MatchResult, OnOk, Option, Some, Result, Ok, Err, arith, sym}
use Rattle.values.specs.Sink.{SinkFacts}
use Rattle.values.specs.declared.fault.Fault.{Fault}
use Rattle.pager.specs.PagerState.{PagerState}
use Rattle.btree.specs.image.Pages.{Pages}
use Rattle.logical_plan.specs.answers.Sources.{sources_of}
use Rattle.logical_plan_queries.proofs.WideLemmas.{typed_wide}
use Rattle.logical_plan_queries.specs.Answers.{AreWideFor, IsPlanFor, PlannedData, work_of}
use Rattle.operators_loops.specs.Basis.{Basis}
use Rattle.operators_runs.proofs.lemmas.inner_rows.WorkLemmas.{body_is}
use Rattle.operators_runs.specs.Faults.{IsRunCause}
use Rattle.operators_runs.specs.Runs.{WritesAnswer}
use Rattle.operators_runs.specs.Runs as runs
use Rattle.operators_runs.specs.inner_rows.Over.{AreSaid}
use Rattle.operators_runs.specs.inner_rows.Work.{body_work}
use Rattle.operators_runs.specs.nested_runs.Writes.{IsNestedCause, WritesBeginning, WritesPermitted}
use Rattle.operators_scan.specs.scan.Coming.{Asks}
use Rattle.schema_tables.specs.ColumnTypes.{column_types}
use Rattle.schema_tables.specs.TableData.{TableData}
use Rattle.semantics.specs.Query.{QueryData}
use Rattle.semantics.specs.Typed.{IsTyped}

-- it has one plan
pub same_plan : (plan : Option PlannedData) (one other : PlannedData) → plan ≡ Some one → plan ≡ Some other → one ≡ other
same_plan plan one other is found = let both = sym is ∙ found in cc

module _ (pages : Pages) (tables : List TableData) (query : QueryData) (typed : IsTyped (column_types tables) query) where
  -- each row has as many values as its table has columns
  pub planned_wide : (on : Basis) → AreSaid pages tables on → AreWideFor on.db query.body
  planned_wide on said = typed_wide (column_types tables) on.db said.fits query typed

  module _ (planned : PlannedData) (plan : IsPlanFor query planned) where
    cause : (on : Basis) → AreSaid pages tables on → (fault : Fault) → IsRunCause on planned fault → IsNestedCause on query fault
    cause on said fault (inl outside) = inl outside
    cause on said fault (inr hits) = inr (hits.0, plan.hits on.w on.db (planned_wide on said) hits.1)

    -- what the plan's run wrote, the query permits
    pub planned_wrote : (old new : SinkFacts) (result : Result ℕ Fault)
        → MatchResult result (WritesAnswer pages (sources_of tables []) planned old new) (runs.WritesBeginning pages (sources_of tables []) planned old new)
        → MatchResult result (WritesPermitted pages tables query old new) (WritesBeginning pages tables query old new)
    planned_wrote old new (Ok counted) wrote = record {
      given = wrote.given;
      permits = λ on said. plan.permits on.w on.db wrote.given (planned_wide on said) (wrote.answer on said.stored);
      prints = wrote.prints;
    }
    planned_wrote old new (Err fault) wrote = record {
      given = wrote.given;
      begins = λ on said.
          let begins = wrote.begins on said.stored in
          record { rest = begins.0; permitted = plan.permits on.w on.db (wrote.given ++ begins.0) (planned_wide on said) begins.1 };
      prints = wrote.prints;
      cause = λ on said. cause on said fault (wrote.cause on said.stored);
    }

    -- its SELECTs may ask for no fewer pages
    pub planned_once : (on : Basis) → AreSaid pages tables on → (start now : PagerState) (result : Result ℕ Fault)
        → OnOk result (Asks on.local start (work_of on.w on.db on.sizes planned) now 0)
        → OnOk result (Asks on.local start (body_work on.w on.db on.sizes query.body) now 0)
    planned_once on said start now (Ok counted) asks =
        let less = plan.few on.w on.db on.sizes (planned_wide on said) in
        let whole = body_is on.w on.db on.sizes query.body in
        record { pages = let most = asks.pages in omega (arith, most, less, whole); chains = λ unchained. asks.chains unchained }
    planned_once on said start now (Err e) asks = tt
