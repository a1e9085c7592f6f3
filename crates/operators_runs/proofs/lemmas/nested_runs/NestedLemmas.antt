-- A run over tables and the rows of the queries in a query.
use Rattle.std.proofs.Common.{◌++◌, ◌∷◌, inl, inr, ℕ, All, List, [], Vec, map, Result, Ok, Err, subst}
use Rattle.std.specs.Result.{MatchResult}
use Rattle.std.proofs.lemmas.List.Elements.{All-append, All-cons, All-nil}
use Rattle.std.specs.Global.{Global}
use Rattle.values.specs.Sink.{SinkFacts}
use Rattle.values.specs.declared.value.Value.{Value}
use Rattle.values.specs.declared.fault.Fault.{Fault}
use Rattle.values.proofs.SinkLemmas.{Appends-none}
use Rattle.btree.specs.image.Pages.{Pages}
use Rattle.operators_runs.proofs.lemmas.inner_rows.KeptLemmas.{kept_are_stored}
use Rattle.operators_runs.specs.inner_rows.InnerView.{kept_rows}
use Rattle.operators_runs.specs.inner_rows.Over.{AreSaid, IsPlanOverKept, IsQueryCause, basis_over}
use Rattle.semantics.proofs.AnswerLemmas.{Begins-empty}
use Rattle.semantics.specs.Query.{QueryData}
use Rattle.operators_runs.specs.nested_runs.Writes.{IsNestedCause, WritesBeginning, WritesPermitted}
use Rattle.operators_loops.specs.Basis.{AreStored, Basis, IsOperatorFault}
use Rattle.logical_plan.specs.Plan.{once}
use Rattle.logical_plan_queries.specs.Answers.{PlannedData}
use Rattle.operators_runs.specs.Faults.{IsRunCause}
use Rattle.operators_runs.specs.Runs.{WritesAnswer}
use Rattle.operators_runs.specs.Runs as runs
use Rattle.operators_runs.proofs.PrintedLemmas.{not_operators}
use Rattle.operators_scan.proofs.StepLemmas.{tables_alone}
use Rattle.operators_scan.specs.Coming.{IsStoredSource}
use Rattle.values.specs.Row.{rows_data}
use Rattle.logical_plan.specs.answers.Sources.{of_rows, of_table, sources_of}
use Rattle.schema_tables.specs.TableData.{TableData}

-- kept rows are there
kept_stored : (pages : Pages) (kept : List (Vec (Vec Value Global) Global)) → All (IsStoredSource pages) (map (λ rows. of_rows (rows_data rows.items)) kept)
kept_stored pages [] = All-nil (IsStoredSource pages)
kept_stored pages (rows ∷ kept) = All-cons (IsStoredSource pages) (of_rows (rows_data rows.items)) (map (λ rows. of_rows (rows_data rows.items)) kept) tt (kept_stored pages kept)

-- where tables are stored, so are they with rows behind them
pub stored_behind : (pages : Pages) (tables : List TableData) (kept : List (Vec (Vec Value Global) Global)) → All (IsStoredSource pages) (sources_of tables [])
    → All (IsStoredSource pages) (sources_of tables kept)
stored_behind pages tables kept all =
    All-append (IsStoredSource pages) (map of_table tables) (map (λ rows. of_rows (rows_data rows.items)) kept) (subst (All (IsStoredSource pages)) (tables_alone tables) all)
    (kept_stored pages kept)

-- nothing was written, as a query in it stopped
pub stopped_before : (pages : Pages) (tables : List TableData) (query : QueryData) (state : SinkFacts) (fault : Fault) → IsOperatorFault fault
    → ((on : Basis) → AreSaid pages tables on → IsQueryCause on query fault) → WritesBeginning pages tables query state state fault
stopped_before pages tables query state fault only cause = record {
  given = [];
  begins = λ on said. Begins-empty on.w on.db query;
  prints = record { cut = λ is. absurd (not_operators fault only is); whole = λ other. Appends-none state.written };
  cause = λ on said. as_nested on (cause on said);
}
  where
    as_nested : (on : Basis) → IsQueryCause on query fault → IsNestedCause on query fault
    as_nested on (inl read) = inl (inl read)
    as_nested on (inr hits) = inr hits

module _ (pages : Pages) (tables : List TableData) (query : QueryData) (kept : List (Vec (Vec Value Global) Global)) (planned : PlannedData)
    (plan : (on : Basis) → AreSaid pages tables on → IsPlanOverKept on query (kept_rows kept) planned) where
  over : Basis → Basis
  over on = basis_over tables on (kept_rows kept) once

  stored_over : (on : Basis) → AreSaid pages tables on → AreStored pages (sources_of tables kept) (over on)
  unfolding over
  stored_over on said = kept_are_stored pages tables kept on once said

  cause_of : (on : Basis) → AreSaid pages tables on → (fault : Fault) → IsRunCause (over on) planned fault → IsNestedCause on query fault
  unfolding over
  cause_of on said fault (inl outside) = inl outside
  cause_of on said fault (inr hits) = inr (hits.0, (plan on said).hits hits.1)

  pub wrote_whole : (old new : SinkFacts) (counted : ℕ) → WritesAnswer pages (sources_of tables kept) planned old new counted
      → WritesPermitted pages tables query old new counted
  unfolding over
  wrote_whole old new counted wrote = record {
    given = wrote.given;
    permits = λ on said. (plan on said).permits wrote.given (wrote.answer (over on) (stored_over on said));
    prints = wrote.prints;
  }

  pub wrote_beginning : (old new : SinkFacts) (fault : Fault) → runs.WritesBeginning pages (sources_of tables kept) planned old new fault
      → WritesBeginning pages tables query old new fault
  unfolding over
  wrote_beginning old new fault wrote = record {
    given = wrote.given;
    begins = λ on said.
        let begins = wrote.begins (over on) (stored_over on said) in
        record { rest = begins.0; permitted = (plan on said).permits (wrote.given ++ begins.0) begins.1 };
    prints = wrote.prints;
    cause = λ on said. cause_of on said fault (wrote.cause (over on) (stored_over on said));
  }

-- what a run of a plan over tables and rows behind them wrote
abbrev pub WritesOver : Pages → List TableData → List (Vec (Vec Value Global) Global) → PlannedData → SinkFacts → SinkFacts → Result ℕ Fault → Type 0
WritesOver pages tables kept planned old new result =
    MatchResult result (WritesAnswer pages (sources_of tables kept) planned old new) (runs.WritesBeginning pages (sources_of tables kept) planned old new)

pub wrote_over : (pages : Pages) (tables : List TableData) (query : QueryData) (kept : List (Vec (Vec Value Global) Global)) (planned : PlannedData)
    → ((on : Basis) → AreSaid pages tables on → IsPlanOverKept on query (kept_rows kept) planned) → (old new : SinkFacts) (result : Result ℕ Fault)
    → WritesOver pages tables kept planned old new result
    → MatchResult result (WritesPermitted pages tables query old new) (WritesBeginning pages tables query old new)
wrote_over pages tables query kept planned plan old new (Ok counted) wrote = wrote_whole pages tables query kept planned plan old new counted wrote
wrote_over pages tables query kept planned plan old new (Err e) wrote = wrote_beginning pages tables query kept planned plan old new e wrote
