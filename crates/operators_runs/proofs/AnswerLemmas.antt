-- The answers of a plan.
use Rattle.std.proofs.Common.{◌≡◌, ◌∙◌, inl, Bool, false, ℕ, ℤ, zero, suc, All, List, [], ◌∷◌, map, slice_get, None, Option, Some, refl, sym, ap, subst, IsPermutation}
use Rattle.std.proofs.lemmas.List.{map-append}
use Rattle.std.proofs.lemmas.List.Elements.{All-head, All-tail}
use Rattle.std.proofs.lemmas.List.Sorted.{ranks_by}
use Rattle.values.specs.Database.{Database}
use Rattle.values.specs.Datum.{Datum}
use Rattle.values.specs.Row.{Row}
use Rattle.values.specs.Sink.{SinkFacts}
use Rattle.values.specs.declared.fault.Fault.{Fault}
use Rattle.btree.specs.image.Pages.{Pages}
use Rattle.operators_scan.specs.Coming.{HasRows, IsStoredSource}
use Rattle.logical_plan.specs.answers.Sources.{SourceData}
use Rattle.semantics.specs.Answer.{Ascends, key_directions, limited, skipped}
use Rattle.semantics.specs.Body.{Output}
use Rattle.semantics.specs.Query.{Key}
use Rattle.semantics.specs.OneTable.{shown}
use Rattle.semantics.specs.Sequence.{ascending}
use Rattle.semantics.proofs.AnswerLemmas.{is_before}
use Rattle.semantics.proofs.KeyLemmas.{keys_cmp_total}
use Rattle.semantics.proofs.OrderLemmas.{IsSortedBy-ascending, ascending-same}
use Rattle.logical_plan.specs.Plan.{table_rows, table_size}
use Rattle.operators_loops.specs.Basis.{AreStored, Basis}
use Rattle.operators_loops.proofs.RowLemmas.{some_one}
use Rattle.logical_plan.specs.answers.Answers.{IsShown, OrderData, shown_output}
use Rattle.logical_plan.specs.answers.Arms.{rows_of_arms}
use Rattle.logical_plan_queries.specs.Answers.{IsAnswerOf, PlannedData}
use Rattle.operators_runs.specs.Faults.{IsOutsideFault}
use Rattle.operators_runs.specs.Printed.{PrintsUntil}
use Rattle.operators_runs.specs.Runs.{WritesAnswer, WritesBeginning}
use Rattle.operators_runs.specs.Stream.{Streams, StreamsUntil}
use Rattle.operators_runs.proofs.SourceLemmas.{HasSomeRows, same_rows, some_rows}

-- ---- columns of one source

all_at : {X : Type 0} (P : X → Type 0) (xs : List X) (i : ℕ) (x : X) → All P xs → slice_get xs i ≡ Some x → P x
all_at P [] i x all at = absurd cc
all_at {X} P (first ∷ xs) zero x all at = subst (λ (z : X). P z) (some_one first x at) (All-head P first xs all)
all_at P (first ∷ xs) (suc i) x all at = all_at P xs i x (All-tail P first xs all) at

-- what writes these columns of each row that a source has
abbrev pub WritesOf : Pages → SourceData → (List Row → Type 0) → Type 0
WritesOf pages source Writes = (local : Bool) (rows : List Row) (size : ℕ) → HasRows pages source local rows size → Writes rows

module _ (pages : Pages) (sources : List SourceData) (at : ℕ) (places : List ℕ) (source : SourceData) (found : slice_get sources at ≡ Some source) where
  -- its rows are those that are said of it
  said : (local : Bool) (rows : List Row) (size : ℕ) → HasRows pages source local rows size → (on : Basis) → AreStored pages sources on → rows ≡ table_rows on.db at
  said local rows size has on stored = same_rows pages source local on.local rows (table_rows on.db at) size (table_size on.sizes at) has (stored at source found)

  module _ (all : All (IsStoredSource pages) sources) (old new : SinkFacts) where
    some : HasSomeRows pages source
    some = some_rows pages source (all_at (IsStoredSource pages) sources at source all found)

    pub columns_answer : (n : ℕ) → WritesOf pages source (λ rows. Streams places rows n old new)
        → WritesAnswer pages sources (PlannedData.columns at places) old new n
    columns_answer n streams = record {
      given = map (shown places) some.rows;
      answer = λ on has. ap (map (shown places)) (said false some.rows some.size some.has on has);
      prints = streams false some.rows some.size some.has;
    }

    pub columns_stopped : (e told : Fault) → WritesOf pages source (λ rows. StreamsUntil e places rows old new)
        → (IsOutsideFault e → told ≡ e) → WritesBeginning pages sources (PlannedData.columns at places) old new told
    columns_stopped e told streams same =
        let until = streams false some.rows some.size some.has in
        let is_told = same until.outside in
        record {
          given = map (shown places) until.given;
          begins = λ on has. (
            map (shown places) until.rest,
            sym (map-append (shown places) until.given until.rest) ∙ ap (map (shown places)) (until.whole ∙ said false some.rows some.size some.has on has),
          );
          prints = subst (λ (f : Fault). PrintsUntil f (map (shown places) until.given) old new) (sym is_told) until.prints;
          cause = λ on has. inl (subst IsOutsideFault (sym is_told) until.outside);
        }

-- ---- each plan has some answer

-- outputs in some order that ascends
pub record Ordered (order : List Key) (made : List Output) : Type 0 where
  pub ordered : List Output
  pub same : IsPermutation made ordered
  pub ascends : Ascends order ordered

pub some_order : (order : List Key) (made : List Output) → Ordered order made
some_order order made = record {
  ordered = ascending (is_before order) made;
  same = ascending-same (is_before order) made;
  ascends = IsSortedBy-ascending (is_before order) (ranks_by (keys_cmp_total (key_directions order)) (λ (o : Output). o.keys)) made;
}

-- some rows are shown
some_shown : (w : Datum) (order : Option OrderData) (limit : Option ℤ) (offset : ℤ) (all : List Row) → (rows : List Row) × IsShown w order limit offset all rows
some_shown w None limit offset all = (limited limit (skipped offset all), refl)
some_shown w (Some order) limit offset all =
    let some = some_order order.keys (map (shown_output w order) all) in (
      map (λ o. o.row) (limited limit (skipped offset some.ordered)),
      record { ordered = some.ordered; same = some.same; ascends = some.ascends; shown = refl },
    )

pub some_answer : (w : Datum) (db : Database) (planned : PlannedData) → (answer : List Row) × IsAnswerOf w db planned answer
some_answer w db (PlannedData.columns at places) = (map (shown places) (table_rows db at), refl)
some_answer w db (PlannedData.answer a) = some_shown w a.order a.limit a.offset (rows_of_arms w db a.arms)
