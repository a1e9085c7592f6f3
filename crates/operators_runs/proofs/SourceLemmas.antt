-- The rows of a table or of kept rows, and what is written of them.
use Rattle.std.proofs.Common.{◌≡◌, ◌∙◌, arith, Bool, false, ℕ, List, refl, sym, subst, Result, Ok, Err, MatchResult, OnOk}
use Rattle.values.specs.Row.{Row}
use Rattle.values.specs.Sink.{SinkFacts}
use Rattle.values.specs.declared.fault.Fault.{Fault}
use Rattle.pager.specs.PagerState.{PagerState}
use Rattle.btree.specs.image.Pages.{Pages}
use Rattle.schema_tables.specs.TableData.{TableData}
use Rattle.records_tables.specs.Tables.{IsAnyStored}
use Rattle.records_tables.proofs.TableLemmas.{stored_once}
use Rattle.operators_scan.specs.scan.Coming.{Asks, size_of}
use Rattle.operators_scan.proofs.lemmas.scan.ComingLemmas.{Asks-none}
use Rattle.operators_scan.specs.Coming.{HasRows, IsStoredSource, IsStoredWith}
use Rattle.logical_plan.specs.answers.Sources.{SourceData, of_rows, of_table}
use Rattle.operators_runs.specs.Stream.{AsksFew, Streams, StreamsUntil}

-- a source has the same rows, however it is said
pub same_rows : (pages : Pages) (source : SourceData) (local other : Bool) (rows these : List Row) (size n : ℕ) → HasRows pages source local rows size
    → HasRows pages source other these n → rows ≡ these
same_rows pages (of_table table) local other rows these size n has is = sym has.rows_are ∙ stored_once pages table has.stored is.stored ∙ is.rows_are
same_rows pages (of_rows kept) local other rows these size n has is = sym has.0 ∙ is.0

-- it has some rows
pub record HasSomeRows (pages : Pages) (source : SourceData) : Type 0 where
  pub rows : List Row
  pub size : ℕ
  pub has : HasRows pages source false rows size

pub some_rows : (pages : Pages) (source : SourceData) → IsStoredSource pages source → HasSomeRows pages source
some_rows pages (of_table table) stored = record {
  rows = stored.rows;
  size = size_of pages table stored.levels;
  has = record { stored = stored; rows_are = refl; size_is = refl; unchained = λ local. absurd cc };
}
some_rows pages (of_rows kept) stored = record { rows = kept; size = 0; has = (refl, refl) }

-- ---- what is written of either

module _ (columns : List ℕ) (result : Result ℕ Fault) (old new : SinkFacts) where
  abbrev pub Wrote : List Row → Type 0
  Wrote rows = MatchResult result (λ counted. Streams columns rows counted old new) (λ e. StreamsUntil e columns rows old new)

  pub table_written : (pages : Pages) (table : TableData) (source : SourceData) → source ≡ of_table table → ((stored : IsAnyStored pages table) → Wrote stored.rows)
      → (local : Bool) (rows : List Row) (size : ℕ) → HasRows pages source local rows size → Wrote rows
  table_written pages table source is call local rows size has =
      let stored = subst (λ (s : SourceData). HasRows pages s local rows size) is has in
      subst (λ (rows : List Row). Wrote rows) stored.rows_are (call stored.stored)

  pub kept_written : (pages : Pages) (kept : List Row) (source : SourceData) → source ≡ of_rows kept → Wrote kept
      → (local : Bool) (rows : List Row) (size : ℕ) → HasRows pages source local rows size → Wrote rows
  kept_written pages kept source is wrote local rows size has =
      let are = subst (λ (s : SourceData). HasRows pages s local rows size) is has in
      subst (λ (rows : List Row). Wrote rows) are.0 wrote

-- ---- the pages that are asked for

table_few : (pages : Pages) (table : TableData) (local : Bool) (rows : List Row) (size : ℕ) (has : IsStoredWith pages table local rows size) (start now : PagerState)
    → AsksFew pages table has.stored.levels start now → Asks local start size now 0
table_few pages table local rows size has start now few = record {
  pages = let most = few.asked in let same = has.size_is in omega (arith, most, same);
  chains = λ is. few.unchained (has.unchained is);
}

pub table_asks : (pages : Pages) (table : TableData) (result : Result ℕ Fault) (start now : PagerState) (source : SourceData) → source ≡ of_table table
    → ((stored : IsAnyStored pages table) → OnOk result (AsksFew pages table stored.levels start now))
    → (local : Bool) (rows : List Row) (size : ℕ) → HasRows pages source local rows size → OnOk result (Asks local start size now 0)
table_asks pages table (Ok n) start now source is call local rows size has =
    let stored = subst (λ (s : SourceData). HasRows pages s local rows size) is has in
    table_few pages table local rows size stored start now (call stored.stored)
table_asks pages table (Err e) start now source is call local rows size has = tt

-- kept rows ask for none
pub kept_asks : (pages : Pages) (kept : List Row) (result : Result ℕ Fault) (start : PagerState) (source : SourceData) → source ≡ of_rows kept
    → (local : Bool) (rows : List Row) (size : ℕ) → HasRows pages source local rows size → OnOk result (Asks local start size start 0)
kept_asks pages kept (Ok n) start source is local rows size has =
    let are = subst (λ (s : SourceData). HasRows pages s local rows size) is has in
    subst (λ (n : ℕ). Asks local start n start 0) (sym are.1) (Asks-none local start 0)
kept_asks pages kept (Err e) start source is local rows size has = tt
