-- What is given of a table or of kept rows, is given of what stands at a place.
use Rattle.std.proofs.Common.{◌≡◌, ◌∙◌, ◌⊎◌, inl, inr, Bool, ℕ, List, IfErr, MatchResult, Result, Ok, Err, arith, drop, refl, sym, subst}
use Rattle.values.specs.Row.{Row}
use Rattle.values.specs.declared.fault.Fault.{Fault}
use Rattle.values.specs.declared.fault.Fault.TheVariants.{NoMemory, Overflow, ReadFailed}
use Rattle.pager.specs.Calls.{ReadsPages, SameImage, TellsFailedRead}
use Rattle.pager.specs.PagerState.{PagerState}
use Rattle.btree.specs.image.Pages.{Pages}
use Rattle.btree_cursor.specs.declared.cursor.cursor.Cursor.{Cursor}
use Rattle.schema_tables.specs.TableData.{TableData}
use Rattle.operators_scan.specs.scan.Coming.{Asks, IsToCome, size_of}
use Rattle.operators_scan.proofs.lemmas.scan.ComingLemmas.{Asks-none}
use Rattle.expr.specs.Term.{Term}
use Rattle.logical_plan.specs.answers.Sources.{SourceData, of_table}
use Rattle.operators_scan.specs.Coming.{AreToCome, IsStoredWith}
use Rattle.operators_scan.specs.declared.rows.SourceCursor.TheVariants.{Stored}
use Rattle.operators_scan.specs.declared.tested_rows.stored.Taken.{Taken}
use Rattle.operators_scan.specs.declared.tested_rows.stored.Taken.TheVariants.{End, Passed, Found}
use Rattle.operators_scan.specs.tested_rows.Tested.{GivesTested, IsTakeCause}

-- a table is opened
pub table_opened : (pages : Pages) (source : SourceData) (table : TableData) → source ≡ of_table table → (local : Bool) (rows : List Row) (size : ℕ)
    → (has : IsStoredWith pages table local rows size) (cursor : Cursor) (old new : PagerState)
    → (left : ℕ) × IsToCome pages table local cursor has.stored.rows left × Asks local old (size_of pages table has.stored.levels) new left
    → (left : ℕ) × AreToCome pages source local (Stored cursor) rows left × Asks local old size new left
table_opened pages source table is local rows size has cursor old new given = (
  given.0,
  subst (λ (s : SourceData). AreToCome pages s local (Stored cursor) rows given.0) (sym is)
      (subst (λ (rs : List Row). IsToCome pages table local cursor rs given.0) has.rows_are given.1),
  subst (λ (n : ℕ). Asks local old n new given.0) has.size_is given.2,
)

module _ (kept : List Row) (local : Bool) (tests : List Term) (columns : List ℕ) (old new : ℕ) (rows : List Row) (ahead : ℕ) (state : PagerState)
    (before after : Row) (is : rows ≡ drop old kept) where
  -- a kept row is taken, or there is none: no page is asked for
  kept_taken : (taken : Taken) → GivesTested taken tests columns (drop old kept) before after (λ later. later ≡ drop new kept)
      → GivesTested taken tests columns rows before after (λ later. (left : ℕ) × (later ≡ drop new kept) × Asks local state ahead state left)
  kept_taken Found gives = (gives.0, gives.1, is ∙ gives.2, gives.3, gives.4, (ahead, gives.5, Asks-none local state ahead))
  kept_taken Passed gives = (gives.0, gives.1, is ∙ gives.2, gives.3, (ahead, gives.4, Asks-none local state ahead))
  kept_taken End gives = (is ∙ gives.0, gives.1, (ahead, gives.2, Asks-none local state ahead))

  kept_cause : (e : Fault) → IsTakeCause tests columns (drop old kept) before e → IsTakeCause tests columns rows before e
  kept_cause e (inl read) = inl read
  kept_cause e (inr out) = inr (out.0, (out.1.0, out.1.1, is ∙ out.1.2, out.1.3))

  pub kept_tested : (result : Result Taken Fault)
      → MatchResult result (λ taken. GivesTested taken tests columns (drop old kept) before after (λ later. later ≡ drop new kept))
      (IsTakeCause tests columns (drop old kept) before)
      → MatchResult result
      (λ taken. GivesTested taken tests columns rows before after (λ later. (left : ℕ) × (later ≡ drop new kept) × Asks local state ahead state left))
      (IsTakeCause tests columns rows before)
  kept_tested (Ok taken) gives = kept_taken taken gives
  kept_tested (Err e) cause = kept_cause e cause

-- a call that asks for no page, and whose faults aren't those of a source
same : (state : PagerState) → SameImage state state
same state = record { bytes = refl; steady = refl; header = refl; capacity = refl; asked = omega arith; chained = omega arith }

tells : (e : Fault) (failures : ℕ) → (e ≡ Overflow) ⊎ (e ≡ NoMemory) → TellsFailedRead e failures failures
tells e failures (inl is) = (λ read none. let other : Overflow ≡ ReadFailed = sym is ∙ read in cc, λ risen. absurd (risen refl))
tells e failures (inr is) = (λ read none. let other : NoMemory ≡ ReadFailed = sym is ∙ read in cc, λ risen. absurd (risen refl))

pub none_read : {T : Type 0} (state : PagerState) (result : Result T Fault) → IfErr result (λ e. (e ≡ Overflow) ⊎ (e ≡ NoMemory))
    → ReadsPages result state state
none_read state (Ok value) only = record { image = same state; failures = refl }
none_read state (Err e) only = record { image = same state; failures = tells e state.source.failures only }
