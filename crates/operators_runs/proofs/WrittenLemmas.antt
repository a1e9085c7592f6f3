-- Rows of a plan that is run, written one after another.
use Rattle.std.proofs.Common.{◌≡◌, ◌∙◌, ◌+◌, ◌-◌, ◌^◌, inl, inr, min, arith, Bool, true, ℕ, List, [], ◌∷◌, ◌++◌, length, OnOk, Result, Ok, Err, refl, sym, ap, append-nil, append_assoc, subst}
use Rattle.std.proofs.lemmas.Grind.{common_steps}
use Rattle.std.specs.Io.KnownBytes.{Appends}
use Rattle.values.specs.Row.{Row}
use Rattle.values.specs.Sink.{SinkFacts, Writes}
use Rattle.values.specs.declared.fault.Fault.{Fault}
use Rattle.values.specs.declared.fault.Fault.TheVariants.{WriteFailed}
use Rattle.values.proofs.SinkLemmas.{Appends-none, Appends-then}
use Rattle.pager.specs.PagerState.{PagerState}
use Rattle.pager.specs.Calls.{SameImage}
use Rattle.pager.proofs.CallLemmas.{SameImage-trans}
use Rattle.btree.specs.image.Pages.{Pages, WhereSteady, pages_seen}
use Rattle.logical_plan.specs.answers.Sources.{SourceData}
use Rattle.operators_scan.specs.scan.Coming.{Asks}
use Rattle.operators_scan.proofs.lemmas.scan.ComingLemmas.{Asks-none, Asks-then}
use Rattle.operators_loops.specs.Basis.{AreStored, Basis, IsOperatorFault}
use Rattle.operators.specs.Left.{plan_of}
use Rattle.logical_plan_queries.specs.Answers.{IsAnswerOf, PlannedData}
use Rattle.explain.specs.Text.{row_text, rows_text}
use Rattle.operators_runs.specs.Faults.{IsRunCause}
use Rattle.operators_runs.specs.Runs.{BeginsAnswer, WritesAnswer, WritesBeginning}
use Rattle.operators_runs.specs.execution.Given.{HasAhead, HasAsked, HasGiven, IsRowCause, IsRunOver}
use Rattle.operators_runs.specs.declared.execution.rows.Execution.{Execution}
use Rattle.operators_runs.specs.declared.execution.rows.Execution.TheVariants.{Rows, Distinct, Chained, Waiting, Giving}
use Rattle.operators_runs.proofs.lemmas.execution.GivenLemmas.{stored_with, with_plan}
use Rattle.operators_runs.proofs.lemmas.inner_rows.AddingLemmas.{at_first}
use Rattle.operators_runs.proofs.AnswerLemmas.{some_answer}
use Rattle.operators_runs.proofs.PrintedLemmas.{not_operators, nothing_printed, rows_text-append, rows_text-push}

-- what stops a plan stops its run
run_cause : (on : Basis) (planned : PlannedData) (e : Fault) → IsRowCause on planned e → IsRunCause on planned e
run_cause on planned e (inl read) = inl (inl read)
run_cause on planned e (inr over) = inr over

-- the rows that were given are the front of an answer
pub given_begin : (pages : Pages) (sources : List SourceData) (planned : PlannedData) (execution : Execution) (given : List Row)
    → HasGiven pages sources planned execution given → (on : Basis) → AreStored pages sources on → BeginsAnswer on.w on.db planned given
given_begin pages sources planned (Rows results) given comes on has =
    let here = comes.rows (with_plan on (plan_of results.op)) (stored_with pages sources on (plan_of results.op) has) refl in (here.rest, here.answer)
given_begin pages sources planned (Distinct distinct) given comes on has =
    let here = comes.rows (with_plan on (plan_of distinct.results.op)) (stored_with pages sources on (plan_of distinct.results.op) has) refl in (here.rest, here.answer)
given_begin pages sources planned (Chained chained) given comes on has = let here = comes.rows on has in (here.rest, here.answer)
given_begin pages sources planned (Waiting plan) given waits on has =
    let some = some_answer on.w on.db planned in (some.0, subst (λ (front : List Row). IsAnswerOf on.w on.db planned (front ++ some.0)) (sym waits.0) some.1)
given_begin pages sources planned (Giving rows) given all on has = (rows, all on has)

-- a fault before the first row
pub none_written : (start : PagerState) (sources : List SourceData) (planned : PlannedData) (e : Fault) (old : SinkFacts) → IsOperatorFault e
    → WhereSteady start (λ pages. (on : Basis) → AreStored pages sources on → IsRowCause on planned e)
    → WhereSteady start (λ pages. WritesBeginning pages sources planned old old e)
none_written start sources planned e old only causes = λ steady. record {
  given = [];
  begins = λ on has. some_answer on.w on.db planned;
  prints = nothing_printed e old (not_operators e only);
  cause = λ on has. run_cause on planned e (causes steady on has);
}

-- ---- one after another

-- What the loop keeps: rows were given, whose text is written, and others are to come.
pub record Writing (start now : PagerState) (sources : List SourceData) (first execution : Execution) (n : ℕ) (old new : SinkFacts) : Type 0 where
  pub given : List Row
  pub image : SameImage start now
  pub failures : now.source.failures ≡ start.source.failures
  pub writes : new.failures ≡ old.failures
  pub over : IsRunOver sources execution
  pub written : Appends old.written new.written (rows_text given)
  pub counted : n ≡ min (length given) (2 ^ 64 - 1)
  pub come : WhereSteady start (λ pages. (planned : PlannedData) → HasGiven pages sources planned first [] → HasGiven pages sources planned execution given)
  pub asked : WhereSteady start (λ pages. (on : Basis) (ahead : ℕ) → AreStored pages sources on → HasAhead pages sources on first ahead
      → (left : ℕ) × HasAhead pages sources on execution left × Asks on.local start ahead now left)

pub Writing-start : (start : PagerState) (sources : List SourceData) (execution : Execution) (n : ℕ) (old : SinkFacts) → SameImage start start
    → IsRunOver sources execution → n ≡ 0 → Writing start start sources execution execution n old old
Writing-start start sources execution n old image over none = record {
  given = [];
  image = image;
  failures = refl;
  writes = refl;
  over = over;
  written = Appends-none old.written;
  counted = omega (arith, none);
  come = λ steady planned has. has;
  asked = λ steady on ahead has all. (ahead, all, Asks-none on.local start ahead);
}

module _ (start now : PagerState) (sources : List SourceData) (first execution : Execution) (n : ℕ) (old mid : SinkFacts)
    (s : Writing start now sources first execution n old mid) where
  module _ (next : Execution) (row : Row) (then : PagerState) where
    abbrev pub CallsNext : Type 0
    CallsNext = WhereSteady now (λ pages. (planned : PlannedData) (given : List Row) → HasGiven pages sources planned execution given
        → HasGiven pages sources planned next (given ++ row ∷ []))

    abbrev pub AsksNext : Type 0
    AsksNext = WhereSteady now (λ pages. (on : Basis) (ahead : ℕ) → AreStored pages sources on → HasAhead pages sources on execution ahead
        → HasAsked pages sources on now ahead then next true)

    more_come : CallsNext → WhereSteady start (λ pages. (planned : PlannedData) → HasGiven pages sources planned first [] → HasGiven pages sources planned next (s.given ++ row ∷ []))
    more_come call = λ steady planned begun.
        at_first start now s.image
        (λ pages. (planned : PlannedData) (given : List Row) → HasGiven pages sources planned execution given → HasGiven pages sources planned next (given ++ row ∷ []))
        call steady planned s.given (s.come steady planned begun)

    pub Writing-next : (new : SinkFacts) (n' : ℕ) → CallsNext → AsksNext → SameImage now then → then.source.failures ≡ now.source.failures → IsRunOver sources next
        → Writes {T = Unit {0}} (row_text row) (Ok tt) mid new → n' ≡ min (n + 1) (2 ^ 64 - 1)
        → Writing start then sources first next n' old new
    Writing-next new n' call asks image failures over wrote is = record {
      given = s.given ++ (row ∷ []);
      image = SameImage-trans start now then s.image image;
      failures = failures ∙ s.failures;
      writes = wrote.failures ∙ s.writes;
      over = over;
      written = rw (rows_text-push s.given row) (Appends-then _ _ _ _ _ s.written wrote.written);
      counted = let long = s.counted in grind (arith, common_steps);
      come = more_come call;
      asked = λ steady on ahead has all.
          let here = s.asked steady on ahead has all in
          let more = at_first start now s.image
          (λ pages. (on : Basis) (ahead : ℕ) → AreStored pages sources on → HasAhead pages sources on execution ahead → HasAsked pages sources on now ahead then next true)
          asks steady on here.0 has here.1 in
          (more.0, more.1, Asks-then on.local start ahead now here.0 then more.0 here.2 more.2);
    }

    -- a failed write of the row
    pub Writing-cut : (e : Fault) (new : SinkFacts) → CallsNext → e ≡ WriteFailed → Writes {T = Unit {0}} (row_text row) (Err e) mid new
        → WhereSteady start (λ pages. (planned : PlannedData) → HasGiven pages sources planned first [] → WritesBeginning pages sources planned old new e)
    Writing-cut e new call is wrote = λ steady planned begun. record {
      given = s.given ++ (row ∷ []);
      begins = given_begin (pages_seen start) sources planned next (s.given ++ (row ∷ [])) (more_come call steady planned begun);
      prints = record {
        cut = λ _. record {
          done = rows_text s.given ++ wrote.written.done;
          rest = wrote.written.rest;
          whole =
              append_assoc (rows_text s.given) wrote.written.done wrote.written.rest ∙ ap (λ t. rows_text s.given ++ t) wrote.written.whole
              ∙ sym (rows_text-push s.given row);
          written = Appends-then _ _ _ (rows_text s.given) wrote.written.done s.written wrote.written.written;
        };
        whole = λ other. absurd (other is);
      };
      cause = λ on has. inl (inr is);
    }

  -- no row is to come
  pub Writing-done : WhereSteady now (λ pages. (planned : PlannedData) (given : List Row) → HasGiven pages sources planned execution given
      → (on : Basis) → AreStored pages sources on → IsAnswerOf on.w on.db planned given)
      → WhereSteady start (λ pages. (planned : PlannedData) → HasGiven pages sources planned first [] → WritesAnswer pages sources planned old mid n)
  Writing-done call = λ steady planned begun. record {
    given = s.given;
    answer =
        at_first start now s.image
        (λ pages. (planned : PlannedData) (given : List Row) → HasGiven pages sources planned execution given
        → (on : Basis) → AreStored pages sources on → IsAnswerOf on.w on.db planned given)
        call steady planned s.given (s.come steady planned begun);
    prints = record { written = s.written; counted_is = s.counted };
  }

  pub Writing-few : (then : PagerState) → WhereSteady now (λ pages. (on : Basis) (ahead : ℕ) → AreStored pages sources on → HasAhead pages sources on execution ahead
      → Asks on.local now ahead then 0)
      → WhereSteady start (λ pages. (on : Basis) (ahead : ℕ) → AreStored pages sources on → HasAhead pages sources on first ahead → Asks on.local start ahead then 0)
  Writing-few then asks = λ steady on ahead has all.
      let here = s.asked steady on ahead has all in
      let none = at_first start now s.image
      (λ pages. (on : Basis) (ahead : ℕ) → AreStored pages sources on → HasAhead pages sources on execution ahead → Asks on.local now ahead then 0)
      asks steady on here.0 has here.1 in
      Asks-then on.local start ahead now here.0 then 0 here.2 none

  -- a fault before the next row
  pub Writing-stopped : (e : Fault) → IsOperatorFault e
      → WhereSteady now (λ pages. (planned : PlannedData) (given : List Row) → HasGiven pages sources planned execution given
      → (on : Basis) → AreStored pages sources on → IsRowCause on planned e)
      → WhereSteady start (λ pages. (planned : PlannedData) → HasGiven pages sources planned first [] → WritesBeginning pages sources planned old mid e)
  Writing-stopped e only call = λ steady planned begun. record {
    given = s.given;
    begins = given_begin (pages_seen start) sources planned execution s.given (s.come steady planned begun);
    prints = record { cut = λ is. absurd (not_operators e only is); whole = λ _. s.written };
    cause = λ on has.
        run_cause on planned e
        (at_first start now s.image
        (λ pages. (planned : PlannedData) (given : List Row) → HasGiven pages sources planned execution given
        → (on : Basis) → AreStored pages sources on → IsRowCause on planned e)
        call steady planned s.given (s.come steady planned begun) on has);
  }

-- ---- rows that were gathered

-- What the loop keeps: of all these rows some are written, and these are left.
pub record Lines (all left : List Row) (n : ℕ) (old new : SinkFacts) : Type 0 where
  pub given : List Row
  pub whole : given ++ left ≡ all
  pub failures : new.failures ≡ old.failures
  pub written : Appends old.written new.written (rows_text given)
  pub counted : n ≡ min (length given) (2 ^ 64 - 1)

pub Lines-start : (all : List Row) (n : ℕ) (old : SinkFacts) → n ≡ 0 → Lines all all n old old
Lines-start all n old none = record {
  given = [];
  whole = refl;
  failures = refl;
  written = Appends-none old.written;
  counted = omega (arith, none);
}

module _ (all left : List Row) (n : ℕ) (old mid : SinkFacts) (s : Lines all left n old mid) where
  module _ (row : Row) (later : List Row) (new : SinkFacts) (first : left ≡ row ∷ later) where
    pub Lines-next : (n' : ℕ) → Writes {T = Unit {0}} (row_text row) (Ok tt) mid new → n' ≡ min (n + 1) (2 ^ 64 - 1) → Lines all later n' old new
    Lines-next n' wrote is = record {
      given = s.given ++ (row ∷ []);
      whole = append_assoc s.given (row ∷ []) later ∙ ap (λ rest. s.given ++ rest) (sym first) ∙ s.whole;
      failures = wrote.failures ∙ s.failures;
      written = rw (rows_text-push s.given row) (Appends-then _ _ _ _ _ s.written wrote.written);
      counted = let long = s.counted in grind (arith, common_steps);
    }

    -- a failed write of the row
    pub Lines-cut : (e : Fault) → Writes {T = Unit {0}} (row_text row) (Err e) mid new → Writes {T = ℕ} (rows_text all) (Err e) old new
    Lines-cut e wrote = record {
      written = record {
        done = rows_text s.given ++ wrote.written.done;
        rest = wrote.written.rest ++ rows_text later;
        whole =
            sym (append_assoc (rows_text s.given ++ wrote.written.done) wrote.written.rest (rows_text later))
            ∙ ap (λ t. t ++ rows_text later)
            (append_assoc (rows_text s.given) wrote.written.done wrote.written.rest ∙ ap (λ t. rows_text s.given ++ t) wrote.written.whole)
            ∙ append_assoc (rows_text s.given) (row_text row) (rows_text later)
            ∙ sym (rows_text-append s.given (row ∷ later))
            ∙ ap (λ rest. rows_text (s.given ++ rest)) (sym first)
            ∙ ap rows_text s.whole;
        written = Appends-then _ _ _ (rows_text s.given) wrote.written.done s.written wrote.written.written;
      };
      failures = λ is same. wrote.failures is (same ∙ sym s.failures);
    }

  module _ (none : left ≡ []) where
    all_given : s.given ≡ all
    all_given = sym (append-nil s.given) ∙ ap (λ rest. s.given ++ rest) (sym none) ∙ s.whole

    pub Lines-done : Writes {T = ℕ} (rows_text all) (Ok n) old mid
    Lines-done = record { written = rw (← all_given) s.written; failures = s.failures }

    pub Lines-counted : n ≡ min (length all) (2 ^ 64 - 1)
    Lines-counted = rw (← all_given) s.counted

-- ---- after what was asked for before the first row

-- what was asked for then and behind it is within what is ahead
pub asked_behind : (local : Bool) (start mid now : PagerState) (most left : ℕ) (result : Result ℕ Fault) → Asks local start most mid left
    → OnOk result (Asks local mid left now 0) → OnOk result (Asks local start most now 0)
asked_behind local start mid now most left (Ok counted) first then = Asks-then local start most mid left now 0 first then
asked_behind local start mid now most left (Err e) first then = tt
