-- Result rows that are given one by one.
use Rattle.std.proofs.Common.{◌≡◌, ◌∙◌, ◌⊎◌, inl, inr, Bool, true, false, All, Contains, IsTrue, ℕ, List, [], ◌∷◌, refl, sym, ap, subst}
use Rattle.std.proofs.lemmas.List.Elements.{All-head, All-tail}
use Rattle.values.specs.Row.{Row}
use Rattle.values.specs.declared.fault.Fault.{Fault}
use Rattle.values.specs.declared.fault.Fault.TheVariants.{NoMemory, Overflow}
use Rattle.pager.specs.Calls.{SameImage}
use Rattle.pager.specs.PagerState.{PagerState}
use Rattle.btree.specs.image.Pages.{WhereSteady, pages_seen}
use Rattle.logical_plan.specs.answers.Sources.{SourceData}
use Rattle.expr.specs.Meaning.{eval}
use Rattle.expr.specs.Term.{Term}
use Rattle.semantics.specs.Valuation.{term_values}
use Rattle.logical_plan.specs.Plan.{ReachesOverflow, rows_of}
use Rattle.logical_plan.proofs.HitLemmas.{any_here}
use Rattle.operators_scan.specs.scan.Coming.{Asks}
use Rattle.operators_scan.proofs.lemmas.scan.ComingLemmas.{Asks-then}
use Rattle.operators.specs.declared.tree.Op.{Op}
use Rattle.operators_loops.specs.Basis.{AreStored, Basis, GivesNext, GivesNone, IsCause}
use Rattle.operators.specs.Left.{IsLeft}
use Rattle.operators_loops.proofs.RowLemmas.{Asks-less, at_start}
use Rattle.operators.proofs.StepLemmas.{Called}
use Rattle.operators_results.specs.declared.limits.LimitOffset.{LimitOffset}
use Rattle.operators_results.specs.declared.stream.Results.{Results}
use Rattle.operators_results.specs.Slices.{sliced}
use Rattle.operators_results.specs.Coming.{IsComing, IsComingOf, IsResultCause}
use Rattle.logical_plan.specs.answers.Arms.{result_rows}
use Rattle.operators_results.proofs.SliceLemmas.{none_sliced}

-- what is still to come of what was at the start
abbrev pub ComingAt : PagerState → List SourceData → Results → Op → Row → List Term → LimitOffset → PagerState → Type 0
ComingAt start sources first op row columns slice now =
    WhereSteady start (λ pages. (on : Basis) (rest : List Row) (ahead : ℕ) → AreStored pages sources on → IsComing pages sources on first rest ahead
    → (left : ℕ) × IsComingOf pages sources on op row columns slice rest left × Asks on.local start ahead now left)

abbrev pub StillComing : PagerState → List SourceData → Results → Results → PagerState → Type 0
StillComing start sources first self now =
    WhereSteady start (λ pages. (on : Basis) (rest : List Row) (ahead : ℕ) → AreStored pages sources on → IsComing pages sources on first rest ahead
    → (left : ℕ) × IsComing pages sources on self rest left × Asks on.local start ahead now left)

-- a slice gives the next row, or passes it over
abbrev pub GivesFirst : LimitOffset → LimitOffset → Type 0
GivesFirst old new = (row : Row) (rows : List Row) → sliced old (row ∷ rows) ≡ row ∷ sliced new rows

abbrev pub PassesFirst : LimitOffset → LimitOffset → Type 0
PassesFirst old new = (row : Row) (rows : List Row) → sliced old (row ∷ rows) ≡ sliced new rows

-- a fault of an operator
pub plan_cause : (on : Basis) (columns : List Term) (e : Fault) → IsCause on e → IsResultCause on columns e
plan_cause on columns e (inl read) = inl read
plan_cause on columns e (inr over) = inr (over.0, inl over.1)

module _ (start now : PagerState) (image : SameImage start now) (sources : List SourceData) (first : Results) (op : Op) (row : Row) (columns : List Term) (slice : LimitOffset)
    (keeps : ComingAt start sources first op row columns slice now)
    (steady : IsTrue start.source.steady) (on : Basis) (rest : List Row) (ahead : ℕ) (has : AreStored (pages_seen start) sources on)
    (coming : IsComing (pages_seen start) sources on first rest ahead) where
  here : (left : ℕ) × IsComingOf (pages_seen start) sources on op row columns slice rest left × Asks on.local start ahead now left
  here = keeps steady on rest ahead has coming

  -- LIMIT leaves no further row
  pub slice_ended : ((rows : List Row) → sliced slice rows ≡ []) → GivesNone on.local start ahead now rest
  slice_ended done = record {
    rest_is = here.1.rest_is ∙ done (result_rows on.w columns here.1.rows);
    asks = Asks-less on.local start ahead now here.0 here.2;
  }

  -- what is said of the rows that the operator has to give
  pub op_says : (Then : Basis → Type 0)
      → WhereSteady now (λ pages. (on : Basis) (rows : List Row) (more : ℕ) → AreStored pages sources on → IsLeft pages sources on op row rows more → Then on)
      → Then on
  op_says Then says =
      at_start start now image (λ pages. (on : Basis) (rows : List Row) (more : ℕ) → AreStored pages sources on → IsLeft pages sources on op row rows more → Then on) says steady
      on here.1.rows here.0 has here.1.is_left

  module _ (new : Op) (after : Row) (then : PagerState) where
    abbrev pub CallsOp : Bool → Type 0
    CallsOp found = WhereSteady now (Called sources op new found row after now then)

    -- the operator has no further row
    pub op_ended : CallsOp false → GivesNone on.local start ahead then rest
    op_ended called =
        let none = at_start start now image (Called sources op new false row after now then) called steady on here.1.rows here.0 has here.1.is_left in
        record {
          rest_is = here.1.rest_is ∙ none_sliced slice (result_rows on.w columns here.1.rows) (ap (result_rows on.w columns) none.rest_is);
          asks = Asks-then on.local start ahead now here.0 then 0 here.2 none.asks;
        }

    module _ (called : CallsOp true) where
      given : GivesNext on.local now here.0 then here.1.rows after (IsLeft (pages_seen start) sources on new after)
      given = at_start start now image (Called sources op new true row after now then) called steady on here.1.rows here.0 has here.1.is_left

      all_among : All (Contains (rows_of on.w on.db on.plan)) (after ∷ given.later)
      all_among = subst (λ (rows : List Row). All (Contains (rows_of on.w on.db on.plan)) rows) given.rest_is here.1.among

      later_among : All (Contains (rows_of on.w on.db on.plan)) given.later
      later_among = All-tail (Contains (rows_of on.w on.db on.plan)) after given.later all_among

      asks : Asks on.local start ahead then given.left
      asks = Asks-then on.local start ahead now here.0 then given.left here.2 given.asks

      rest_split : rest ≡ sliced slice (term_values (eval on.w) columns after ∷ result_rows on.w columns given.later)
      rest_split = here.1.rest_is ∙ ap (λ rows. sliced slice (result_rows on.w columns rows)) given.rest_is

      -- a result column on the row has no value
      pub column_cause : (e : Fault) → (e ≡ Overflow) ⊎ (e ≡ NoMemory) → (e ≡ Overflow → ReachesOverflow columns after) → IsResultCause on columns e
      column_cause e (inl is) reaches =
          inr (is, inr (any_here (ReachesOverflow columns) (rows_of on.w on.db on.plan) after (All-head (Contains (rows_of on.w on.db on.plan)) after given.later all_among) (reaches is)))
      column_cause e (inr is) reaches = inl (inr is)

      -- the row is given
      pub row_given : (out : Row) (next : LimitOffset) → out ≡ term_values (eval on.w) columns after → GivesFirst slice next
          → GivesNext on.local start ahead then rest out (IsComingOf (pages_seen start) sources on new after columns next)
      row_given out next is gives = record {
        later = sliced next (result_rows on.w columns given.later);
        left = given.left;
        rest_is =
            rest_split ∙ gives (term_values (eval on.w) columns after) (result_rows on.w columns given.later)
            ∙ ap (λ row. row ∷ sliced next (result_rows on.w columns given.later)) (sym is);
        is_left = record { rows = given.later; is_left = given.is_left; rest_is = refl; among = later_among };
        asks = asks;
      }

      -- it is passed over
      pub row_passed : (next : LimitOffset) → PassesFirst slice next
          → (left : ℕ) × IsComingOf (pages_seen start) sources on new after columns next rest left × Asks on.local start ahead then left
      row_passed next passes = (
        given.left,
        record {
          rows = given.later;
          is_left = given.is_left;
          rest_is = rest_split ∙ passes (term_values (eval on.w) columns after) (result_rows on.w columns given.later);
          among = later_among;
        },
        asks,
      )
