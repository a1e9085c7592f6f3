-- Of the rows of SELECTs those that LIMIT and OFFSET leave.
use Rattle.std.proofs.Common.{◌≡◌, ◌∙◌, Bool, true, false, IsTrue, ℕ, List, [], refl, ap, subst}
use Rattle.values.specs.Row.{Row}
use Rattle.pager.specs.Calls.{SameImage}
use Rattle.pager.specs.PagerState.{PagerState}
use Rattle.btree.specs.image.Pages.{Pages, WhereSteady, pages_seen}
use Rattle.logical_plan.specs.answers.Sources.{SourceData}
use Rattle.operators_scan.specs.scan.Coming.{Asks}
use Rattle.operators_scan.proofs.lemmas.scan.ComingLemmas.{Asks-then}
use Rattle.operators_loops.specs.Basis.{AreStored, Basis, GivesRowOrNone, GivesNext, GivesNone}
use Rattle.operators_loops.proofs.RowLemmas.{Asks-less, at_start}
use Rattle.operators_results.specs.declared.limits.LimitOffset.{LimitOffset}
use Rattle.operators_results.specs.Slices.{sliced}
use Rattle.operators_results.proofs.SliceLemmas.{none_sliced}
use Rattle.operators_results.proofs.StreamLemmas.{GivesFirst, PassesFirst}
use Rattle.logical_plan.specs.answers.Arms.{ArmsData, rows_of_arms, work_of_arms}
use Rattle.operators_results.specs.compound_results.InTurn.{AreComing, AreWaiting, IsChainComing, IsChainComingOf, arms_of}
use Rattle.operators_results.specs.declared.compound_results.chained.ArmsInTurn.{ArmsInTurn}
use Rattle.operators_results.specs.declared.compound_results.chained.ChainedResults.{ChainedResults}
use Rattle.operators_results.proofs.lemmas.compound_results.ChainLemmas.{waiting_come}

-- all rows that are left of arms before their first rows
pub chain_come : (pages : Pages) (sources : List SourceData) (on : Basis) (arms : ArmsInTurn) (slice : LimitOffset) (whole : ArmsData) (rest : List Row)
    → AreWaiting pages sources on arms → arms_of arms ≡ whole → rest ≡ sliced slice (rows_of_arms on.w on.db whole)
    → IsChainComingOf pages sources on arms slice rest (work_of_arms on.w on.db on.sizes whole)
chain_come pages sources on arms slice whole rest waiting same is = record {
  rows = rows_of_arms on.w on.db whole;
  coming =
      subst (λ (whole : ArmsData). AreComing pages sources on arms (rows_of_arms on.w on.db whole) (work_of_arms on.w on.db on.sizes whole)) same
      (waiting_come pages sources on arms waiting);
  rest_is = is;
}

-- what is still to come of what was at the start
abbrev pub StillSliced : PagerState → List SourceData → ChainedResults → ArmsInTurn → LimitOffset → PagerState → Type 0
StillSliced start sources begun arms slice now =
    WhereSteady start (λ pages. (on : Basis) (rest : List Row) (ahead : ℕ) → AreStored pages sources on → IsChainComing pages sources on begun rest ahead
    → (left : ℕ) × IsChainComingOf pages sources on arms slice rest left × Asks on.local start ahead now left)

-- what a call answers of the rows of the arms
abbrev pub CalledArms : List SourceData → ArmsInTurn → ArmsInTurn → Bool → Row → PagerState → PagerState → Pages → Type 0
CalledArms sources old new found row now then pages =
    (on : Basis) (rows : List Row) (more : ℕ) → AreStored pages sources on → AreComing pages sources on old rows more
    → GivesRowOrNone found on.local now more then rows row (AreComing pages sources on new)

module _ (start now : PagerState) (image : SameImage start now) (sources : List SourceData) (begun : ChainedResults) (arms : ArmsInTurn) (slice : LimitOffset)
    (keeps : StillSliced start sources begun arms slice now)
    (steady : IsTrue start.source.steady) (on : Basis) (rest : List Row) (ahead : ℕ) (has : AreStored (pages_seen start) sources on)
    (coming : IsChainComing (pages_seen start) sources on begun rest ahead) where
  here : (left : ℕ) × IsChainComingOf (pages_seen start) sources on arms slice rest left × Asks on.local start ahead now left
  here = keeps steady on rest ahead has coming

  -- LIMIT leaves no further row
  pub slice_ended : ((rows : List Row) → sliced slice rows ≡ []) → GivesNone on.local start ahead now rest
  slice_ended done = record {
    rest_is = here.1.rest_is ∙ done here.1.rows;
    asks = Asks-less on.local start ahead now here.0 here.2;
  }

  -- what is said of the rows to come of the arms
  pub arms_say : (Then : Basis → Type 0)
      → WhereSteady now (λ pages. (on : Basis) (rows : List Row) (more : ℕ) → AreStored pages sources on → AreComing pages sources on arms rows more → Then on)
      → Then on
  arms_say Then says =
      at_start start now image (λ pages. (on : Basis) (rows : List Row) (more : ℕ) → AreStored pages sources on → AreComing pages sources on arms rows more → Then on) says steady
      on here.1.rows here.0 has here.1.coming

  module _ (new : ArmsInTurn) (row : Row) (then : PagerState) where
    -- they have no further row
    pub none_left : WhereSteady now (CalledArms sources arms new false row now then) → GivesNone on.local start ahead then rest
    none_left called =
        let none = at_start start now image (CalledArms sources arms new false row now then) called steady on here.1.rows here.0 has here.1.coming in
        record {
          rest_is = here.1.rest_is ∙ ap (sliced slice) none.rest_is ∙ none_sliced slice [] refl;
          asks = Asks-then on.local start ahead now here.0 then 0 here.2 none.asks;
        }

    module _ (called : WhereSteady now (CalledArms sources arms new true row now then)) where
      given : GivesNext on.local now here.0 then here.1.rows row (AreComing (pages_seen start) sources on new)
      given = at_start start now image (CalledArms sources arms new true row now then) called steady on here.1.rows here.0 has here.1.coming

      asks : Asks on.local start ahead then given.left
      asks = Asks-then on.local start ahead now here.0 then given.left here.2 given.asks

      -- the row is given
      pub row_given : (next : LimitOffset) → GivesFirst slice next
          → GivesNext on.local start ahead then rest row (IsChainComingOf (pages_seen start) sources on new next)
      row_given next gives = record {
        later = sliced next given.later;
        left = given.left;
        rest_is = here.1.rest_is ∙ ap (sliced slice) given.rest_is ∙ gives row given.later;
        is_left = record { rows = given.later; coming = given.is_left; rest_is = refl };
        asks = asks;
      }

      -- it is passed over
      pub row_passed : (next : LimitOffset) → PassesFirst slice next
          → (left : ℕ) × IsChainComingOf (pages_seen start) sources on new next rest left × Asks on.local start ahead then left
      row_passed next passes = (
        given.left,
        record {
          rows = given.later;
          coming = given.is_left;
          rest_is = here.1.rest_is ∙ ap (sliced slice) given.rest_is ∙ passes row given.later;
        },
        asks,
      )
