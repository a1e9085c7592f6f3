-- Rows that are given once each.
use Rattle.std.proofs.Common.{◌≡◌, ◌∙◌, Bool, true, false, IsTrue, ℕ, List, [], ◌∷◌, refl, sym, ap}
use Rattle.values.specs.Row.{Row}
use Rattle.pager.specs.Calls.{SameImage}
use Rattle.pager.specs.PagerState.{PagerState}
use Rattle.btree.specs.image.Pages.{Pages, WhereSteady, pages_seen}
use Rattle.logical_plan.specs.answers.Sources.{SourceData}
use Rattle.operators_scan.specs.scan.Coming.{Asks}
use Rattle.operators_scan.proofs.lemmas.scan.ComingLemmas.{Asks-then}
use Rattle.operators_loops.specs.Basis.{AreStored, Basis, GivesRowOrNone, GivesNext, GivesNone}
use Rattle.operators_loops.proofs.RowLemmas.{Asks-less, at_start}
use Rattle.operators_results.specs.declared.stream.Results.{Results}
use Rattle.operators_results.specs.Coming.{IsComing}
use Rattle.operators_results.proofs.SliceLemmas.{none_sliced}
use Rattle.operators_results.specs.declared.distinct_results.first_rows.FirstRows.{FirstRows}
use Rattle.operators_results.specs.declared.distinct_results.stream.DistinctResults.{DistinctResults}
use Rattle.operators_results.specs.distinct_results.Coming.{IsDistinctComing, IsDistinctComingOf}
use Rattle.operators_results.specs.distinct_results.Firsts.{to_come}

-- what is still to come of what was at the start
abbrev pub StillComing : PagerState → List SourceData → DistinctResults → Results → FirstRows → PagerState → Type 0
StillComing start sources begun results first now =
    WhereSteady start (λ pages. (on : Basis) (rest : List Row) (ahead : ℕ) → AreStored pages sources on → IsDistinctComing pages sources on begun rest ahead
    → (left : ℕ) × IsDistinctComingOf pages sources on results first rest left × Asks on.local start ahead now left)

-- what a call answers of the result rows to come
abbrev pub Called : List SourceData → Results → Results → Bool → Row → PagerState → PagerState → Pages → Type 0
Called sources old new found row now then pages =
    (on : Basis) (rows : List Row) (more : ℕ) → AreStored pages sources on → IsComing pages sources on old rows more
    → GivesRowOrNone found on.local now more then rows row (IsComing pages sources on new)

-- a row is the next, or passed over
abbrev pub GivesRow : FirstRows → FirstRows → Row → Type 0
GivesRow old new row = (rows : List Row) → to_come old (row ∷ rows) ≡ row ∷ to_come new rows

abbrev pub PassesRow : FirstRows → FirstRows → Row → Type 0
PassesRow old new row = (rows : List Row) → to_come old (row ∷ rows) ≡ to_come new rows

module _ (start now : PagerState) (image : SameImage start now) (sources : List SourceData) (begun : DistinctResults) (results : Results) (first : FirstRows)
    (keeps : StillComing start sources begun results first now)
    (steady : IsTrue start.source.steady) (on : Basis) (rest : List Row) (ahead : ℕ) (has : AreStored (pages_seen start) sources on)
    (coming : IsDistinctComing (pages_seen start) sources on begun rest ahead) where
  here : (left : ℕ) × IsDistinctComingOf (pages_seen start) sources on results first rest left × Asks on.local start ahead now left
  here = keeps steady on rest ahead has coming

  -- LIMIT leaves no further row
  pub slice_ended : ((rows : List Row) → to_come first rows ≡ []) → GivesNone on.local start ahead now rest
  slice_ended done = record {
    rest_is = here.1.rest_is ∙ done here.1.rows;
    asks = Asks-less on.local start ahead now here.0 here.2;
  }

  -- what is said of the result rows to come
  pub results_say : (Then : Basis → Type 0)
      → WhereSteady now (λ pages. (on : Basis) (rows : List Row) (more : ℕ) → AreStored pages sources on → IsComing pages sources on results rows more → Then on)
      → Then on
  results_say Then says =
      at_start start now image (λ pages. (on : Basis) (rows : List Row) (more : ℕ) → AreStored pages sources on → IsComing pages sources on results rows more → Then on) says steady
      on here.1.rows here.0 has here.1.coming

  module _ (new : Results) (row : Row) (then : PagerState) where
    -- there is no further result row
    pub results_ended : WhereSteady now (Called sources results new false row now then) → GivesNone on.local start ahead then rest
    results_ended called =
        let none = at_start start now image (Called sources results new false row now then) called steady on here.1.rows here.0 has here.1.coming in
        record {
          rest_is = here.1.rest_is ∙ ap (to_come first) none.rest_is ∙ none_sliced first.slice [] refl;
          asks = Asks-then on.local start ahead now here.0 then 0 here.2 none.asks;
        }

    module _ (called : WhereSteady now (Called sources results new true row now then)) where
      given : GivesNext on.local now here.0 then here.1.rows row (IsComing (pages_seen start) sources on new)
      given = at_start start now image (Called sources results new true row now then) called steady on here.1.rows here.0 has here.1.coming

      asks : Asks on.local start ahead then given.left
      asks = Asks-then on.local start ahead now here.0 then given.left here.2 given.asks

      -- the row is given
      pub row_given : (out : Row) (next : FirstRows) → out ≡ row → GivesRow first next row
          → GivesNext on.local start ahead then rest out (IsDistinctComingOf (pages_seen start) sources on new next)
      row_given out next is gives = record {
        later = to_come next given.later;
        left = given.left;
        rest_is = here.1.rest_is ∙ ap (to_come first) given.rest_is ∙ gives given.later ∙ ap (λ row. row ∷ to_come next given.later) (sym is);
        is_left = record { rows = given.later; coming = given.is_left; rest_is = refl };
        asks = asks;
      }

      -- it is passed over
      pub row_passed : (next : FirstRows) → PassesRow first next row
          → (left : ℕ) × IsDistinctComingOf (pages_seen start) sources on new next rest left × Asks on.local start ahead then left
      row_passed next passes = (
        given.left,
        record {
          rows = given.later;
          coming = given.is_left;
          rest_is = here.1.rest_is ∙ ap (to_come first) given.rest_is ∙ passes given.later;
        },
        asks,
      )
