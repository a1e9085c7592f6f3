-- The first row of a plan, where it has one.
use Rattle.std.proofs.Common.{Bool, true, false, ℕ, List, [], ◌∷◌, refl, arith, IsPermutation}
use Rattle.std.proofs.lemmas.List.Sorted.{length_permutation}
use Rattle.values.specs.Row.{Row}
use Rattle.pager.specs.PagerState.{PagerState}
use Rattle.btree.specs.image.Pages.{Pages}
use Rattle.operators_loops.specs.Basis.{AreStored, Basis}
use Rattle.operators.specs.Left.{plan_of}
use Rattle.logical_plan_queries.specs.Answers.{IsAnswerOf, PlannedData}
use Rattle.operators_runs.specs.execution.Given.{HasAsked, HasGiven}
use Rattle.operators_runs.proofs.lemmas.execution.GivenLemmas.{stored_with, with_plan}
use Rattle.operators_runs.specs.declared.execution.rows.Execution.{Execution}
use Rattle.operators_runs.specs.declared.execution.rows.Execution.TheVariants.{Rows, Distinct, Chained, Waiting, Giving}
use Rattle.operators_scan.specs.scan.Coming.{Asks}
use Rattle.logical_plan.specs.answers.Sources.{SourceData}
use Rattle.operators_runs.specs.inner_rows.Computed.{AreSomeWhere}
use Rattle.operators_runs.specs.inner_rows.Over.{BeginsAnswer}

-- of a bag there are some whatever its order
pub some_alike : (xs ys : List Row) → IsPermutation xs ys → AreSomeWhere xs ys
some_alike [] [] p = refl
some_alike (x ∷ xs) (y ∷ ys) p = refl
some_alike [] (y ∷ ys) p = let long = length_permutation [] (y ∷ ys) p in absurd (omega (arith, long))
some_alike (x ∷ xs) [] p = let long = length_permutation (x ∷ xs) [] p in absurd (omega (arith, long))

module _ (pages : Pages) (sources : List SourceData) (on : Basis) (stored : AreStored pages sources on) (planned : PlannedData) where
  -- what is to come makes an answer of a row that was given
  pub row_begins : (running : Execution) (row : Row) → HasGiven pages sources planned running (row ∷ []) → BeginsAnswer on planned (row ∷ [])
  row_begins (Rows results) row given =
      let done = given.rows (with_plan on (plan_of results.op)) (stored_with pages sources on (plan_of results.op) stored) refl in
      record { rest = done.rest; answer = done.answer; some = refl }
  row_begins (Distinct distinct) row given =
      let done = given.rows (with_plan on (plan_of distinct.results.op)) (stored_with pages sources on (plan_of distinct.results.op) stored) refl in
      record { rest = done.rest; answer = done.answer; some = refl }
  row_begins (Chained chained) row given = let done = given.rows on stored in record { rest = done.rest; answer = done.answer; some = refl }
  row_begins (Waiting gathered) row given = absurd (let none = given.0 in cc)
  row_begins (Giving rows) row given = record { rest = rows; answer = given on stored; some = refl }

  pub none_begins : IsAnswerOf on.w on.db planned [] → BeginsAnswer on planned []
  none_begins answer = record { rest = []; answer = answer; some = refl }

-- whatever is still ahead
pub asks_whole : (pages : Pages) (sources : List SourceData) (on : Basis) (old new : PagerState) (ahead : ℕ) (running : Execution) (found : Bool)
    → HasAsked pages sources on old ahead new running found → Asks on.local old ahead new 0
asks_whole pages sources on old new ahead running true (left, has, asks) = record {
  pages = let x = asks.pages in omega (arith, x);
  chains = λ unchained. asks.chains unchained;
}
asks_whole pages sources on old new ahead running false asks = asks
