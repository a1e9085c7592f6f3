-- The rows that a SELECT DISTINCT still has to give. (SELECT, "Removal of duplicate rows (DISTINCT processing)" and "The LIMIT
-- clause")
use Rattle.std.specs.Prelude.{◌≡◌, ℕ, List}
use Rattle.values.specs.Row.{Row}
use Rattle.btree.specs.image.Pages.{Pages}
use Rattle.logical_plan.specs.answers.Sources.{SourceData}
use Rattle.operators_loops.specs.Basis.{Basis}
use Rattle.operators_results.specs.Coming.{IsComing}
use Rattle.operators_results.specs.declared.stream.Results.{Results}
use Rattle.operators_results.specs.distinct_results.Firsts.{to_come}
use Rattle.operators_results.specs.declared.distinct_results.first_rows.FirstRows.{FirstRows}
use Rattle.operators_results.specs.declared.distinct_results.stream.DistinctResults.{DistinctResults}

-- These rows are to come, and so many pages may still be asked for. They are what is given of the result rows to come.
pub record IsDistinctComingOf (pages : Pages) (sources : List SourceData) (on : Basis) (results : Results) (first : FirstRows) (rest : List Row) (ahead : ℕ) : Type 0 where
  pub rows : List Row
  pub coming : IsComing pages sources on results rows ahead
  pub rest_is : rest ≡ to_come first rows

abbrev pub IsDistinctComing : Pages → List SourceData → Basis → DistinctResults → List Row → ℕ → Type 0
IsDistinctComing pages sources on distinct rest ahead = IsDistinctComingOf pages sources on distinct.results distinct.first rest ahead
