-- What stands at the place that a plan reads.
use Rattle.std.specs.Prelude.{◌≡◌, ◌<◌, ℕ, List, length, slice_get, Some}
use Rattle.logical_plan.specs.answers.Sources.{HasColumns, SourceData}

-- one of these sources stands there, and has these columns
pub record HasPlace (sources : List SourceData) (place : ℕ) (columns : List ℕ) : Type 0 where
  pub within : place < length sources
  pub has : (source : SourceData) → slice_get sources place ≡ Some source → HasColumns source columns
