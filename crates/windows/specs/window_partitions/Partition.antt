-- The rows of one partition, and of all. (Window Functions, "The PARTITION BY Clause")
use Rattle.std.specs.Prelude.{◌≡◌, ◌<◌, ◌+◌, ℕ, All, Contains, IsPermutation, List, length, map, slice_index, slice_range}
use Rattle.values.specs.Row.{Row}
use Rattle.semantics.specs.Query.{Window}
use Rattle.semantics.specs.Valuation.{Valuation}
use Rattle.semantics.specs.Windows.{partition_of, row_at}
use Rattle.windows.specs.window_partitions.Tagged.{AreAlike, rows_of_tags, tagged}

-- The rows of one partition, each with its number among the rows that are given: they are just those that agree with one of
-- them in the values of PARTITION BY, and equal ones stand in the order of their numbers.
pub record IsPartition (value : Valuation) (window : Window) (rows : List Row) (tags : List (Row × ℕ)) : Type 0 where
  pub given : All (λ t. (t.1 < length rows) × (row_at rows t.1 ≡ t.0)) tags
  pub whole : All (λ t. IsPermutation (partition_of value window rows t.0) (rows_of_tags tags)) tags
  pub alike : AreAlike (tagged 0 rows) tags

-- the rows from the start of a part up to that of the next
abbrev pub part_at : List (Row × ℕ) → List ℕ → ℕ → List (Row × ℕ)
part_at tags starts g = slice_range tags (slice_index starts g) (slice_index starts (g + 1))

-- each part is a partition, and each row that is given stands in one
pub record ArePartitions (value : Valuation) (window : Window) (rows : List Row) (tags : List (Row × ℕ)) (starts : List ℕ) : Type 0 where
  pub given : All (λ t. (t.1 < length rows) × (row_at rows t.1 ≡ t.0)) tags
  pub each : (g : ℕ) → g + 1 < length starts → IsPartition value window rows (part_at tags starts g)
  pub all : (i : ℕ) → i < length rows → (g : ℕ) × (g + 1 < length starts) × Contains (map (λ t. t.1) (part_at tags starts g)) i
