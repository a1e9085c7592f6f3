-- Totals and counts of the first values of a list. (Built-in Aggregate Functions)
use Rattle.std.specs.Prelude.{◌≡◌, ◌<◌, ◌≤◌, ◌≤ℤ◌, ◌+◌, ◌+ℤ◌, ◌*◌, ◌^◌, ℕ, ℤ, pos, not, List, filter, length, slice_index, slice_index_or, take}
use Rattle.values.specs.Datum.{Datum, null}
use Rattle.expr.specs.operations.Operations.{is_null}
use Rattle.semantics.specs.Groups.{number, total}

-- the values that aggregates take
abbrev pub kept : List Datum → List Datum
kept values = filter (λ v. not (is_null v)) values

-- a number of 64 bits
pub record IsSmall (value : Datum) : Type 0 where
  pub low : pos 0 ≤ℤ (number value +ℤ pos (2 ^ 63))
  pub high : number value ≤ℤ pos (2 ^ 63)

-- a total of so many numbers of 64 bits
pub record IsBounded (size : ℕ) (sum : ℤ) : Type 0 where
  pub low : pos 0 ≤ℤ (sum +ℤ pos (size * 2 ^ 63))
  pub high : sum ≤ℤ pos (size * 2 ^ 63)

pub record AreTotals (values : List Datum) (sums : List ℤ) (counts : List ℕ) : Type 0 where
  pub sums_size : length sums ≡ length values + 1
  pub counts_size : length counts ≡ length values + 1
  pub total_of : (k : ℕ) → k ≤ length values → slice_index_or sums k (pos 0) ≡ total (take k values)
  pub count_of : (k : ℕ) → k ≤ length values → slice_index counts k ≡ length (kept (take k values))
  pub small : (i : ℕ) → i < length values → IsSmall (slice_index_or values i null)
