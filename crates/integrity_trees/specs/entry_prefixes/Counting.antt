-- What is counted of the first entries of an index, in their order.
use Rattle.std.specs.Prelude.{◌≡◌, ◌≤◌, ◌++◌, ◌∷◌, [], ℕ, suc, IsTrue, List, length, Option, None, Some, slice_get}
use Rattle.values.specs.Bounds.{counted}
use Rattle.values.specs.Row.{Row}
use Rattle.integrity_trees.specs.wanted_entries.Unique.{AreApart, IsNotUnique, IsRunCount}
use Rattle.integrity_trees.specs.declared.entry_prefixes.counting.Prefixes.{Prefixes}
use Rattle.integrity_trees.specs.entry_prefixes.Last.{IsLast, LastData}

-- the last of some entries
abbrev pub EndsWith : List Row → Option Row → Type 0
EndsWith rows None = rows ≡ []
EndsWith rows (Some row) = (before : List Row) × (rows ≡ before ++ row ∷ [])

-- the first values of so many columns change so often, up to the greatest number
abbrev pub HasRuns : List Row → ℕ → ℕ → Type 0
HasRuns rows columns count = (n : ℕ) × IsRunCount columns rows n × (count ≡ counted n)

-- these are the changes, for each number of first columns; and whether two entries agree in all of them, so that two neighbours
-- do
pub record IsCounted (rows : List Row) (prefixes : Prefixes) : Type 0 where
  pub counts : (columns count : ℕ) → slice_get prefixes.distinct.items columns ≡ Some count → HasRuns rows (suc columns) count
  pub repeated : IsTrue prefixes.repeats → IsNotUnique (length prefixes.distinct.items) rows
  pub apart : ¬ IsTrue prefixes.repeats → AreApart (length prefixes.distinct.items) rows

-- one entry more was counted behind any others that end with the last one, and is the last one now
pub record CountsEntry (old new : Prefixes) (before after : LastData) (row : Row) : Type 0 where
  pub last_is : IsLast after (Some row)
  pub counted : (rows : List Row) (last : Option Row) → EndsWith rows last → IsLast before last
      → ((one : Row) → last ≡ Some one → length old.distinct.items ≤ length one)
      → length old.distinct.items ≤ length row → IsCounted rows old → IsCounted (rows ++ row ∷ []) new
