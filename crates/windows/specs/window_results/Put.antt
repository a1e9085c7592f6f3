-- Values put where their rows stand.
use Rattle.std.specs.Prelude.{◌≡◌, ◌<◌, ℕ, All, List, length, map, slice_index, Option, Some}
use Rattle.values.specs.Datum.{Datum}
use Rattle.semantics.specs.Sequence.{value_at}
use Rattle.windows_groups.specs.declared.window_order.placed.Sequence.{Sequence}
use Rattle.windows_groups.specs.declared.window_order.sorting.Entry.{Entry}

-- the number of each row of a sequence among those that are given
abbrev pub numbers_in : Sequence → List ℕ
numbers_in sequence = map (λ (entry : Entry). entry.index) sequence.entries.now

-- what is wanted for the number of a row is the result at its place
abbrev pub AreWanted : (ℕ → Option Datum) → (ℕ → Option Datum) → List ℕ → Type 0
AreWanted want result numbers = (k : ℕ) → k < length numbers → want (slice_index numbers k) ≡ result k

-- at each of these numbers stands what is wanted, and where it stood before it stands still
pub record PutsEach (want : ℕ → Option Datum) (numbers : List ℕ) (before after : List Datum) : Type 0 where
  pub kept : (i : ℕ) → want i ≡ Some (value_at before i) → want i ≡ Some (value_at after i)
  pub put : All (λ i. want i ≡ Some (value_at after i)) numbers
