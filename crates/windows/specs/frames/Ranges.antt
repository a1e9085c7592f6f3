-- Sets of places as ranges, one behind the other.
use Rattle.std.specs.Prelude.{◌≡◌, ◌<◌, ◌≤◌, ℕ, Bool, true, false}
use Rattle.windows.specs.declared.frames.excluded.Gap.{Gap}
use Rattle.windows.specs.declared.frames.ranges.Ranges.{Ranges}

-- of so many places those in a range are in the set, and no other
pub record IsRangeOf (S : ℕ → Bool) (first past size : ℕ) : Type 0 where
  pub ordered : first ≤ past
  pub within : past ≤ size
  pub before : (k : ℕ) → k < first → S k ≡ false
  pub inside : (k : ℕ) → first ≤ k → k < past → S k ≡ true
  pub behind : (k : ℕ) → past ≤ k → k < size → S k ≡ false

-- three ranges of so many places, one behind the other
pub record AreInside (r : Ranges) (size : ℕ) : Type 0 where
  pub a : r.start ≤ r.from
  pub b : r.from ≤ r.middle
  pub c : r.middle ≤ r.after
  pub d : r.after ≤ r.to
  pub e : r.to ≤ r.end
  pub within : r.end ≤ size

-- of so many places those in the ranges are in the set, and no other
pub record IsUnion (S : ℕ → Bool) (r : Ranges) (size : ℕ) : Type 0 where
  pub a : r.start ≤ r.from
  pub b : r.from ≤ r.middle
  pub c : r.middle ≤ r.after
  pub d : r.after ≤ r.to
  pub e : r.to ≤ r.end
  pub within : r.end ≤ size
  pub ahead : (k : ℕ) → k < r.start → S k ≡ false
  pub front : (k : ℕ) → r.start ≤ k → k < r.from → S k ≡ true
  pub gap : (k : ℕ) → r.from ≤ k → k < r.middle → S k ≡ false
  pub inside : (k : ℕ) → r.middle ≤ k → k < r.after → S k ≡ true
  pub gap_after : (k : ℕ) → r.after ≤ k → k < r.to → S k ≡ false
  pub back : (k : ℕ) → r.to ≤ k → k < r.end → S k ≡ true
  pub behind : (k : ℕ) → r.end ≤ k → k < size → S k ≡ false

-- what EXCLUDE takes out: `first..middle` and `after..past`
pub record IsTaken (O : ℕ → Bool) (g : Gap) (size : ℕ) : Type 0 where
  pub a : g.first ≤ g.middle
  pub b : g.middle ≤ g.after
  pub c : g.after ≤ g.past
  pub within : g.past ≤ size
  pub before : (k : ℕ) → k < g.first → O k ≡ false
  pub taken : (k : ℕ) → g.first ≤ k → k < g.middle → O k ≡ true
  pub kept : (k : ℕ) → g.middle ≤ k → k < g.after → O k ≡ false
  pub taken_after : (k : ℕ) → g.after ≤ k → k < g.past → O k ≡ true
  pub behind : (k : ℕ) → g.past ≤ k → k < size → O k ≡ false
