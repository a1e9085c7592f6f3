-- Places of a sequence up to one, and no other.
use Rattle.std.specs.Prelude.{◌≡◌, ◌<◌, ◌≤◌, ◌≤ℤ◌, ◌^◌, ℕ, ℤ, negsuc, pos, Bool, true, false, not, List}
use Rattle.values.specs.Row.{Row}
use Rattle.semantics.specs.Query.{Direction, FrameUnit}
use Rattle.semantics.specs.Windows.{after_edge, before_edge}
use Rattle.windows.specs.declared.frames.cuts.Side.{Side}
use Rattle.windows.specs.declared.frames.cuts.Side.TheVariants as sides

-- how far an edge stands
pub record IsSpan (z : ℤ) : Type 0 where
  pub low : negsuc (2 ^ 64) ≤ℤ z
  pub high : z ≤ℤ pos (2 ^ 64)

-- of so many places those before a cut are such, and no other
pub record CutsPlaces (P : ℕ → Bool) (size cut : ℕ) : Type 0 where
  pub within : cut ≤ size
  pub ahead : (k : ℕ) → k < cut → P k ≡ true
  pub behind : (k : ℕ) → cut ≤ k → k < size → P k ≡ false

-- the places that stand before an edge where a frame starts, and those up to an edge where it ends
abbrev pub ahead : Side → List Direction → FrameUnit → List Row → ℕ → ℤ → ℕ → Bool
ahead sides.Start ds unit keys here by at = before_edge ds unit keys here by at
ahead sides.End ds unit keys here by at = not (after_edge ds unit keys here by at)

abbrev pub is_end : Side → Bool
is_end sides.Start = false
is_end sides.End = true
