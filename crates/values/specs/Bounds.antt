-- Bounds of keys, and of counts.
use Rattle.std.specs.Prelude.{ℕ, ℤ, ◌-◌, ◌^◌, ◌<ℤ◌, ◌≤ℤ◌, Option, None, Some, min}

-- a key keeps a bound that there may be
abbrev pub IsAbove : Option ℤ → ℤ → Type 0
IsAbove None key = Unit {0}
IsAbove (Some low) key = low <ℤ key

abbrev pub IsAtMost : Option ℤ → ℤ → Type 0
IsAtMost None key = Unit {0}
IsAtMost (Some high) key = key ≤ℤ high

-- a count in 64 bits stays at the greatest
abbrev pub counted : ℕ → ℕ
counted n = min n (2 ^ 64 - 1)
