use Rattle.std.proofs.Common.{◌-◌, Global, Option, ℕ, Vec, length, map}
use Rattle.values.specs.Datum.{datum_of}
use Rattle.windows.proofs.lemmas.window_extremes.StretchLemmas.{AreBuilt}
use Rattle.windows.proofs.window_extremes.firsts.Firsts.new.Given as goal

abbrev pub invariant-loop-width : goal.invariant-loop-width
invariant-loop-width l = AreBuilt l.side (map datum_of l.values.items) l.width (map (λ (level : Vec (Option ℕ) Global). level.items) l.levels.items)

abbrev pub decreases-loop-width : goal.decreases-loop-width
decreases-loop-width l = length l.values.items - l.width
