use Rattle.std.proofs.Common.{map}
use Rattle.values.specs.Datum.{datum_of}
use Rattle.windows.specs.declared.first_values.best.Side.{Side}
use Rattle.windows.proofs.lemmas.window_extremes.StretchLemmas.{IsFilled}
use Rattle.windows.proofs.window_extremes.levels.single_places.Given as goal

abbrev pub invariant-loop-at : goal.invariant-loop-at
invariant-loop-at l = (side : Side) → IsFilled side (map datum_of l.values) 1 l.at l.level.items
