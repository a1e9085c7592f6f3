use Rattle.std.proofs.Common.{◌+◌, map}
use Rattle.values.specs.Datum.{datum_of}
use Rattle.windows.proofs.lemmas.window_extremes.StretchLemmas.{IsFilled}
use Rattle.windows.proofs.window_extremes.levels.doubled.Given as goal

abbrev pub invariant-loop-at : goal.invariant-loop-at
invariant-loop-at l = IsFilled l.side (map datum_of l.values) (l.width + l.width) l.at l.wider.items
