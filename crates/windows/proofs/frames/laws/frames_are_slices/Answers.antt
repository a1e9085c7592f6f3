use Rattle.windows.proofs.lemmas.frames.SliceLemmas.{rows_are_slices, values_are_slices}
use Rattle.windows.proofs.frames.laws.frames_are_slices.Goals as goal

pub returns : goal.returns
returns c = record { rows = rows_are_slices; values = values_are_slices }
