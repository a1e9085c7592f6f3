use Rattle.windows.proofs.LawLemmas.{columns_are_windowed}
use Rattle.windows.proofs.laws.columns_are_windowed.Goals as goal

pub returns : goal.returns
returns c = columns_are_windowed
