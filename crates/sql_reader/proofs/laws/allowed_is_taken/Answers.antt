use Rattle.sql_reader.proofs.TextLemmas.{only_memory}
use Rattle.sql_reader.proofs.laws.allowed_is_taken.Goals as goal

pub returns : goal.returns
returns c = only_memory
