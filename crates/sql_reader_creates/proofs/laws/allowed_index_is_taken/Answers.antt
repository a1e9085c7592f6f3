use Rattle.sql_reader_creates.proofs.IndexTexts.{only_memory}
use Rattle.sql_reader_creates.proofs.laws.allowed_index_is_taken.Goals as goal

pub returns : goal.returns
returns c = only_memory
