use Rattle.sql_reader_creates.proofs.IndexTexts.{one_index}
use Rattle.sql_reader_creates.proofs.laws.one_index.Goals as goal

pub returns : goal.returns
returns c = one_index
