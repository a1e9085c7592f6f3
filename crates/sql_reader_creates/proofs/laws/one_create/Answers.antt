use Rattle.sql_reader_creates.proofs.CreateTexts.{one_create}
use Rattle.sql_reader_creates.proofs.laws.one_create.Goals as goal

pub returns : goal.returns
returns c text first second x y = one_create text first second x y
