use Rattle.btree.proofs.lemmas.image.WorkedTable.{table_places, table_sound}
use Rattle.btree.proofs.image.laws.example_table.Goals as goal

pub returns-clause-cells : goal.returns-clause-cells
returns-clause-cells c = table_places

pub returns-clause-sound : goal.returns-clause-sound
returns-clause-sound c = table_sound
