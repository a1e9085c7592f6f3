use Rattle.schema.proofs.LawLemmas.{no_bad_schema, no_left_out_object, no_unread_object}
use Rattle.schema.proofs.laws.catalog_is_sound.Goals as goal

pub returns-clause-row : goal.returns-clause-row
returns-clause-row c = no_bad_schema

pub returns-clause-text : goal.returns-clause-text
returns-clause-text c pages rows catalog name is = no_unread_object pages rows catalog is name

pub returns-clause-object : goal.returns-clause-object
returns-clause-object c pages rows catalog name is = no_left_out_object pages rows catalog is name
