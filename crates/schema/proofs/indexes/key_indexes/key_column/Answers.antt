use Rattle.schema.proofs.lemmas.indexes.KeyIndexLemmas.{some_place}
use Rattle.schema.proofs.indexes.key_indexes.key_column.Goals as goal

pub unwrap-place-requires : goal.unwrap-place-requires
unwrap-place-requires c = some_place c.args.columns.now c.args.name.now c.place_of.result c.place_of.ensures.none c.requires
