use Rattle.std.proofs.Common.{map}
use Rattle.sql_reader_grammar.specs.create_trees.CreateView.{column_of}
use Rattle.schema_keys.proofs.KeyLemmas.{some_place}
use Rattle.schema_keys.proofs.keys.column_place.Goals as goal

pub unwrap-requires : goal.unwrap-requires
unwrap-requires c = some_place (map column_of c.args.columns.now) c.args.name.now c.place_of.result c.place_of.ensures.none c.requires
