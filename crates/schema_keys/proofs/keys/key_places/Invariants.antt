use Rattle.std.proofs.Common.{map}
use Rattle.sql_reader_grammar.specs.create_trees.CreateView.{column_of}
use Rattle.schema_keys.proofs.KeyLemmas.{PlacesSoFar}
use Rattle.schema_keys.proofs.keys.key_places.Given as goal

abbrev pub invariant-loop-name : goal.invariant-loop-name
invariant-loop-name l = PlacesSoFar (map column_of l.columns) l.names l.name-index l.places.items
