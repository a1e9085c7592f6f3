use Rattle.std.proofs.Common.{IsTrue, ◌↔◌, map, string_bytes, subst}
use Rattle.sql_reader_grammar.specs.create_trees.CreateView.{column_of}
use Rattle.schema_keys.specs.Created.{AreColumns}
use Rattle.schema_keys.proofs.keys.is_of_columns.Goals as goal

pub returns : goal.returns
returns c =
    subst (λ ns. IsTrue c.are_columns.result ↔ AreColumns (map column_of c.args.columns.now) (map (λ n. string_bytes n) ns))
    c.as_slice.ensures.value c.are_columns.ensures
