use Rattle.std.proofs.Common.{All, map, string_bytes, subst, sym}
use Rattle.sql_reader_grammar.specs.create_trees.CreateView.{column_of}
use Rattle.schema_keys.specs.declared_keys.KeyView.{key_data}
use Rattle.schema_keys.specs.Created.{IsNamedIn}
use Rattle.schema_keys.proofs.KeyLemmas.{only_named}
use Rattle.schema_keys.proofs.keys.row_key.Goals as goal

pub key_places-requires : goal.key_places-requires
key_places-requires c =
    let columns = map column_of c.args.columns.now in
    subst (λ names. All (IsNamedIn columns) (map (λ n. string_bytes n) names)) (sym c.as_slice.ensures.value)
    (only_named columns (map key_data c.args.keys.now) (key_data c.in-Some.key.now) c.requires c.in-Some.ensures.found)
