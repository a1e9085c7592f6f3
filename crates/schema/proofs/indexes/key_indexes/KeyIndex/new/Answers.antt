use Rattle.std.proofs.Common.{All, map, string_bytes, subst, sym}
use Rattle.schema.specs.indexes.KeyIndexes.{HasColumn}
use Rattle.schema.proofs.indexes.key_indexes.KeyIndex.new.Goals as goal

pub key_columns-requires : goal.key_columns-requires
key_columns-requires c =
    subst (λ cs. All (HasColumn cs) (map (λ n. string_bytes n) c.as_slice.result.now)) (sym c.columns.ensures)
    (subst (λ ns. All (HasColumn c.args.table.now.columns) (map (λ n. string_bytes n) ns)) (sym c.as_slice.ensures.value) c.requires)
