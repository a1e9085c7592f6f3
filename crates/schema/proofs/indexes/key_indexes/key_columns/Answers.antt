use Rattle.std.proofs.Common.{subst, sym}
use Rattle.schema.specs.indexes.KeyIndexes.{HasColumn, IsKeyColumn}
use Rattle.schema.proofs.lemmas.indexes.KeyIndexLemmas.{all_key_columns, column_at, key_column_more}
use Rattle.schema.proofs.indexes.key_indexes.key_columns.Goals as goal

pub key_column-requires : goal.key_column-requires
key_column-requires c =
    subst (HasColumn c.args.columns.now) (sym c.as_str.ensures.value)
    (column_at c.args.columns.now c.args.names.now c.loop-name.name-index c.name-item.result c.loop-name-test.true c.name-item.is c.requires)

pub loop-name-preserved : goal.loop-name-preserved
loop-name-preserved c =
    key_column_more c.args.columns.now c.args.names.now c.loop-name.name-index c.name-item.result c.loop-name-test.true c.name-item.is
    c.loop-name.all.items c.push.new.self.items c.key_column.result
    (subst (λ n. IsKeyColumn c.args.columns.now n c.key_column.result) c.as_str.ensures.value c.key_column.ensures) c.in_ok-push.ensures.items
    c.loop-name.invariant

pub returns : goal.returns
returns c =
    all_key_columns c.args.columns.now c.args.names.now c.loop-name.name-index c.loop-name.all.items c.loop-name-test.false
    c.loop-name.invariant
