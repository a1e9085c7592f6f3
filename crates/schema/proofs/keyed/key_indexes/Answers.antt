use Rattle.schema.proofs.KeyedLemmas.{all_key_indexes, columns_at, key_index_more}
use Rattle.schema.proofs.keyed.key_indexes.Goals as goal

pub new-requires : goal.new-requires
new-requires c =
    columns_at c.args.table.now c.args.automatic.now c.loop-index.index-index c.index-item.result c.loop-index-test.true c.index-item.is
    c.requires

pub loop-index-preserved : goal.loop-index-preserved
loop-index-preserved c =
    key_index_more c.args.table.now c.args.automatic.now c.loop-index.index-index c.index-item.result c.loop-index-test.true c.index-item.is
    c.loop-index.all.items c.push.new.self.items _ c.in_ok-new.ensures c.in_ok-push.ensures.items c.loop-index.invariant

pub returns : goal.returns
returns c =
    all_key_indexes c.args.table.now c.args.automatic.now c.loop-index.index-index c.loop-index.all.items c.loop-index-test.false
    c.loop-index.invariant
