use Rattle.integrity_trees.proofs.lemmas.entry_rows.ListedLemmas.{taken_more}
use Rattle.integrity_trees.proofs.entry_rows.rows.row_of.Goals as goal

pub loop-index-preserved : goal.loop-index-preserved
loop-index-preserved c =
    taken_more c.args.stored.now c.loop-index.row c.push.new.self c.loop-index.index _ _ c.field.ensures c.loop-index.invariant c.in_ok-push.ensures.ok c.in_ok-value.ensures
