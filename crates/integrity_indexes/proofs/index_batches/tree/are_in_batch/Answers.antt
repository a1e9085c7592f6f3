use Rattle.btree.specs.image.Tree.{top}
use Rattle.integrity_indexes.proofs.index_batches.tree.are_in_batch.Goals as goal

pub returns-clause-placed : goal.returns-clause-placed
returns-clause-placed g c = λ steady values levels tree entries.
    c.is_placed_under.ensures.placed steady values c.args.root levels (record { depth = 1; stands = top; shape = tree.shape; entries = entries }) tree.few
