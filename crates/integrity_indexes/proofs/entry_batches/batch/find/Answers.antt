use Rattle.std.proofs.Common.{w64}
use Rattle.std.proofs.lemmas.Int.{to_z-of_z}
use Rattle.integrity_indexes.proofs.entry_batches.batch.find.Goals as goal

pub returns-in-None-clause-none : goal.returns-in-None-clause-none
returns-in-None-clause-none c = rw (to_z-of_z w64 c.args.key c.ranges.key) at c.search.ensures.none
