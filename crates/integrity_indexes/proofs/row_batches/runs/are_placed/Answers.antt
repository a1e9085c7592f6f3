use Rattle.pager.proofs.CallLemmas.{IfErr-weaker}
use Rattle.integrity_indexes.proofs.lemmas.row_batches.CodeLemmas.{walk_fault}
use Rattle.integrity_indexes.proofs.row_batches.runs.are_placed.Goals as goal

pub returns-clause-only : goal.returns-clause-only
returns-clause-only g c = IfErr-weaker c.are_in_batch.result walk_fault c.are_in_batch.ensures.only
