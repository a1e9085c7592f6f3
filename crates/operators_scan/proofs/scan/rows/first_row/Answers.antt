use Rattle.records_tables.proofs.TableLemmas.{stored_rows, stored_shape}
use Rattle.operators_scan.proofs.lemmas.scan.ComingLemmas.{to_come}
use Rattle.operators_scan.proofs.scan.rows.first_row.Goals as goal

pub returns-in-Ok-clause-rows : goal.returns-in-Ok-clause-rows
returns-in-Ok-clause-rows g c = λ steady stored local unchained.
    to_come _ c.args.table.now local stored.levels _ _ stored.rows _ _ _
    (rw (← c.root.ensures, ← c.tree_kind.ensures) (c.in-Ok.ensures.outcome.lists steady stored.levels
    (record { few = stored.few; number = rw c.root.ensures c.requires; shape = rw (c.root.ensures, c.tree_kind.ensures) (stored_shape _ c.args.table.now stored) })))
    (stored_rows _ c.args.table.now stored) unchained (λ here. c.in-Ok.ensures.reads.unchained)
