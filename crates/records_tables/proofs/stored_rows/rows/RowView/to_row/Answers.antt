use Rattle.records_tables.proofs.lemmas.stored_rows.RowLemmas.{taken_more}
use Rattle.records_tables.proofs.stored_rows.rows.RowView.to_row.Goals as goal

pub loop-i-preserved : goal.loop-i-preserved
loop-i-preserved c = taken_more c.args.self.now c.loop-i.row c.push.new.self c.loop-i.i _ _ c.value.ensures c.loop-i.invariant c.in_ok-push.ensures.ok c.in_ok-value.ensures
