use Rattle.records_tables.proofs.lemmas.primary_rows.FirstLemmas.{below_more}
use Rattle.records_tables.proofs.primary_rows.numbers.numbers_below.Goals as goal

pub loop-number-preserved : goal.loop-number-preserved
loop-number-preserved c = below_more c.loop-number.numbers.items c.push.new.self.items c.loop-number.number c.loop-number.invariant c.in_ok-push.ensures.items
