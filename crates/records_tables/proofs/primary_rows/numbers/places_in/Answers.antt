use Rattle.records_tables.proofs.lemmas.primary_rows.FirstLemmas.{places_more}
use Rattle.records_tables.proofs.primary_rows.numbers.places_in.Goals as goal

pub loop-number-preserved : goal.loop-number-preserved
loop-number-preserved c = places_more c.args.numbers.now c.loop-number.places.items c.push.new.self.items c.loop-number.number c.place_of.result
    c.loop-number.invariant c.place_of.ensures c.in_ok-push.ensures.items
