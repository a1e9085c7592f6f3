use Rattle.values.specs.Datum.{datum_of_ref}
use Rattle.records_searches.proofs.ValueLemmas.{set_over}
use Rattle.records_searches.proofs.ranges.put_at.Goals as goal

pub returns-clause-value : goal.returns-clause-value
returns-clause-value c = set_over c.args.values.now.items c.args.at c.put_over.new.slot (datum_of_ref c.args.value) c.put_over.result c.put_over.ensures
