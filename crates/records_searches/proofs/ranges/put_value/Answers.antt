use Rattle.std.proofs.Common.{rules, ◌<◌, length}
use Rattle.values.specs.Datum.{datum_of_ref}
use Rattle.records_searches.proofs.ValueLemmas.{put_over}
use Rattle.records_searches.proofs.ranges.put_value.Goals as goal

pub returns-then-at-len-clause-value : goal.returns-then-at-len-clause-value
returns-then-at-len-clause-value c =
    let within : c.args.at < length c.args.values.now.items = search rules in
    put_over c.args.values.now.items c.args.at c.put_over.new.slot (datum_of_ref c.args.value) within c.put_over.result c.put_over.ensures
