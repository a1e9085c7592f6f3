use Rattle.std.proofs.Common.{rules, inr, length, ◌≤◌}
use Rattle.schema_tables.specs.TableData.{MissingData}
use Rattle.records_tables.proofs.lemmas.stored_rows.FilledLemmas.{contains_at, filled_all, filled_more}
use Rattle.records_tables.proofs.stored_rows.rows.RowView.filled.Goals as goal

pub returns-in_default-clause-fault : goal.returns-in_default-clause-fault
returns-in_default-clause-fault c = inr (contains_at _ c.loop-i.i MissingData.Refused c.in_default.ensures.none)

pub loop-i-preserved : goal.loop-i-preserved
loop-i-preserved c = filled_more _ c.loop-i.values.items c.push.new.self.items c.loop-i.i c.in-Some.value c.in-Some.ensures.found c.in_ok-push.ensures.items c.loop-i.invariant

pub returns-clause-filled : goal.returns-clause-filled
returns-clause-filled c =
    let few : length c.args.fields.now ≤ length c.args.table.now.columns = search rules in
    (few, filled_all c.args.table.now c.args.fields.now _ c.loop-i.i few (search rules) c.loop-i.invariant)
