use Rattle.logical_plan_queries.proofs.lemmas.select_plans.ReadLemmas.{on_more}
use Rattle.logical_plan_queries.proofs.select_plans.columns.push_on.Goals as goal

pub loop-table-preserved : goal.loop-table-preserved
loop-table-preserved c =
    on_more c.args.tables.now c.loop-table.table-index c.table-item.result c.loop-table-test.true c.table-item.is c.args.out.now.items c.loop-table.out.items
    c.columns.new.out.items c.loop-table.invariant c.in_ok-columns.ensures
