use Rattle.std.proofs.Common.{◌+◌, arith}
use Rattle.logical_plan_terms.proofs.lemmas.table_plans.InputLemmas.{width-take, width_of_some}
use Rattle.logical_plan_terms.proofs.table_plans.columns.place_behind.Goals as goal

pub returns-then-place-table : goal.returns-then-place-table
returns-then-place-table c =
    omega (
      arith,
      width-take c.args.tables.now c.loop-table.table-index c.table-item.result c.loop-table-test.true c.table-item.is,
      width_of_some c.args.tables.now (c.loop-table.table-index + 1),
      c.loop-table.invariant,
    )

pub loop-table-preserved : goal.loop-table-preserved
loop-table-preserved c =
    omega (
      arith,
      width-take c.args.tables.now c.loop-table.table-index c.table-item.result c.loop-table-test.true c.table-item.is,
      c.loop-table.invariant,
    )
