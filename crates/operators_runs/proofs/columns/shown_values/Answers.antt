use Rattle.std.proofs.Common.{◌∙◌}
use Rattle.operators_runs.proofs.RowLemmas.{shown-more}
use Rattle.operators_runs.proofs.columns.shown_values.Goals as goal

pub returns-in_default-clause-shown : goal.returns-in_default-clause-shown
returns-in_default-clause-shown c = λ row is. absurd (c.in_default.ensures.none row is)

pub returns-in_default-value-clause-shown : goal.returns-in_default-value-clause-shown
returns-in_default-value-clause-shown c = λ row is. absurd (c.in_default-value.ensures.none row (c.loop-column.invariant.reads row is))

pub loop-column-preserved : goal.loop-column-preserved
loop-column-preserved c = record {
  table_is = c.value.ensures.table ∙ c.loop-column.invariant.table_is;
  reads = λ row is. (c.in-Some-value.ensures.found row (c.loop-column.invariant.reads row is)).1;
  shows = λ row is.
      rw c.in_ok-push.ensures.ok
      (shown-more row c.args.columns.now c.loop-column.column-index c.loop-column.values.items c.in-Some-value.value
      c.loop-column-test.true (c.in-Some-value.ensures.found row (c.loop-column.invariant.reads row is)).0 (c.loop-column.invariant.shows row is));
}
