use Rattle.std.proofs.Common.{◌≡◌, ◌++◌, List, map}
use Rattle.values.specs.Row.{Row}
use Rattle.pager.specs.Calls.{SameImage}
use Rattle.expr.specs.View.{term}
use Rattle.operators.specs.Left.{plan_of, steps}
use Rattle.operators_results.specs.Coming.{IsComing}
use Rattle.windows_groups.specs.distinct_rows.OnceView.{FewAreKeptOnce, KeepsOnce}
use Rattle.operators_results.proofs.lemmas.sorted_results.GatherLemmas.{Gathering}
use Rattle.operators_results.proofs.sorted_results.pushed.push_distinct.Given as goal

abbrev pub invariant-rows : goal.invariant-rows
invariant-rows g l = record {
  image : SameImage l.fn.pager.state l.pager.state;
  failures : l.pager.state.source.failures ≡ l.fn.pager.state.source.failures;
  plan : plan_of l.results.op ≡ plan_of l.fn.results.op;
  columns : map term l.results.columns.items ≡ map term l.fn.results.columns.items;
  most : l.first.most ≡ l.fn.first.most;
  few : FewAreKeptOnce l.fn.first → FewAreKeptOnce l.first;
  rows : Gathering IsComing l.fn.pager.state l.sources l.fn.results l.results
      (λ given. (came : List Row) → KeepsOnce l.order l.fn.first came → KeepsOnce l.order l.first (came ++ given)) l.pager.state;
}

abbrev pub decreases-rows : goal.decreases-rows
decreases-rows g l = steps l.sources l.results.op
