use Rattle.std.proofs.Common.{◌≡◌, ◌≤◌, Some, map}
use Rattle.pager.specs.Calls.{SameImage}
use Rattle.expr.specs.View.{term}
use Rattle.operators.specs.Left.{plan_of, steps}
use Rattle.operators_results.proofs.lemmas.distinct_results.ComingLemmas.{StillComing}
use Rattle.operators_results.proofs.distinct_results.stream.DistinctResults.next.Given as goal

abbrev pub invariant-rows : goal.invariant-rows
invariant-rows g l = record {
  image : SameImage l.fn.pager.state l.pager.state;
  failures : l.pager.state.source.failures ≡ l.fn.pager.state.source.failures;
  plan : plan_of l.self.results.op ≡ plan_of l.fn.self.results.op;
  columns : map term l.self.results.columns.items ≡ map term l.fn.self.results.columns.items;
  steps : steps l.sources l.self.results.op ≤ steps l.sources l.fn.self.results.op;
  done : l.fn.self.first.slice.left ≡ Some 0 → (l.self.first ≡ l.fn.self.first) × (l.pager.state ≡ l.fn.pager.state);
  rows : StillComing l.fn.pager.state l.sources l.fn.self l.self.results l.self.first l.pager.state;
}

abbrev pub decreases-rows : goal.decreases-rows
decreases-rows g l = steps l.sources l.self.results.op
