use Rattle.std.proofs.Common.{◌≡◌, ◌≤◌, Some, map}
use Rattle.pager.specs.Calls.{SameImage}
use Rattle.expr.specs.View.{term}
use Rattle.operators.specs.Left.{plan_of, steps}
use Rattle.operators_results.proofs.StreamLemmas.{StillComing}
use Rattle.operators_results.proofs.stream.Results.next.Given as goal

abbrev pub invariant-rows : goal.invariant-rows
invariant-rows g l = record {
  image : SameImage l.fn.pager.state l.pager.state;
  failures : l.pager.state.source.failures ≡ l.fn.pager.state.source.failures;
  plan : plan_of l.self.op ≡ plan_of l.fn.self.op;
  columns : map term l.self.columns.items ≡ map term l.fn.self.columns.items;
  steps : steps l.sources l.self.op ≤ steps l.sources l.fn.self.op;
  done : l.fn.self.slice.left ≡ Some 0 → (l.self.slice ≡ l.fn.self.slice) × (l.pager.state ≡ l.fn.pager.state);
  rows : StillComing l.fn.pager.state l.sources l.fn.self l.self l.pager.state;
}

abbrev pub decreases-rows : goal.decreases-rows
decreases-rows g l = steps l.sources l.self.op
