use Rattle.std.proofs.Common.{◌≡◌, map}
use Rattle.pager.specs.Calls.{SameImage}
use Rattle.expr.specs.View.{term}
use Rattle.operators.specs.Left.{plan_of, steps}
use Rattle.operators_results.specs.Coming.{IsComing}
use Rattle.operators_results.proofs.lemmas.sorted_results.GatherLemmas.{Gathering}
use Rattle.logical_plan.specs.answers.Joined.{has_row}
use Rattle.operators_results.proofs.compound_results.gathered.marks_met.Given as goal

abbrev pub invariant-rows : goal.invariant-rows
invariant-rows g l = record {
  image : SameImage l.fn.pager.state l.pager.state;
  failures : l.pager.state.source.failures ≡ l.fn.pager.state.source.failures;
  plan : plan_of l.results.op ≡ plan_of l.fn.results.op;
  columns : map term l.results.columns.items ≡ map term l.fn.results.columns.items;
  rows : Gathering IsComing l.fn.pager.state l.sources l.fn.results l.results (λ given. l.marks.items ≡ map (has_row given) l.set.keys) l.pager.state;
}

abbrev pub decreases-rows : goal.decreases-rows
decreases-rows g l = steps l.sources l.results.op
