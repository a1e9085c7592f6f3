use Rattle.std.proofs.Common.{◌≡◌, ◌≤◌, Some}
use Rattle.values.specs.Database.{Database}
use Rattle.values.specs.Datum.{Datum}
use Rattle.pager.specs.Calls.{SameImage}
use Rattle.logical_plan.specs.answers.Arms.{ArePlannedOver, ArmsHit}
use Rattle.operators_results.specs.compound_results.InTurn.{arms_of, turn_steps}
use Rattle.operators_results.proofs.lemmas.compound_results.SlicedLemmas.{StillSliced}
use Rattle.operators_results.proofs.compound_results.chained.ChainedResults.next.Given as goal

abbrev pub invariant-rows : goal.invariant-rows
invariant-rows g l = record {
  image : SameImage l.fn.pager.state l.pager.state;
  failures : l.pager.state.source.failures ≡ l.fn.pager.state.source.failures;
  over : ArePlannedOver l.sources (arms_of l.self.arms);
  hits : (w : Datum) (db : Database) → ArmsHit w db (arms_of l.self.arms) → ArmsHit w db (arms_of l.fn.self.arms);
  steps : turn_steps l.sources l.self.arms ≤ turn_steps l.sources l.fn.self.arms;
  done : l.fn.self.slice.left ≡ Some 0 → (l.self.slice ≡ l.fn.self.slice) × (l.pager.state ≡ l.fn.pager.state);
  rows : StillSliced l.fn.pager.state l.sources l.fn.self l.self.arms l.self.slice l.pager.state;
}

abbrev pub decreases-rows : goal.decreases-rows
decreases-rows g l = turn_steps l.sources l.self.arms
