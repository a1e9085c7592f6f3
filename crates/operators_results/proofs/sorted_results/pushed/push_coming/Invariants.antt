use Rattle.std.proofs.Common.{◌≡◌, ◌++◌, List}
use Rattle.values.specs.Database.{Database}
use Rattle.values.specs.Datum.{Datum}
use Rattle.values.specs.Row.{Row}
use Rattle.pager.specs.Calls.{SameImage}
use Rattle.windows_groups.specs.FirstView.{FewAreKept, KeepsFirst}
use Rattle.operators_results.proofs.lemmas.sorted_results.GatherLemmas.{Gathering}
use Rattle.logical_plan.specs.answers.Arms.{ArePlannedOver, ArmsHit}
use Rattle.operators_results.specs.compound_results.InTurn.{AreComing, arms_of, turn_steps}
use Rattle.operators_results.proofs.sorted_results.pushed.push_coming.Given as goal

abbrev pub invariant-rows : goal.invariant-rows
invariant-rows g l = record {
  image : SameImage l.fn.pager.state l.pager.state;
  failures : l.pager.state.source.failures ≡ l.fn.pager.state.source.failures;
  over : ArePlannedOver l.sources (arms_of l.arms);
  hits : (w : Datum) (db : Database) → ArmsHit w db (arms_of l.arms) → ArmsHit w db (arms_of l.fn.arms);
  most : l.first.most ≡ l.fn.first.most;
  few : FewAreKept l.fn.first → FewAreKept l.first;
  rows : Gathering AreComing l.fn.pager.state l.sources l.fn.arms l.arms
      (λ given. (all : List Row) → KeepsFirst l.order l.fn.first all → KeepsFirst l.order l.first (all ++ given)) l.pager.state;
}

abbrev pub decreases-rows : goal.decreases-rows
decreases-rows g l = turn_steps l.sources l.arms
