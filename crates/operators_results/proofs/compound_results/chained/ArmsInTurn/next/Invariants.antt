use Rattle.std.proofs.Common.{◌≡◌, ◌≤◌, vec_len}
use Rattle.values.specs.Database.{Database}
use Rattle.values.specs.Datum.{Datum}
use Rattle.pager.specs.Calls.{SameImage}
use Rattle.logical_plan.specs.answers.Arms.{ArePlannedOver, ArmsHit}
use Rattle.operators_results.specs.compound_results.InTurn.{arms_of, turn_steps}
use Rattle.operators_results.proofs.lemmas.compound_results.ChainLemmas.{StillComing}
use Rattle.operators_results.proofs.compound_results.chained.ArmsInTurn.next.Given as goal

abbrev pub invariant-arms : goal.invariant-arms
invariant-arms g l = record {
  image : SameImage l.fn.pager.state l.pager.state;
  failures : l.pager.state.source.failures ≡ l.fn.pager.state.source.failures;
  over : ArePlannedOver l.sources (arms_of l.self);
  hits : (w : Datum) (db : Database) → ArmsHit w db (arms_of l.self) → ArmsHit w db (arms_of l.fn.self);
  steps : turn_steps l.sources l.self ≤ turn_steps l.sources l.fn.self;
  rows : StillComing l.fn.pager.state l.sources l.fn.self l.self.at_hand l.self.behind.items l.pager.state;
}

abbrev pub decreases-arms : goal.decreases-arms
decreases-arms g l = vec_len l.self.behind
