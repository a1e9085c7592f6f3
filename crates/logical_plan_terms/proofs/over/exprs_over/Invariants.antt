-- The terms so far have expressions, which stand for them.
use Rattle.std.proofs.Common.{All, map, take}
use Rattle.std.specs.List.{AllZip}
use Rattle.expr.specs.Names.{IsAnswered}
use Rattle.logical_plan_terms.specs.Over.{AreWhole, IsItself, IsOver, StandsOver}
use Rattle.expr.specs.View.{term}
use Rattle.logical_plan_terms.proofs.over.exprs_over.Given as goal

abbrev pub invariant-loop-t : goal.invariant-loop-t
invariant-loop-t l = record {
  over : All (IsOver l.read l.inner) (map term (take l.t-index l.terms));
  stand : AllZip (StandsOver l.read l.inner) (map term l.es.items) (map term (take l.t-index l.terms));
  itself : AreWhole l.read → AllZip (IsItself l.inner) (map term l.es.items) (map term (take l.t-index l.terms));
  answered : All IsAnswered (map term l.es.items);
}
