use Rattle.std.proofs.Common.{◌+◌, ◌∷◌, [], All, map, sym, subst, take}
use Rattle.std.specs.List.{AllZip}
use Rattle.std.proofs.lemmas.List.{map-append, take_all}
use Rattle.std.proofs.lemmas.List.Elements.{All-push}
use Rattle.expr.specs.View.{term}
use Rattle.expr.specs.Names.{IsAnswered}
use Rattle.logical_plan_terms.specs.Over.{IsItself, IsOver, StandsOver}
use Rattle.logical_plan_terms.proofs.OverLemmas.{not_all, over_more, zip_more}
use Rattle.logical_plan_terms.proofs.over.exprs_over.Goals as goal

pub returns-in-None-clause-over : goal.returns-in-None-clause-over
returns-in-None-clause-over c =
    not_all c.args.read.now c.args.inner c.args.terms.now c.loop-t.t-index c.t-item.result c.loop-t-test.true c.t-item.is
    (rw c.in-None.is at c.in_ok-over.ensures.over)

pub loop-t-preserved : goal.loop-t-preserved
loop-t-preserved c = record {
  over =
      over_more c.args.read.now c.args.inner c.args.terms.now c.loop-t.t-index c.t-item.result c.loop-t-test.true c.t-item.is
      c.loop-t.invariant.over (rw c.in-Some.is at c.in_ok-over.ensures.over);
  stand =
      subst (λ es. AllZip (StandsOver c.args.read.now c.args.inner) (map term es) (map term (take (c.loop-t.t-index + 1) c.args.terms.now)))
      (sym c.in_ok-push-in-Some.ensures.items)
      (zip_more c.args.read.now c.args.inner c.args.terms.now c.loop-t.t-index c.t-item.result c.loop-t-test.true c.t-item.is
      (StandsOver c.args.read.now c.args.inner) c.loop-t.es.items c.in-Some.e c.loop-t.invariant.stand (rw c.in-Some.is at c.in_ok-over.ensures.stands));
  itself = λ whole.
      subst (λ es. AllZip (IsItself c.args.inner) (map term es) (map term (take (c.loop-t.t-index + 1) c.args.terms.now)))
      (sym c.in_ok-push-in-Some.ensures.items)
      (zip_more c.args.read.now c.args.inner c.args.terms.now c.loop-t.t-index c.t-item.result c.loop-t-test.true c.t-item.is
      (IsItself c.args.inner) c.loop-t.es.items c.in-Some.e (c.loop-t.invariant.itself whole) ((rw c.in-Some.is at c.in_ok-over.ensures.itself) whole));
  answered =
      subst (λ es. All IsAnswered (map term es)) (sym c.in_ok-push-in-Some.ensures.items)
      (subst (All IsAnswered) (sym (map-append term c.loop-t.es.items (c.in-Some.e ∷ [])))
      (All-push IsAnswered (map term c.loop-t.es.items) (term c.in-Some.e) c.loop-t.invariant.answered (rw c.in-Some.is at c.in_ok-over.ensures.answered)));
}

pub returns-clause-over : goal.returns-clause-over
returns-clause-over c =
    subst (λ ts. All (IsOver c.args.read.now c.args.inner) (map term ts)) (take_all c.loop-t.t-index c.args.terms.now c.loop-t-test.false) c.loop-t.invariant.over
