use Rattle.std.proofs.Common.{◌≡◌, ◌<◌, ◌++◌, [], append-nil, arith, drop, get_or, length, map, sym, ◌∙◌, ap}
use Rattle.std.proofs.Math.ListN.{get_or-map}
use Rattle.std.proofs.lemmas.List.{drop_all, length-map}
use Rattle.expr.specs.View.{term}
use Rattle.index_choice.specs.Conditions.{implying_from}
use Rattle.index_choice.proofs.ImplyLemmas.{left_out, listed}
use Rattle.index_choice.proofs.conditions.implying.Goals as goal
use Rattle.index_choice.proofs.conditions.implying.Goals.{then-implies+in_ok-push, else-implies}

pub loop-at-preserved : goal.loop-at-preserved
loop-at-preserved c =
    let conjuncts = map term c.args.conjuncts.now in
    let here = term c.index-conjuncts-at.result in
    let lt : c.loop-at.at < length conjuncts = omega (arith, c.loop-at-test.true, length-map c.args.conjuncts.now term) in
    let is : here ≡ get_or conjuncts c.loop-at.at here
    = ap term c.index-conjuncts-at.is ∙ sym (get_or-map term c.args.conjuncts.now c.loop-at.at c.index-conjuncts-at.result) in
    elim c.if-implies.branch [
      | then-implies+in_ok-push w ↦
          rw (w.places-is, w.in_ok-push.ensures.items)
          (listed conjuncts (term c.args.condition.now) c.loop-at.places.items c.loop-at.at here lt is c.loop-at.invariant (sym w.if-implies.ensures.test))
      | else-implies w ↦
          rw w.places-is (left_out conjuncts (term c.args.condition.now) c.loop-at.places.items c.loop-at.at here lt is c.loop-at.invariant (sym w.if-implies.ensures.test))
    ]

pub returns : goal.returns
returns c =
    let conjuncts = map term c.args.conjuncts.now in
    let all : c.loop-at.at ≡ length conjuncts
    = omega (arith, c.loop-at-test.false, c.loop-at.auto.at-end, length-map c.args.conjuncts.now term) in
    let none : drop c.loop-at.at conjuncts ≡ [] = drop_all c.loop-at.at conjuncts (omega (arith, all)) in
    sym (c.loop-at.invariant ∙ ap (λ ts. c.loop-at.places.items ++ implying_from c.loop-at.at (term c.args.condition.now) ts) none ∙ append-nil c.loop-at.places.items)
