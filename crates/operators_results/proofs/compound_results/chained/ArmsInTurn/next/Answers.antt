use Rattle.std.proofs.Common.{rules, ◌∙◌, map, refl, sym, ap, subst, arith}
use Rattle.std.proofs.lemmas.Result.{err_from_is_err_and}
use Rattle.values.specs.Datum.{datum_of}
use Rattle.pager.proofs.CallLemmas.{SameImage-trans}
use Rattle.expr.specs.View.{term}
use Rattle.operators.specs.Left.{plan_of}
use Rattle.operators_results.specs.declared.stream.Results.{Results}
use Rattle.logical_plan.specs.answers.Arms.{ArePlannedOver, ArmsData, ArmsHit, one}
use Rattle.operators_results.specs.compound_results.InTurn.{arm_of, arms_from, arms_of}
use Rattle.operators_results.proofs.lemmas.compound_results.ChainLemmas.{arm_begun, arm_fails, arm_gives, arms_ended, arms_kept, cause_before, hits_next, planned_first, planned_next, steps_behind, steps_next}
use Rattle.operators_results.proofs.compound_results.chained.ArmsInTurn.next.Goals as goal

pub next-requires-clause-planned : goal.next-requires-clause-planned
next-requires-clause-planned g c = planned_first c.args.sources.now (one (arm_of c.arms.self.at_hand)) c.arms.self.behind.items c.arms.invariant.over

pub returns-in_err-next-clause-left : goal.returns-in_err-next-clause-left
returns-in_err-next-clause-left g c =
    let same = arms_kept c.arms.self (record { at_hand = c.next.new.self; behind = c.arms.self.behind }) c.next.ensures.same.plan c.next.ensures.same.columns refl in
    record {
      over = subst (ArePlannedOver c.args.sources.now) (sym same) c.arms.invariant.over;
      hits = λ w db hits. c.arms.invariant.hits w db (subst (ArmsHit w db) same hits);
      steps = search rules;
    }

pub returns-in_err-next-clause-rows : goal.returns-in_err-next-clause-rows
returns-in_err-next-clause-rows g c = λ steady on rest ahead has coming.
    let p = err_from_is_err_and c.from_residual.result c.from_residual.ensures.1 in
    rw (p.1, p.2)
    (cause_before (arms_of c.arms.self) (arms_of c.args.self.now) on c.in_err-next.field-0.0 c.arms.invariant.hits
    (arm_fails _ c.arms.pager.state c.arms.invariant.image c.args.sources.now c.args.self.now c.arms.self.at_hand c.arms.self.behind.items
    c.arms.invariant.rows steady on rest ahead has coming c.in_err-next.field-0.0 c.in_err-next.ensures.rows))

pub returns-then-not-begin_next-clause-rows : goal.returns-then-not-begin_next-clause-rows
returns-then-not-begin_next-clause-rows g c = λ steady on rest ahead has coming.
    arms_ended _ c.arms.pager.state c.arms.invariant.image c.args.sources.now c.args.self.now c.arms.self.at_hand c.arms.self.behind.items
    c.arms.invariant.rows steady on rest ahead has coming c.next.new.self (map datum_of c.next.new.out.items) c.next.new.pager.state
    (rw c.if-not-branch.true at c.in_ok-next.ensures.rows) (c.begin_next.ensures.none c.if-not-begin_next.true).0

pub returns-then-not-begin_next-clause-left : goal.returns-then-not-begin_next-clause-left
returns-then-not-begin_next-clause-left g c =
    let none = c.begin_next.ensures.none c.if-not-begin_next.true in
    let same =
    arms_kept c.arms.self c.begin_next.new.self (ap (λ (results : Results). plan_of results.op) none.2 ∙ c.next.ensures.same.plan)
    (ap (λ (results : Results). map term results.columns.items) none.2 ∙ c.next.ensures.same.columns) (none.1 ∙ sym none.0) in
    record {
      over = subst (ArePlannedOver c.args.sources.now) (sym same) c.arms.invariant.over;
      hits = λ w db hits. c.arms.invariant.hits w db (subst (ArmsHit w db) same hits);
      steps = search rules;
    }

pub arms-preserved : goal.arms-preserved
arms-preserved g c =
    let others = c.begin_next.new.self.behind.items in
    let next = c.begin_next.new.self.at_hand in
    let parts = c.begin_next.ensures.begun c.if-not-begin_next.false in
    let before : ArmsData = one (arm_of c.arms.self.at_hand) in
    record {
      image = SameImage-trans _ _ _ c.arms.invariant.image c.next.ensures.reads.image;
      failures = c.in_ok-next.ensures.reads.failures ∙ c.arms.invariant.failures;
      over =
          planned_next c.args.sources.now before others next
          (subst (λ behind. ArePlannedOver c.args.sources.now (arms_from before behind)) parts c.arms.invariant.over);
      hits = λ w db hits.
          c.arms.invariant.hits w db (subst (λ behind. ArmsHit w db (arms_from before behind)) (sym parts) (hits_next w db before others next hits));
      steps =
          let low = c.arms.invariant.steps in
          let more = ap (steps_behind c.args.sources.now) parts in
          let last = steps_next c.args.sources.now others next in
          omega (arith, low, more, last);
      rows = λ steady on rest ahead has coming.
          arm_begun _ c.arms.pager.state c.arms.invariant.image c.args.sources.now c.args.self.now c.arms.self.at_hand c.arms.self.behind.items
          c.arms.invariant.rows steady on rest ahead has coming c.next.new.self (map datum_of c.next.new.out.items) c.next.new.pager.state
          (rw c.if-not-branch.true at c.in_ok-next.ensures.rows) next others parts;
    }

pub returns-clause-rows : goal.returns-clause-rows
returns-clause-rows g c = λ steady on rest ahead has coming.
    arm_gives _ c.arms.pager.state c.arms.invariant.image c.args.sources.now c.args.self.now c.arms.self.at_hand c.arms.self.behind.items
    c.arms.invariant.rows steady on rest ahead has coming c.next.new.self (map datum_of c.next.new.out.items) c.next.new.pager.state
    c.in_ok-next.ensures.same.plan (rw c.if-not-branch.false at c.in_ok-next.ensures.rows)

pub returns-clause-left : goal.returns-clause-left
returns-clause-left g c =
    let same = arms_kept c.arms.self (record { at_hand = c.next.new.self; behind = c.arms.self.behind }) c.next.ensures.same.plan c.next.ensures.same.columns refl in
    record {
      over = subst (ArePlannedOver c.args.sources.now) (sym same) c.arms.invariant.over;
      hits = λ w db hits. c.arms.invariant.hits w db (subst (ArmsHit w db) same hits);
      steps = λ found.
          let less = c.in_ok-next.ensures.left c.if-not-branch.false in
          let low = c.arms.invariant.steps in
          omega (arith, less, low);
    }
