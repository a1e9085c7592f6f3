use Rattle.std.proofs.Common.{rules, ◌∙◌, map, ap, arith}
use Rattle.std.proofs.lemmas.Result.{err_from_is_err_and}
use Rattle.values.specs.Datum.{datum_of}
use Rattle.pager.proofs.CallLemmas.{SameImage-trans}
use Rattle.operators_results.specs.declared.limits.LimitOffset.{LimitOffset}
use Rattle.operators_results.specs.compound_results.Compounds.{IsArmsCause}
use Rattle.operators_results.specs.compound_results.InTurn.{arms_of}
use Rattle.operators_results.proofs.lemmas.compound_results.ChainLemmas.{cause_before}
use Rattle.operators_results.proofs.lemmas.compound_results.SlicedLemmas.{arms_say, none_left, row_given, row_passed, slice_ended}
use Rattle.operators_results.proofs.compound_results.chained.ChainedResults.next.Goals as goal

pub returns-in_err-next-clause-left : goal.returns-in_err-next-clause-left
returns-in_err-next-clause-left g c = record {
  over = c.next.ensures.left.over;
  hits = λ w db hits. c.rows.invariant.hits w db (c.next.ensures.left.hits w db hits);
  steps = search rules;
}

pub returns-in_err-next-clause-rows : goal.returns-in_err-next-clause-rows
returns-in_err-next-clause-rows g c = λ steady on rest ahead has coming.
    let p = err_from_is_err_and c.from_residual.result c.from_residual.ensures.1 in
    rw (p.1, p.2)
    (cause_before (arms_of c.rows.self.arms) (arms_of c.args.self.now.arms) on c.in_err-next.field-0.0 c.rows.invariant.hits
    (arms_say _ c.rows.pager.state c.rows.invariant.image c.args.sources.now c.args.self.now c.rows.self.arms c.rows.self.slice
    c.rows.invariant.rows steady on rest ahead has coming (λ on. IsArmsCause on (arms_of c.rows.self.arms) c.in_err-next.field-0.0)
    c.in_err-next.ensures.rows))

pub returns-then-not-branch-clause-left : goal.returns-then-not-branch-clause-left
returns-then-not-branch-clause-left g c = record {
  over = c.next.ensures.left.over;
  hits = λ w db hits. c.rows.invariant.hits w db (c.next.ensures.left.hits w db hits);
  steps = search rules;
}

pub returns-then-not-branch-clause-rows : goal.returns-then-not-branch-clause-rows
returns-then-not-branch-clause-rows g c = λ steady on rest ahead has coming.
    none_left _ c.rows.pager.state c.rows.invariant.image c.args.sources.now c.args.self.now c.rows.self.arms c.rows.self.slice
    c.rows.invariant.rows steady on rest ahead has coming c.next.new.self (map datum_of c.next.new.out.items) c.next.new.pager.state
    (rw c.if-not-branch.true at c.in_ok-next.ensures.rows)

pub returns-then-gives-clause-left : goal.returns-then-gives-clause-left
returns-then-gives-clause-left g c = record {
  over = c.next.ensures.left.over;
  hits = λ w db hits. c.rows.invariant.hits w db (c.next.ensures.left.hits w db hits);
  steps = λ found.
      let less = c.in_ok-next.ensures.left.steps c.if-not-branch.false in
      let low = c.rows.invariant.steps in
      omega (arith, less, low);
}

pub returns-then-gives-clause-rows : goal.returns-then-gives-clause-rows
returns-then-gives-clause-rows g c = λ steady on rest ahead has coming.
    row_given _ c.rows.pager.state c.rows.invariant.image c.args.sources.now c.args.self.now c.rows.self.arms c.rows.self.slice
    c.rows.invariant.rows steady on rest ahead has coming c.next.new.self (map datum_of c.next.new.out.items) c.next.new.pager.state
    (rw c.if-not-branch.false at c.in_ok-next.ensures.rows) c.gives.new.self (c.gives.ensures.given c.if-gives.true)

pub rows-preserved : goal.rows-preserved
rows-preserved g c = record {
  image = SameImage-trans _ _ _ c.rows.invariant.image c.next.ensures.reads.image;
  failures = c.in_ok-next.ensures.reads.failures ∙ c.rows.invariant.failures;
  over = c.next.ensures.left.over;
  hits = λ w db hits. c.rows.invariant.hits w db (c.next.ensures.left.hits w db hits);
  steps =
      let less = c.in_ok-next.ensures.left.steps c.if-not-branch.false in
      let low = c.rows.invariant.steps in
      omega (arith, less, low);
  done = λ none. absurd (c.is_done.ensures.more c.rows-test.true (ap (λ (s : LimitOffset). s.left) (c.rows.invariant.done none).0 ∙ none));
  rows = λ steady on rest ahead has coming.
      row_passed _ c.rows.pager.state c.rows.invariant.image c.args.sources.now c.args.self.now c.rows.self.arms c.rows.self.slice
      c.rows.invariant.rows steady on rest ahead has coming c.next.new.self (map datum_of c.next.new.out.items) c.next.new.pager.state
      (rw c.if-not-branch.false at c.in_ok-next.ensures.rows) c.gives.new.self (c.gives.ensures.passed c.if-gives.false);
}

pub returns-clause-rows : goal.returns-clause-rows
returns-clause-rows g c = λ steady on rest ahead has coming.
    slice_ended _ c.rows.pager.state c.rows.invariant.image c.args.sources.now c.args.self.now c.rows.self.arms c.rows.self.slice
    c.rows.invariant.rows steady on rest ahead has coming (c.is_done.ensures.done c.rows-test.false)

pub returns-clause-left : goal.returns-clause-left
returns-clause-left g c = record {
  over = c.rows.invariant.over;
  hits = c.rows.invariant.hits;
  steps = search rules;
}
