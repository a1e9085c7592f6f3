use Rattle.std.proofs.Common.{◌∙◌, map, ap, subst, arith}
use Rattle.std.proofs.lemmas.Result.{err_from_is_err_and}
use Rattle.values.specs.Datum.{datum_of}
use Rattle.pager.proofs.CallLemmas.{SameImage-trans}
use Rattle.expr.specs.View.{term}
use Rattle.operators_loops.specs.Basis.{IsCause}
use Rattle.operators_results.specs.declared.limits.LimitOffset.{LimitOffset}
use Rattle.operators_results.specs.Coming.{IsResultCause}
use Rattle.operators_results.proofs.StreamLemmas.{column_cause, op_ended, op_says, plan_cause, row_given, row_passed, slice_ended}
use Rattle.operators_results.proofs.stream.Results.next.Goals as goal

pub returns-in_err-next-clause-rows : goal.returns-in_err-next-clause-rows
returns-in_err-next-clause-rows g c = λ steady on rest ahead has coming.
    let p = err_from_is_err_and c.from_residual.result c.from_residual.ensures.1 in
    rw (p.1, p.2)
    (plan_cause on _ _
    (op_says _ c.rows.pager.state c.rows.invariant.image c.args.sources.now c.args.self.now c.rows.self.op (map datum_of c.rows.self.row.items) (map term c.rows.self.columns.items) c.rows.self.slice
    c.rows.invariant.rows steady on rest ahead has coming (λ on. IsCause on c.in_err-next.field-0.0) c.in_err-next.ensures.rows))

pub returns-then-not-branch-clause-rows : goal.returns-then-not-branch-clause-rows
returns-then-not-branch-clause-rows g c = λ steady on rest ahead has coming.
    op_ended _ c.rows.pager.state c.rows.invariant.image c.args.sources.now c.args.self.now c.rows.self.op (map datum_of c.rows.self.row.items) (map term c.rows.self.columns.items) c.rows.self.slice
    c.rows.invariant.rows steady on rest ahead has coming c.next.new.self (map datum_of c.next.new.row.items) c.next.new.pager.state
    (rw c.if-not-branch.true at c.in_ok-next.ensures.rows)

pub returns-in_err-project-clause-rows : goal.returns-in_err-project-clause-rows
returns-in_err-project-clause-rows g c = λ steady on rest ahead has coming.
    let p = err_from_is_err_and c.from_residual-in_err-project.result c.from_residual-in_err-project.ensures.1 in
    rw (p.1, p.2)
    (subst (λ columns. IsResultCause on columns c.in_err-project.field-0.0) c.rows.invariant.columns
    (column_cause _ c.rows.pager.state c.rows.invariant.image c.args.sources.now c.args.self.now c.rows.self.op (map datum_of c.rows.self.row.items) (map term c.rows.self.columns.items) c.rows.self.slice
    c.rows.invariant.rows steady on rest ahead has coming c.next.new.self (map datum_of c.next.new.row.items) c.next.new.pager.state
    (rw c.if-not-branch.false at c.in_ok-next.ensures.rows) _ c.in_err-project.ensures.only
    (λ is. rw (c.as_slice.ensures.value, c.as_slice-then-gives.ensures.value) at (c.in_err-project.ensures.overflow (cc is)))))

pub returns-then-gives-clause-rows : goal.returns-then-gives-clause-rows
returns-then-gives-clause-rows g c = λ steady on rest ahead has coming.
    row_given _ c.rows.pager.state c.rows.invariant.image c.args.sources.now c.args.self.now c.rows.self.op (map datum_of c.rows.self.row.items) (map term c.rows.self.columns.items) c.rows.self.slice
    c.rows.invariant.rows steady on rest ahead has coming c.next.new.self (map datum_of c.next.new.row.items) c.next.new.pager.state
    (rw c.if-not-branch.false at c.in_ok-next.ensures.rows) (map datum_of c.project.new.out.items) c.gives.new.self
    (rw (c.as_slice.ensures.value, c.as_slice-then-gives.ensures.value) at (c.in_ok-project.ensures.values on.w))
    (c.gives.ensures.given c.if-gives.true)

pub rows-preserved : goal.rows-preserved
rows-preserved g c = record {
  image = SameImage-trans _ _ _ c.rows.invariant.image c.next.ensures.reads.image;
  failures = c.in_ok-next.ensures.reads.failures ∙ c.rows.invariant.failures;
  plan = c.in_ok-next.ensures.same ∙ c.rows.invariant.plan;
  columns = c.rows.invariant.columns;
  steps =
      let less = c.in_ok-next.ensures.left c.if-not-branch.false in
      let low = c.rows.invariant.steps in
      omega (arith, less, low);
  done = λ none. absurd (c.is_done.ensures.more c.rows-test.true (ap (λ (s : LimitOffset). s.left) (c.rows.invariant.done none).0 ∙ none));
  rows = λ steady on rest ahead has coming.
      row_passed _ c.rows.pager.state c.rows.invariant.image c.args.sources.now c.args.self.now c.rows.self.op (map datum_of c.rows.self.row.items) (map term c.rows.self.columns.items) c.rows.self.slice
      c.rows.invariant.rows steady on rest ahead has coming c.next.new.self (map datum_of c.next.new.row.items) c.next.new.pager.state
      (rw c.if-not-branch.false at c.in_ok-next.ensures.rows) c.gives.new.self (c.gives.ensures.passed c.if-gives.false);
}

pub returns-clause-rows : goal.returns-clause-rows
returns-clause-rows g c = λ steady on rest ahead has coming.
    slice_ended _ c.rows.pager.state c.rows.invariant.image c.args.sources.now c.args.self.now c.rows.self.op (map datum_of c.rows.self.row.items) (map term c.rows.self.columns.items) c.rows.self.slice
    c.rows.invariant.rows steady on rest ahead has coming (c.is_done.ensures.done c.rows-test.false)
