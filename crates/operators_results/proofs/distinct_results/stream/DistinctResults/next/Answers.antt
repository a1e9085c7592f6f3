use Rattle.std.proofs.Common.{◌∙◌, map, ap, subst, arith}
use Rattle.std.proofs.lemmas.Result.{err_from_is_err_and}
use Rattle.values.specs.Datum.{datum_of}
use Rattle.values.specs.Row.{Row}
use Rattle.pager.proofs.CallLemmas.{SameImage-trans}
use Rattle.expr.specs.View.{term}
use Rattle.operators_results.specs.Coming.{IsResultCause}
use Rattle.operators_results.specs.declared.distinct_results.first_rows.FirstRows.{FirstRows}
use Rattle.operators_results.proofs.lemmas.distinct_results.ComingLemmas.{GivesRow, PassesRow, results_ended, results_say, row_given, row_passed, slice_ended}
use Rattle.operators_results.proofs.distinct_results.stream.DistinctResults.next.Goals as goal

pub returns-in_err-next-clause-rows : goal.returns-in_err-next-clause-rows
returns-in_err-next-clause-rows g c = λ steady on rest ahead has coming.
    let p = err_from_is_err_and c.from_residual.result c.from_residual.ensures.1 in
    rw (p.1, p.2)
    (subst (λ columns. IsResultCause on columns c.in_err-next.field-0.0) c.rows.invariant.columns
    (results_say _ c.rows.pager.state c.rows.invariant.image c.args.sources.now c.args.self.now c.rows.self.results c.rows.self.first
    c.rows.invariant.rows steady on rest ahead has coming (λ on. IsResultCause on (map term c.rows.self.results.columns.items) c.in_err-next.field-0.0)
    c.in_err-next.ensures.rows))

pub returns-then-not-branch-clause-rows : goal.returns-then-not-branch-clause-rows
returns-then-not-branch-clause-rows g c = λ steady on rest ahead has coming.
    results_ended _ c.rows.pager.state c.rows.invariant.image c.args.sources.now c.args.self.now c.rows.self.results c.rows.self.first
    c.rows.invariant.rows steady on rest ahead has coming c.next.new.self (map datum_of c.next.new.out.items) c.next.new.pager.state
    (rw c.if-not-branch.true at c.in_ok-next.ensures.rows)

pub returns-then-branch-clause-rows : goal.returns-then-branch-clause-rows
returns-then-branch-clause-rows g c = λ steady on rest ahead has coming.
    row_given _ c.rows.pager.state c.rows.invariant.image c.args.sources.now c.args.self.now c.rows.self.results c.rows.self.first
    c.rows.invariant.rows steady on rest ahead has coming c.next.new.self (map datum_of c.next.new.out.items) c.next.new.pager.state
    (rw c.if-not-branch.false at c.in_ok-next.ensures.rows) (map datum_of c.meet.new.out.items) c.meet.new.self
    (c.in_ok-meet.ensures.out c.if-branch.true ∙ c.from.ensures)
    (subst (λ (row : Row). GivesRow c.rows.self.first c.meet.new.self row) c.from.ensures (c.in_ok-meet.ensures.given c.if-branch.true))

pub rows-preserved : goal.rows-preserved
rows-preserved g c = record {
  image = SameImage-trans _ _ _ c.rows.invariant.image c.next.ensures.reads.image;
  failures = c.in_ok-next.ensures.reads.failures ∙ c.rows.invariant.failures;
  plan = c.in_ok-next.ensures.same.plan ∙ c.rows.invariant.plan;
  columns = c.in_ok-next.ensures.same.columns ∙ c.rows.invariant.columns;
  steps =
      let less = c.in_ok-next.ensures.left c.if-not-branch.false in
      let low = c.rows.invariant.steps in
      omega (arith, less, low);
  done = λ none. absurd (c.is_done.ensures.more c.rows-test.true (ap (λ (first : FirstRows). first.slice.left) (c.rows.invariant.done none).0 ∙ none));
  rows = λ steady on rest ahead has coming.
      row_passed _ c.rows.pager.state c.rows.invariant.image c.args.sources.now c.args.self.now c.rows.self.results c.rows.self.first
      c.rows.invariant.rows steady on rest ahead has coming c.next.new.self (map datum_of c.next.new.out.items) c.next.new.pager.state
      (rw c.if-not-branch.false at c.in_ok-next.ensures.rows) c.meet.new.self
      (subst (λ (row : Row). PassesRow c.rows.self.first c.meet.new.self row) c.from.ensures (c.in_ok-meet.ensures.passed c.if-branch.false));
}

pub returns-clause-rows : goal.returns-clause-rows
returns-clause-rows g c = λ steady on rest ahead has coming.
    slice_ended _ c.rows.pager.state c.rows.invariant.image c.args.sources.now c.args.self.now c.rows.self.results c.rows.self.first
    c.rows.invariant.rows steady on rest ahead has coming (c.is_done.ensures.done c.rows-test.false)
