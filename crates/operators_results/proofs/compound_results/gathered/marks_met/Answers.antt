use Rattle.std.proofs.Common.{◌≡◌, ◌∙◌, ◌++◌, ◌∷◌, [], ap, map, refl, subst}
use Rattle.std.proofs.lemmas.Result.{err_from_is_err_and}
use Rattle.values.specs.Datum.{datum_of}
use Rattle.values.specs.Row.{Row}
use Rattle.pager.proofs.CallLemmas.{SameImage-none, SameImage-trans}
use Rattle.expr.specs.View.{term}
use Rattle.operators_results.specs.Coming.{IsComing, IsResultCause}
use Rattle.operators_results.proofs.lemmas.sorted_results.GatherLemmas.{Gathering-start, gather_says, gathered_all, gathered_more}
use Rattle.logical_plan.specs.answers.Joined.{has_row}
use Rattle.operators_results.proofs.compound_results.gathered.marks_met.Goals as goal

pub rows-init : goal.rows-init
rows-init g c = record {
  image = SameImage-none _;
  failures = refl;
  plan = refl;
  columns = refl;
  rows = Gathering-start IsComing c.args.pager.now.state c.args.sources.now c.args.results.now
      (λ given. c.in_ok-marks.marks.items ≡ map (has_row given) c.args.set.now.keys) c.in_ok-marks.ensures.marks;
}

pub returns-in_err-next-clause-rows : goal.returns-in_err-next-clause-rows
returns-in_err-next-clause-rows g c = λ steady on rest ahead has coming.
    let p = err_from_is_err_and c.from_residual-in_err-next.result c.from_residual-in_err-next.ensures.1 in
    rw (p.1, p.2)
    (subst (λ columns. IsResultCause on columns c.in_err-next.field-0.0) c.rows.invariant.columns
    (gather_says IsComing _ c.rows.pager.state c.rows.invariant.image c.args.sources.now c.args.results.now c.rows.results _
    c.rows.invariant.rows steady on rest ahead has coming (λ on. IsResultCause on (map term c.rows.results.columns.items) c.in_err-next.field-0.0)
    c.in_err-next.ensures.rows))

pub rows-preserved : goal.rows-preserved
rows-preserved g c = record {
  image = SameImage-trans _ _ _ c.rows.invariant.image c.next.ensures.reads.image;
  failures = c.in_ok-next.ensures.reads.failures ∙ c.rows.invariant.failures;
  plan = c.in_ok-next.ensures.same.plan ∙ c.rows.invariant.plan;
  columns = c.in_ok-next.ensures.same.columns ∙ c.rows.invariant.columns;
  rows = λ steady on rest ahead has coming.
      gathered_more IsComing _ c.rows.pager.state c.rows.invariant.image c.args.sources.now c.args.results.now c.rows.results _
      c.rows.invariant.rows steady on rest ahead has coming c.next.new.self (map datum_of c.next.new.out.items) c.next.new.pager.state
      (λ given. c.mark_row.new.marks.items ≡ map (has_row given) c.args.set.now.keys)
      (λ given is. c.mark_row.ensures given is ∙ ap (λ (row : Row). map (has_row (given ++ row ∷ [])) c.args.set.now.keys) c.from-met.ensures)
      (rw c.if-branch.true at c.in_ok-next.ensures.rows);
}

pub returns-clause-rows : goal.returns-clause-rows
returns-clause-rows g c = λ steady on rest ahead has coming.
    gathered_all IsComing _ c.rows.pager.state c.rows.invariant.image c.args.sources.now c.args.results.now c.rows.results _
    c.rows.invariant.rows steady on rest ahead has coming c.next.new.self (map datum_of c.next.new.out.items) c.next.new.pager.state
    (rw c.if-branch.false at c.in_ok-next.ensures.rows)
