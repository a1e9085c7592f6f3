use Rattle.std.proofs.Common.{◌∙◌, true, false, ℕ, List, [], ◌∷◌, ◌++◌, map, refl}
use Rattle.std.proofs.lemmas.Result.{err_from_is_err_and}
use Rattle.std.proofs.lemmas.List.{map_push}
use Rattle.values.specs.Datum.{datum_of}
use Rattle.values.specs.Row.{Row, rows_data}
use Rattle.pager.proofs.CallLemmas.{SameImage-none, SameImage-trans}
use Rattle.operators_loops.specs.Basis.{AreStored, Basis}
use Rattle.logical_plan_queries.specs.Answers.{IsAnswerOf, PlannedData}
use Rattle.operators_runs.specs.execution.Given.{HasAhead, HasAsked, HasGiven, IsRowCause}
use Rattle.operators_scan.proofs.lemmas.scan.ComingLemmas.{Asks-none, Asks-then}
use Rattle.operators_runs.proofs.lemmas.inner_rows.AddingLemmas.{at_first}
use Rattle.operators_runs.proofs.inner_rows.rows.rows_of_run.Goals as goal

pub rows-init : goal.rows-init
rows-init g c = record {
  image = SameImage-none _;
  failures = refl;
  over = c.requires.planned;
  given = λ steady planned has. rw c.new-rows.ensures.items has;
  asked = λ steady on ahead has all. (ahead, all, Asks-none on.local _ ahead);
}

pub returns-in_err-next-clause-rows : goal.returns-in_err-next-clause-rows
returns-in_err-next-clause-rows g c = λ steady planned begun on has.
    let p = err_from_is_err_and c.from_residual.result c.from_residual.ensures.1 in
    rw (p.1, p.2)
    (at_first c.args.pager.now.state c.rows.pager.state c.rows.invariant.image
    (λ pages. (planned : PlannedData) (given : List Row) → HasGiven pages c.args.sources.now planned c.rows.running given
    → (on : Basis) → AreStored pages c.args.sources.now on → IsRowCause on planned c.in_err-next.field-0.0)
    c.in_err-next.ensures.rows steady planned (rows_data c.rows.rows.items) (c.rows.invariant.given steady planned begun) on has)

pub rows-preserved : goal.rows-preserved
rows-preserved g c = record {
  image = SameImage-trans _ _ _ c.rows.invariant.image c.next.ensures.reads.image;
  failures = c.in_ok-next.ensures.reads.failures ∙ c.rows.invariant.failures;
  over = c.next.ensures.over;
  given = λ steady planned begun.
      rw (c.in_ok-push.ensures.items, map_push (λ row. map datum_of row.items) c.rows.rows.items c.next.new.row)
      (at_first c.args.pager.now.state c.rows.pager.state c.rows.invariant.image
      (λ pages. (planned : PlannedData) (given : List Row) → HasGiven pages c.args.sources.now planned c.rows.running given
      → HasGiven pages c.args.sources.now planned c.next.new.self (given ++ map datum_of c.next.new.row.items ∷ []))
      (rw c.if-branch.true at c.in_ok-next.ensures.rows) steady planned (rows_data c.rows.rows.items) (c.rows.invariant.given steady planned begun));
  asked = λ steady on ahead has all.
      let here = c.rows.invariant.asked steady on ahead has all in
      let more = at_first c.args.pager.now.state c.rows.pager.state c.rows.invariant.image
      (λ pages. (on : Basis) (ahead : ℕ) → AreStored pages c.args.sources.now on → HasAhead pages c.args.sources.now on c.rows.running ahead
      → HasAsked pages c.args.sources.now on c.rows.pager.state ahead c.next.new.pager.state c.next.new.self true)
      (rw c.if-branch.true at c.in_ok-next.ensures.pages) steady on here.0 has here.1 in
      (more.0, more.1, Asks-then on.local _ ahead _ here.0 _ more.0 here.2 more.2);
}

pub returns-clause-rows : goal.returns-clause-rows
returns-clause-rows g c = λ steady planned begun on has.
    at_first c.args.pager.now.state c.rows.pager.state c.rows.invariant.image
    (λ pages. (planned : PlannedData) (given : List Row) → HasGiven pages c.args.sources.now planned c.rows.running given
    → (on : Basis) → AreStored pages c.args.sources.now on → IsAnswerOf on.w on.db planned given)
    (rw c.if-branch.false at c.in_ok-next.ensures.rows) steady planned (rows_data c.rows.rows.items) (c.rows.invariant.given steady planned begun) on has

pub returns-clause-pages : goal.returns-clause-pages
returns-clause-pages g c = λ steady on ahead has all.
    let here = c.rows.invariant.asked steady on ahead has all in
    let none = at_first c.args.pager.now.state c.rows.pager.state c.rows.invariant.image
    (λ pages. (on : Basis) (ahead : ℕ) → AreStored pages c.args.sources.now on → HasAhead pages c.args.sources.now on c.rows.running ahead
    → HasAsked pages c.args.sources.now on c.rows.pager.state ahead c.next.new.pager.state c.next.new.self false)
    (rw c.if-branch.false at c.in_ok-next.ensures.pages) steady on here.0 has here.1 in
    Asks-then on.local _ ahead _ here.0 _ 0 here.2 none
