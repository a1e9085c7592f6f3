use Rattle.std.proofs.Common.{map, subst}
use Rattle.std.proofs.lemmas.Result.{err_from_is_err_and}
use Rattle.values.specs.Datum.{datum_of}
use Rattle.btree.specs.image.Pages.{pages_seen}
use Rattle.operators_runs.specs.execution.Given.{HasAhead, HasGiven, NeedsNone}
use Rattle.operators_runs.specs.declared.execution.rows.Execution.{Execution}
use Rattle.operators_runs.proofs.lemmas.execution.AskedLemmas.{chained_ask, distinct_ask, giving_ask, rows_ask, waiting_ask}
use Rattle.operators_runs.proofs.lemmas.execution.GivenLemmas.{chained_step, distinct_step, giving_step, rows_step, waiting_step, waiting_stops}
use Rattle.operators_runs.proofs.execution.rows.Execution.next.Goals as goal

pub returns-in-Rows-clause-rows : goal.returns-in-Rows-clause-rows
returns-in-Rows-clause-rows g c = λ steady planned given has.
    rows_step c.args.pager.now.state c.next.new.pager.state c.args.sources.now (map datum_of c.next.new.out.items) c.in-Rows.results c.next.new.self c.next.ensures.same.plan
    c.next.ensures.same.columns c.next.result c.next.ensures.rows steady planned given
    (subst (λ (r : Execution). HasGiven (pages_seen c.args.pager.now.state) c.args.sources.now planned r given) c.in-Rows.is has)

pub returns-in-Distinct-clause-rows : goal.returns-in-Distinct-clause-rows
returns-in-Distinct-clause-rows g c = λ steady planned given has.
    distinct_step c.args.pager.now.state c.next-in-Distinct.new.pager.state c.args.sources.now (map datum_of c.next-in-Distinct.new.out.items) c.in-Distinct.distinct
    c.next-in-Distinct.new.self c.next-in-Distinct.ensures.same.plan c.next-in-Distinct.ensures.same.columns c.next-in-Distinct.result c.next-in-Distinct.ensures.rows steady planned given
    (subst (λ (r : Execution). HasGiven (pages_seen c.args.pager.now.state) c.args.sources.now planned r given) c.in-Distinct.is has)

pub returns-in-Chained-clause-rows : goal.returns-in-Chained-clause-rows
returns-in-Chained-clause-rows g c = λ steady planned given has.
    chained_step c.args.pager.now.state c.next-in-Chained.new.pager.state c.args.sources.now (map datum_of c.next-in-Chained.new.out.items) c.in-Chained.chained
    c.next-in-Chained.new.self c.next-in-Chained.ensures.left.hits c.next-in-Chained.result c.next-in-Chained.ensures.rows steady planned given
    (subst (λ (r : Execution). HasGiven (pages_seen c.args.pager.now.state) c.args.sources.now planned r given) c.in-Chained.is has)

pub returns-in-Giving-clause-rows : goal.returns-in-Giving-clause-rows
returns-in-Giving-clause-rows g c = λ steady planned given has.
    giving_step c.args.pager.now.state c.args.pager.now.state c.args.sources.now (map datum_of c.next-in-Giving.new.row.items) c.in-Giving.rows c.next-in-Giving.new.self
    c.next-in-Giving.result c.next-in-Giving.ensures.rows steady planned given
    (subst (λ (r : Execution). HasGiven (pages_seen c.args.pager.now.state) c.args.sources.now planned r given) c.in-Giving.is has)

pub returns-in_err-rows-in-Waiting-clause-rows : goal.returns-in_err-rows-in-Waiting-clause-rows
returns-in_err-rows-in-Waiting-clause-rows g c = λ steady planned given has.
    let p = err_from_is_err_and c.from_residual.result c.from_residual.ensures.1 in
    rw (p.1, p.2)
    (waiting_stops c.args.pager.now.state c.args.pager.now.state c.args.sources.now (map datum_of c.args.row.now.items) c.in-Waiting.answer c.args.self.now _
    c.in_err-rows-in-Waiting.ensures.rows steady planned given
    (subst (λ (r : Execution). HasGiven (pages_seen c.args.pager.now.state) c.args.sources.now planned r given) c.in-Waiting.is has))

pub returns-in_ok-rows-in-Waiting-clause-rows : goal.returns-in_ok-rows-in-Waiting-clause-rows
returns-in_ok-rows-in-Waiting-clause-rows g c = λ steady planned given has.
    waiting_step c.args.pager.now.state c.args.pager.now.state c.args.sources.now (map datum_of c.next-found.new.row.items) c.in-Waiting.answer
    c.in_ok-rows-in-Waiting.rows c.new-left.result c.next-found.new.self c.next-found.result c.new-left.ensures.rows
    (λ steady on has. (c.in_ok-rows-in-Waiting.ensures.rows steady on has).0) c.next-found.ensures.rows steady planned given
    (subst (λ (r : Execution). HasGiven (pages_seen c.args.pager.now.state) c.args.sources.now planned r given) c.in-Waiting.is has)

pub returns-in-Rows-clause-pages : goal.returns-in-Rows-clause-pages
returns-in-Rows-clause-pages g c = λ steady on ahead has all.
    rows_ask c.args.pager.now.state c.next.new.pager.state c.args.sources.now (map datum_of c.next.new.out.items) c.in-Rows.results c.next.new.self c.next.ensures.same.plan
    c.next.result c.next.ensures.rows steady on ahead has
    (subst (λ (r : Execution). HasAhead (pages_seen c.args.pager.now.state) c.args.sources.now on r ahead) c.in-Rows.is all)

pub returns-in-Distinct-clause-pages : goal.returns-in-Distinct-clause-pages
returns-in-Distinct-clause-pages g c = λ steady on ahead has all.
    distinct_ask c.args.pager.now.state c.next-in-Distinct.new.pager.state c.args.sources.now (map datum_of c.next-in-Distinct.new.out.items) c.in-Distinct.distinct
    c.next-in-Distinct.new.self c.next-in-Distinct.ensures.same.plan c.next-in-Distinct.result c.next-in-Distinct.ensures.rows steady on ahead has
    (subst (λ (r : Execution). HasAhead (pages_seen c.args.pager.now.state) c.args.sources.now on r ahead) c.in-Distinct.is all)

pub returns-in-Chained-clause-pages : goal.returns-in-Chained-clause-pages
returns-in-Chained-clause-pages g c = λ steady on ahead has all.
    chained_ask c.args.pager.now.state c.next-in-Chained.new.pager.state c.args.sources.now (map datum_of c.next-in-Chained.new.out.items) c.in-Chained.chained
    c.next-in-Chained.new.self c.next-in-Chained.result c.next-in-Chained.ensures.rows steady on ahead has
    (subst (λ (r : Execution). HasAhead (pages_seen c.args.pager.now.state) c.args.sources.now on r ahead) c.in-Chained.is all)

pub returns-in-Giving-clause-pages : goal.returns-in-Giving-clause-pages
returns-in-Giving-clause-pages g c = λ steady on ahead has all.
    giving_ask c.args.pager.now.state c.args.sources.now (map datum_of c.next-in-Giving.new.row.items) c.in-Giving.rows c.next-in-Giving.new.self c.next-in-Giving.result steady on ahead has
    (subst (λ (r : Execution). HasAhead (pages_seen c.args.pager.now.state) c.args.sources.now on r ahead) c.in-Giving.is all)

pub returns-in_ok-rows-in-Waiting-clause-pages : goal.returns-in_ok-rows-in-Waiting-clause-pages
returns-in_ok-rows-in-Waiting-clause-pages g c = λ steady on ahead has all.
    waiting_ask c.args.pager.now.state c.gathered_rows.new.pager.state c.args.sources.now c.in-Waiting.answer (map datum_of c.next-found.new.row.items)
    c.next-found.new.self c.next-found.result (λ steady on has. (c.in_ok-rows-in-Waiting.ensures.rows steady on has).1) steady on ahead has
    (subst (λ (r : Execution). HasAhead (pages_seen c.args.pager.now.state) c.args.sources.now on r ahead) c.in-Waiting.is all)

pub returns-in-Rows-clause-done : goal.returns-in-Rows-clause-done
returns-in-Rows-clause-done g c = λ needs. c.next.ensures.done (subst NeedsNone c.in-Rows.is needs)

pub returns-in-Distinct-clause-done : goal.returns-in-Distinct-clause-done
returns-in-Distinct-clause-done g c = λ needs. c.next-in-Distinct.ensures.done (subst NeedsNone c.in-Distinct.is needs)

pub returns-in-Chained-clause-done : goal.returns-in-Chained-clause-done
returns-in-Chained-clause-done g c = λ needs. c.next-in-Chained.ensures.done (subst NeedsNone c.in-Chained.is needs)

pub returns-in_err-rows-in-Waiting-clause-done : goal.returns-in_err-rows-in-Waiting-clause-done
returns-in_err-rows-in-Waiting-clause-done g c = λ needs. absurd (subst NeedsNone c.in-Waiting.is needs)

pub returns-in_ok-rows-in-Waiting-clause-done : goal.returns-in_ok-rows-in-Waiting-clause-done
returns-in_ok-rows-in-Waiting-clause-done g c = λ needs. absurd (subst NeedsNone c.in-Waiting.is needs)
