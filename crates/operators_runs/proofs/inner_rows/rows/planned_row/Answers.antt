use Rattle.std.proofs.Common.{◌≡◌, true, false, [], map, rules}
use Rattle.std.proofs.lemmas.Result.{err_from_is_err_and}
use Rattle.values.specs.Datum.{datum_of}
use Rattle.btree.specs.image.Pages.{pages_seen}
use Rattle.logical_plan_queries.specs.Answers.{planned_data, work_of}
use Rattle.operators_runs.proofs.lemmas.inner_rows.FirstLemmas.{asks_whole, none_begins, row_begins}
use Rattle.operators_runs.proofs.inner_rows.rows.planned_row.Goals as goal

pub next-requires-clause-planned : goal.next-requires-clause-planned
next-requires-clause-planned g c = c.in_ok-running.ensures.over c.args.sources.now c.requires.planned

pub returns-in_err-found-clause-rows : goal.returns-in_err-found-clause-rows
returns-in_err-found-clause-rows g c = λ steady on has.
    let p = err_from_is_err_and c.from_residual-in_err-found.result c.from_residual-in_err-found.ensures.1 in
    rw (p.1, p.2)
    (c.in_err-found.ensures.rows steady (planned_data c.args.planned) [] (c.in_ok-running.ensures.given (pages_seen c.args.pager.now.state) c.args.sources.now) on has)

pub returns-then-not-found-clause-rows : goal.returns-then-not-found-clause-rows
returns-then-not-found-clause-rows g c = λ steady on has.
    let planned = planned_data c.args.planned in
    let none : c.in_ok-found.found ≡ false = search rules in
    rw c.new-begun.ensures.items
    (none_begins (pages_seen c.args.pager.now.state) c.args.sources.now on has planned
    ((rw none at c.in_ok-found.ensures.rows) steady planned [] (c.in_ok-running.ensures.given (pages_seen c.args.pager.now.state) c.args.sources.now) on has))

pub returns-clause-rows : goal.returns-clause-rows
returns-clause-rows g c = λ steady on has.
    let planned = planned_data c.args.planned in
    let some : c.in_ok-found.found ≡ true = search rules in
    rw (c.in_ok-push.ensures.items, c.new-begun.ensures.items)
    (row_begins (pages_seen c.args.pager.now.state) c.args.sources.now on has planned c.next.new.self (map datum_of c.next.new.row.items)
    ((rw some at c.in_ok-found.ensures.rows) steady planned [] (c.in_ok-running.ensures.given (pages_seen c.args.pager.now.state) c.args.sources.now)))

pub returns-then-not-found-clause-pages : goal.returns-then-not-found-clause-pages
returns-then-not-found-clause-pages g c = λ steady on has.
    let ahead = work_of on.w on.db on.sizes (planned_data c.args.planned) in
    asks_whole (pages_seen c.args.pager.now.state) c.args.sources.now on c.args.pager.now.state c.next.new.pager.state ahead c.next.new.self c.in_ok-found.found
    (c.in_ok-found.ensures.pages steady on ahead has (c.in_ok-running.ensures.ahead (pages_seen c.args.pager.now.state) c.args.sources.now on))

pub returns-clause-pages : goal.returns-clause-pages
returns-clause-pages g c = λ steady on has.
    let ahead = work_of on.w on.db on.sizes (planned_data c.args.planned) in
    asks_whole (pages_seen c.args.pager.now.state) c.args.sources.now on c.args.pager.now.state c.next.new.pager.state ahead c.next.new.self c.in_ok-found.found
    (c.in_ok-found.ensures.pages steady on ahead has (c.in_ok-running.ensures.ahead (pages_seen c.args.pager.now.state) c.args.sources.now on))
