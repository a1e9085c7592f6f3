use Rattle.std.proofs.Common.{◌≡◌, true, false, rules}
use Rattle.std.proofs.lemmas.Result.{err_from_is_err_and}
use Rattle.operators_runs.proofs.nested_runs.steps.next_planned.Goals as goal

pub next-requires-clause-roots : goal.next-requires-clause-roots
next-requires-clause-roots g c = rw c.new-sources.ensures c.requires.roots

pub next-requires-clause-planned : goal.next-requires-clause-planned
next-requires-clause-planned g c = rw c.new-sources.ensures c.requires.planned

pub returns-in_err-found-clause-rows : goal.returns-in_err-found-clause-rows
returns-in_err-found-clause-rows g c =
    let p = err_from_is_err_and c.from_residual.result c.from_residual.ensures.1 in
    rw (p.1, p.2) (rw c.new-sources.ensures at c.in_err-found.ensures.rows)

pub returns-then-not-found-clause-rows : goal.returns-then-not-found-clause-rows
returns-then-not-found-clause-rows g c =
    let none : c.in_ok-found.found ≡ false = search rules in
    rw (c.new-sources.ensures, none) at c.in_ok-found.ensures.rows

pub returns-clause-rows : goal.returns-clause-rows
returns-clause-rows g c =
    let some : c.in_ok-found.found ≡ true = search rules in
    rw (c.new-sources.ensures, some, ← c.from.ensures) at c.in_ok-found.ensures.rows

pub returns-then-not-found-clause-pages : goal.returns-then-not-found-clause-pages
returns-then-not-found-clause-pages g c =
    let none : c.in_ok-found.found ≡ false = search rules in
    rw (c.new-sources.ensures, none) at c.in_ok-found.ensures.pages

pub returns-clause-pages : goal.returns-clause-pages
returns-clause-pages g c =
    let some : c.in_ok-found.found ≡ true = search rules in
    rw (c.new-sources.ensures, some) at c.in_ok-found.ensures.pages
