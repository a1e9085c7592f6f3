use Rattle.std.proofs.lemmas.Result.{err_from_is_err_and}
use Rattle.btree.specs.declared.image.kind.TreeKind.TheVariants.{Table}
use Rattle.integrity_trees.proofs.lemmas.table_walk.GatherLemmas.{Gathering-cut, Gathering-done, Gathering-never, Gathering-next, Gathering-stopped}
use Rattle.integrity_trees.proofs.table_walk.rows.all_rows.Goals as goal

pub returns-in_default-clause-rows : goal.returns-in_default-clause-rows
returns-in_default-clause-rows g c = λ steady stored.
    absurd (Gathering-never _ _ _ _ _ c.loop-entry.invariant steady stored (λ pages. c.in_default.ensures.entry pages Table))

pub returns-in_default-entry-clause-rows : goal.returns-in_default-entry-clause-rows
returns-in_default-entry-clause-rows g c = λ steady stored.
    Gathering-done _ _ _ _ _ c.loop-entry.invariant steady stored (λ pages. (rw c.in_default-entry.is at c.in-Ok.ensures.entry) pages Table)

pub returns-in_err-row-clause-rows : goal.returns-in_err-row-clause-rows
returns-in_err-row-clause-rows g c = λ steady stored.
    let p = err_from_is_err_and c.from_residual-in_err-row.result c.from_residual-in_err-row.ensures.1 in
    rw (p.1, p.2)
    (Gathering-cut _ _ _ _ _ c.loop-entry.invariant steady stored _ _ _ (λ pages. (rw c.in-Some.is at c.in-Ok.ensures.entry) pages Table)
    c.in_err-row.ensures.fault)

pub loop-entry-preserved : goal.loop-entry-preserved
loop-entry-preserved g c =
    Gathering-next _ _ _ _ _ c.loop-entry.invariant _ _ _ _ _ _ (λ pages. (rw c.in-Some.is at c.in-Ok.ensures.entry) pages Table)
    c.in_ok-row.ensures.reads.chains c.in_ok-row.ensures.reads.failures c.in_ok-row.ensures.row c.in_ok-next.ensures.outcome
    c.in_ok-next.ensures.reads c.in_ok-push.ensures.items

pub returns-in_err-next-clause-rows : goal.returns-in_err-next-clause-rows
returns-in_err-next-clause-rows g c = λ steady stored.
    let p = err_from_is_err_and c.from_residual-in_err-next.result c.from_residual-in_err-next.ensures.1 in
    rw (p.1, p.2)
    (Gathering-stopped _ _ _ _ _ c.loop-entry.invariant steady stored _ _ _ c.row_in.ensures.reads.chains c.in_err-next.ensures.outcome)
