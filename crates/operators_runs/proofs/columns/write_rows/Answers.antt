use Rattle.std.proofs.Common.{refl}
use Rattle.std.proofs.lemmas.Result.{err_from_is_err_and}
use Rattle.records_tables.proofs.TableLemmas.{stored_shape}
use Rattle.operators_runs.proofs.StreamLemmas.{Streaming-cut, Streaming-done, Streaming-never, Streaming-next, Streaming-start, Streaming-stopped, asked_few, nothing_given}
use Rattle.operators_runs.proofs.columns.write_rows.Goals as goal

pub returns-in_err-cursor-clause-rows : goal.returns-in_err-cursor-clause-rows
returns-in_err-cursor-clause-rows g c = λ steady stored.
    let p = err_from_is_err_and c.from_residual.result c.from_residual.ensures.1 in
    rw (p.1, p.2)
    (nothing_given _ c.args.columns.now stored.rows _
    (c.in_err-cursor.ensures.outcome.sound steady stored.levels
    (record { few = stored.few; number = rw c.root.ensures c.requires.root; shape = rw (c.root.ensures, c.tree_kind.ensures) (stored_shape _ c.args.table.now stored) })))

pub loop-cursor-init : goal.loop-cursor-init
loop-cursor-init g c =
    Streaming-start _ _ _ _ _ 0 _ c.in_ok-cursor.ensures.reads c.requires.root (rw (← c.root.ensures, ← c.tree_kind.ensures) c.in_ok-cursor.ensures.outcome) refl

pub returns-in_err-cell-clause-rows : goal.returns-in_err-cell-clause-rows
returns-in_err-cell-clause-rows g c = λ steady stored.
    absurd (Streaming-never _ _ _ _ _ _ _ _ c.loop-cursor.invariant steady stored c.in_err-cell.ensures.entry)

pub returns-in_err-write_cell-clause-rows : goal.returns-in_err-write_cell-clause-rows
returns-in_err-write_cell-clause-rows g c = λ steady stored.
    let p = err_from_is_err_and c.from_residual-in_err-write_cell.result c.from_residual-in_err-write_cell.ensures.1 in
    rw (p.1, p.2)
    (Streaming-cut _ _ _ _ _ _ _ _ c.loop-cursor.invariant steady stored _ _ _ (rw c.in-Some.is at c.in_ok-cell.ensures.entry)
    c.in_err-write_cell.ensures.rows)

pub returns-in_err-next-clause-rows : goal.returns-in_err-next-clause-rows
returns-in_err-next-clause-rows g c = λ steady stored.
    let p = err_from_is_err_and c.from_residual-in_err-next.result c.from_residual-in_err-next.ensures.1 in
    rw (p.1, p.2)
    (Streaming-stopped _ _ _ _ _ _ _ _ c.loop-cursor.invariant steady stored _ _ _ _ (g.W.Sink.facts c.write_cell.new.out)
    (rw c.in-Some.is at c.in_ok-cell.ensures.entry) c.write_cell.ensures.reads.chains
    c.in_ok-write_cell.ensures.rows c.in_err-next.ensures.outcome)

pub loop-cursor-preserved : goal.loop-cursor-preserved
loop-cursor-preserved g c =
    Streaming-next _ _ _ _ _ _ _ _ c.loop-cursor.invariant _ _ _ _ _ _ (rw c.in-Some.is at c.in_ok-cell.ensures.entry) c.in_ok-write_cell.ensures.reads.chains
    c.in_ok-write_cell.ensures.reads.failures c.in_ok-write_cell.ensures.unread c.in_ok-write_cell.ensures.rows
    c.in_ok-next.ensures.outcome c.in_ok-next.ensures.reads
    c.in_ok-write_cell.ensures.writes c.saturating_add-count.ensures

pub returns-clause-rows : goal.returns-clause-rows
returns-clause-rows g c = λ steady stored.
    Streaming-done _ _ _ _ _ _ _ _ c.loop-cursor.invariant steady stored (rw c.in_default.is at c.in_ok-cell.ensures.entry)

pub returns-clause-pages : goal.returns-clause-pages
returns-clause-pages g c = λ steady stored. asked_few _ _ _ _ _ _ _ _ c.loop-cursor.invariant steady stored
