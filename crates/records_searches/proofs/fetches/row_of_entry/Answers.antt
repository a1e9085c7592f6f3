use Rattle.std.proofs.Common.{refl, sym}
use Rattle.records_searches.proofs.fetches.row_of_entry.Goals as goal

pub returns-in-Rowid-clause-row : goal.returns-in-Rowid-clause-row
returns-in-Rowid-clause-row g c = λ steady values row is leads.
    let named = rw c.in-Rowid.is at leads in
    c.row_by_rowid.ensures.row steady c.args.table.now values named.0 row (sym c.root-root.ensures) is named.1 named.2

pub returns-in-Rowid-clause-asks : goal.returns-in-Rowid-clause-asks
returns-in-Rowid-clause-asks g c = rw (c.in-Rowid.is, ← c.root-root.ensures) c.row_by_rowid.ensures.asks

pub returns-in-Key-clause-row : goal.returns-in-Key-clause-row
returns-in-Key-clause-row g c = λ steady values row is leads.
    let named = rw (c.in-Key.is, ← c.as_slice.ensures.value) at leads in
    c.row_by_key.ensures.row steady c.args.table.now values row (sym c.root-root.ensures) is named.0 named.1

pub returns-in-Key-clause-asks : goal.returns-in-Key-clause-asks
returns-in-Key-clause-asks g c = rw (c.in-Key.is, ← c.root-root.ensures) c.row_by_key.ensures.asks

pub returns-in-Key-clause-unchained : goal.returns-in-Key-clause-unchained
returns-in-Key-clause-unchained g c = rw (c.in-Key.is, ← c.root-root.ensures) (λ steady local. c.row_by_key.ensures.unchained steady (local refl))
