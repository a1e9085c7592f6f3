use Rattle.std.proofs.Common.{◌∙◌, sym}
use Rattle.btree.specs.Views.{cell_data}
use Rattle.btree.specs.image.Pages.{pages_seen}
use Rattle.records_searches.specs.Entries.{of_index}
use Rattle.records_searches.proofs.ComingLemmas.{come_local, come_none, entry_here, entry_record, leads_kind, more_anyhow, row_given}
use Rattle.records_searches.proofs.search.index_row.Goals as goal

pub returns-in_err-cell-clause-rows : goal.returns-in_err-cell-clause-rows
returns-in_err-cell-clause-rows g c = λ steady levels entries t. absurd (c.in_err-cell.ensures.entry _ _ _ _ _ _ t.at)

pub returns-in_default-clause-rows : goal.returns-in_default-clause-rows
returns-in_default-clause-rows g c = λ steady levels entries t.
    come_none (of_index c.args.table.now c.args.index.now) _ levels c.args.range.now c.args.cursor.now entries t
    (rw c.in_default.is at (c.in_ok-cell.ensures.entry _ _ _ _ _ _ t.at))

pub returns-clause-rows : goal.returns-clause-rows
returns-clause-rows g c = λ steady levels entries t.
    let table = c.args.table.now in
    let index = c.args.index.now in
    let pages = pages_seen c.args.pager.now.state in
    let cell = cell_data c.in-Some.cell in
    let here = rw c.in-Some.is at (c.in_ok-cell.ensures.entry _ _ _ _ _ _ t.at) in
    let first = entry_here table index pages levels c.args.range.now c.args.cursor.now entries t cell here in
    row_given table index pages levels c.args.range.now c.args.cursor.now entries t cell here c.entry_row.result
    (c.entry_row.ensures.row steady first.entry.values first.entry.row
    (entry_record table index pages levels c.args.range.now c.args.cursor.now entries t cell here) first.is.leads)

pub returns-clause-more : goal.returns-clause-more
returns-clause-more g c = let more = rw c.in-Some.is at c.in_ok-cell.ensures.more in more_anyhow c.entry_row.result more

pub returns-clause-unchained : goal.returns-clause-unchained
returns-clause-unchained g c = λ steady levels entries t none keys.
    let table = c.args.table.now in
    let index = c.args.index.now in
    let pages = pages_seen c.args.pager.now.state in
    let cell = cell_data c.in-Some.cell in
    let here = rw c.in-Some.is at (c.in_ok-cell.ensures.entry _ _ _ _ _ _ t.at) in
    let first = entry_here table index pages levels c.args.range.now c.args.cursor.now entries t cell here in
    c.entry_row.ensures.unchained (come_local (of_index table index) pages levels c.args.range.now c.args.cursor.now entries t none cell here) steady
    (λ kind. keys (sym (leads_kind pages table index.finder first.entry.values first.entry.row first.is.leads) ∙ kind))
