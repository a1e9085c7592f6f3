use Rattle.std.proofs.Common.{Contains, map, subst}
use Rattle.std.specs.Prelude.{MatchResult}
use Rattle.pager.specs.Calls.{IsReadFault}
use Rattle.btree.specs.declared.image.kind.TreeKind.TheVariants.{Index}
use Rattle.btree.specs.image.Pages.{pages_seen}
use Rattle.btree.specs.image.Shape.{places_under}
use Rattle.btree.specs.Views.{cell_data}
use Rattle.integrity_trees.specs.wanted_entries.Wanted.{KeyedRow, entry_of}
use Rattle.integrity_indexes.specs.index_rows.Entries.{indexed_by}
use Rattle.integrity_indexes.specs.index_rows.Kept.{Tells, condition_of, keeps_row}
use Rattle.integrity_indexes.proofs.lemmas.index_rows.LookLemmas.{as_primary, as_row, keyed_by}
use Rattle.integrity_indexes.proofs.index_rows.searches.look_up.Goals as goal

pub returns-in-Rowid-clause-found : goal.returns-in-Rowid-clause-found
returns-in-Rowid-clause-found g c = λ steady keyed values levels is index.
    let pages = pages_seen c.args.pager.now.state in
    let row = as_row c.args.table.now.key _ pages c.args.table.now (cell_data c.args.cell.now) keyed (rw c.in-Rowid.is at c.key.ensures.same) is in
    subst (λ (k : KeyedRow). MatchResult c.look_up_row.result (λ found. Tells found (keeps_row (condition_of c.args.index.now) k.row)
    (Contains (map values (places_under pages Index levels c.args.index.now.root)) (entry_of (indexed_by c.args.index.now) k))) IsReadFault)
    (keyed_by keyed c.args.cell.now.rowid row.1) (c.look_up_row.ensures.found steady keyed.row values levels row.0 index)

pub returns-in-Primary-clause-found : goal.returns-in-Primary-clause-found
returns-in-Primary-clause-found g c = λ steady keyed values levels is index.
    let pages = pages_seen c.args.pager.now.state in
    let row = as_primary c.args.table.now.key _ pages c.args.table.now (cell_data c.args.cell.now) keyed (rw c.in-Primary.is at c.key.ensures.same) is in
    subst (λ (k : KeyedRow). MatchResult c.look_up_primary.result (λ found. Tells found (keeps_row (condition_of c.args.index.now) k.row)
    (Contains (map values (places_under pages Index levels c.args.index.now.root)) (entry_of (indexed_by c.args.index.now) k))) IsReadFault)
    (keyed_by keyed _ row.1) (c.look_up_primary.ensures.found steady keyed.row values levels row.0 index)
