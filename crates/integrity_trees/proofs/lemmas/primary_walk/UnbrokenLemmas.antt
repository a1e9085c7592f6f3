-- Nothing is broken of the tree of a table without rowids that was checked.
use Rattle.std.proofs.Common.{◌∙◌, ℕ, Contains, List, [], sym, subst, inl, inr, arith}
use Rattle.values.specs.Datum.{Datum}
use Rattle.values.specs.Row.{Row}
use Rattle.values.specs.declared.fault.Fault.{Fault}
use Rattle.values.specs.declared.fault.Fault.TheVariants.{ValueBreaksColumn}
use Rattle.btree.specs.declared.image.kind.TreeKind.TheVariants.{Index}
use Rattle.btree.specs.image.Cell.{CellData}
use Rattle.btree.specs.image.Pages.{Pages}
use Rattle.btree.specs.image.Tree.{Place}
use Rattle.btree.proofs.lemmas.image.PlaceLemmas.{complete}
use Rattle.btree_cursor.specs.index_entries.Entries.{HasRecord}
use Rattle.integrity_trees.specs.declared.tree_walk.counts.TreeCounts.{TreeCounts}
use Rattle.btree.proofs.KindLemmas.{one_entry}
use Rattle.integrity_trees.proofs.lemmas.index_walk.CheckedLemmas.{unbroken_index}
use Rattle.btree_cursor.proofs.lemmas.index_entries.EntryLemmas.{entry_at_place}
use Rattle.schema_tables.specs.TableData.{MissingData, TableData}
use Rattle.records_tables.specs.stored_rows.Stored.{Fits}
use Rattle.records_tables.proofs.lemmas.stored_rows.FilledLemmas.{fills_same, none_refused}
use Rattle.records_tables.specs.primary_rows.Rows.{BreaksRow, IsMisfit, IsNoPrimaryRow, IsPrimaryRow}
use Rattle.integrity_trees.specs.primary_walk.Checked.{HoldsPrimaryRow, IsBrokenPrimary, IsCheckedPrimary, widths_of}
use Rattle.integrity_trees.proofs.lemmas.primary_walk.RowLemmas.{one_values}

-- values that are a row's are not those of none
is_a_row : (table : TableData) (values row : List Datum) → IsPrimaryRow table values row → IsNoPrimaryRow table values → ⊥
is_a_row table values row makes (inl few) = let least = makes.least in omega (arith, few, least)
is_a_row table values row makes (inr (inl many)) = let few = makes.few in omega (arith, many, few)
is_a_row table values row makes (inr (inr refused)) = none_refused row (subst (λ l. Contains l MissingData.Refused) (sym makes.told) refused)

-- and that row fits
fits_alone : (table : TableData) (values row : List Datum) → IsPrimaryRow table values row → Fits table row → (fault : Fault) → IsMisfit table values fault → ⊥
fits_alone table values row makes fits (ValueBreaksColumn name) (is, (other, also, not)) =
    not (subst (λ (r : Row). Fits table r) (fills_same row other (makes.told ∙ sym also.told)) fits)
fits_alone table values row makes fits fault misfit = absurd misfit

unbroken_row : (table : TableData) (values row : List Datum) (n : ℕ) → IsPrimaryRow table values row → Fits table row → (fault : Fault) → BreaksRow table values n fault → ⊥
unbroken_row table values row n makes fits fault (inl (is, none)) = is_a_row table values row makes none
unbroken_row table values row n makes fits fault (inr misfit) = fits_alone table values row makes fits fault misfit

pub unbroken : (pages : Pages) (table : TableData) (counts : TreeCounts) → IsCheckedPrimary pages table counts → (fault : Fault) → IsBrokenPrimary pages table fault → ⊥
unbroken pages table counts checked fault (inl broken) = unbroken_index pages (widths_of table) [] table.root counts checked.tree fault broken
unbroken pages table counts checked fault (inr broken) =
    let there = complete pages Index counts.levels table.root checked.tree.shape broken.place broken.is_place in
    let held = subst (λ (p : Place). HoldsPrimaryRow pages table p) there.2 (checked.rows there.0 broken.place there.1) in
    let stores = held.stores in
    let same = one_entry pages Index broken.place stores.has.cell broken.has.cell
    (entry_at_place pages stores.level broken.place.page broken.place.index stores.has.cell stores.page stores.has.is)
    (entry_at_place pages broken.is_place.level broken.place.page broken.place.index broken.has.cell broken.is_place.page broken.has.is) in
    let one = one_values pages broken.has.cell stores.values broken.values (subst (λ (c : CellData). HasRecord pages c stores.values) same stores.has.has) broken.has.has in
    unbroken_row table broken.values held.row broken.place.page (subst (λ (v : List Datum). IsPrimaryRow table v held.row) one stores.makes) held.fits fault broken.broken
