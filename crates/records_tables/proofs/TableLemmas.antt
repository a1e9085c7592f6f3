-- A table that is stored has its rows under its root.
use Rattle.std.proofs.Common.{◌≡◌, ℕ, zero, suc, List, [], ◌∷◌, ◌∙◌, ℤ, Option, ap, refl, subst, sym, arith}
use Rattle.std.specs.List.{AllZip}
use Rattle.values.specs.Datum.{Datum}
use Rattle.values.specs.Row.{Row}
use Rattle.btree.specs.declared.image.kind.TreeKind.{TreeKind}
use Rattle.btree.specs.declared.image.kind.TreeKind.TheVariants.{Index}
use Rattle.btree.specs.declared.image.kind.Level.TheVariants.{Leaf, Interior}
use Rattle.btree.specs.image.Cell.{CellData}
use Rattle.btree.proofs.lemmas.image.ChainLemmas.{one_payload}
use Rattle.records.proofs.RecordLemmas.{one_record}
use Rattle.schema_tables.proofs.ZipLemmas.{zip_same}
use Rattle.btree.proofs.KindLemmas.{one_entry, one_page}
use Rattle.btree.specs.image.Pages.{Pages}
use Rattle.btree.specs.image.Shape.{HasShape, places_under}
use Rattle.btree.specs.image.Tree.{Place, child_at}
use Rattle.schema_tables.specs.TableData.{RowKeyData, TableData}
use Rattle.records_tables.specs.stored_rows.Stored.{StoresRow}
use Rattle.records_tables.proofs.lemmas.stored_rows.FilledLemmas.{fills_same}
use Rattle.records_tables.proofs.lemmas.stored_rows.OneLemmas.{one_record_row}
use Rattle.records_tables.specs.primary_rows.Rows.{IsPrimaryRow}
use Rattle.records_tables.specs.primary_rows.Held.{StoresPrimaryRow}
use Rattle.btree_cursor.proofs.lemmas.index_entries.EntryLemmas.{entry_at_place}
use Rattle.records_tables.specs.Tables.{IsAnyStored, IsRecordBy, IsRowBy, IsStoredBy, StoresAnyRow, StoresRowBy, kind_of}

by_rowid : (at : Option ℕ) (pages : Pages) (table : TableData) (places : List Place) (rows : List Row) → AllZip (StoresRow pages table) places rows
    → AllZip (StoresRowBy (RowKeyData.Rowid at) pages table) places rows
by_rowid at pages table [] [] all = tt
by_rowid at pages table [] (row ∷ rows) all = absurd all
by_rowid at pages table (place ∷ places) [] all = absurd all
by_rowid at pages table (place ∷ places) (row ∷ rows) all =
    let first = all.0 in (
      record { cell = first.cell; at = first.at; is = record { bytes = first.is.bytes; whole = first.is.whole; is = first.is.is } },
      by_rowid at pages table places rows all.1,
    )

by_key : (ats : List ℕ) (pages : Pages) (table : TableData) (places : List Place) (rows : List Row) → AllZip (StoresPrimaryRow pages table) places rows
    → AllZip (StoresRowBy (RowKeyData.Primary ats) pages table) places rows
by_key ats pages table [] [] all = tt
by_key ats pages table [] (row ∷ rows) all = absurd all
by_key ats pages table (place ∷ places) [] all = absurd all
by_key ats pages table (place ∷ places) (row ∷ rows) all =
    let first = all.0 in
    let has = first.has.has in (
      record {
        cell = first.has.cell;
        at = entry_at_place pages first.level place.page place.index first.has.cell first.page first.has.is;
        is = record { bytes = has.bytes; whole = has.whole; is = record { values = first.values; record_is = has.record_is; makes = first.makes } };
      },
      by_key ats pages table places rows all.1,
    )

shape_by : (key : RowKeyData) (pages : Pages) (table : TableData) (levels : ℕ) (rows : List Row) → IsStoredBy key pages table levels rows
    → HasShape pages (kind_of key) levels table.root
shape_by (RowKeyData.Rowid at) pages table levels rows is = is.shape
shape_by (RowKeyData.Primary ats) pages table levels rows is = is.shape

rows_by : (key : RowKeyData) (pages : Pages) (table : TableData) (levels : ℕ) (rows : List Row) → IsStoredBy key pages table levels rows
    → AllZip (StoresRowBy key pages table) (places_under pages (kind_of key) levels table.root) rows
rows_by (RowKeyData.Rowid at) pages table levels rows is = by_rowid at pages table (places_under pages (kind_of (RowKeyData.Rowid at)) levels table.root) rows is.rows_are
rows_by (RowKeyData.Primary ats) pages table levels rows is = by_key ats pages table (places_under pages Index levels table.root) rows is.rows_are

-- ---- there is one list of rows

leaf_or : Leaf ≡ Interior → ⊥
leaf_or e = cc

one_levels : (pages : Pages) (kind : TreeKind) (a b n : ℕ) → HasShape pages kind a n → HasShape pages kind b n → a ≡ b
one_levels pages kind zero zero n one other = refl
one_levels pages kind zero (suc b) n one other = absurd (leaf_or (one_page pages n kind Leaf kind Interior one other.0).1)
one_levels pages kind (suc a) zero n one other = absurd (leaf_or (one_page pages n kind Leaf kind Interior other one.0).1)
one_levels pages kind (suc a) (suc b) n one other =
    ap suc (one_levels pages kind a b (child_at pages n 0) (one.1 0 (omega arith)).1 (other.1 0 (omega arith)).1)

one_record_by : (key : RowKeyData) (table : TableData) (rowid : Option ℤ) (bytes : List ℕ) (a b : Row) → IsRecordBy key table rowid bytes a
    → IsRecordBy key table rowid bytes b → a ≡ b
one_record_by (RowKeyData.Rowid at) table rowid bytes a b one other = one_record_row table rowid bytes a b one other
one_record_by (RowKeyData.Primary ats) table rowid bytes a b one other =
    let values = one_record bytes one.values other.values one.record_is other.record_is in
    let makes = subst (λ (v : List Datum). IsPrimaryRow table v a) values one.makes in
    fills_same a b (makes.told ∙ sym other.makes.told)

-- a cell is one row of its table at most
pub one_row_by : (key : RowKeyData) (pages : Pages) (table : TableData) (cell : CellData) (a b : Row) → IsRowBy key pages table cell a
    → IsRowBy key pages table cell b → a ≡ b
one_row_by key pages table cell a b one other =
    let same = one_payload pages cell.payload one.bytes other.bytes one.whole other.whole in
    one_record_by key table cell.rowid other.bytes a b (subst (λ (x : List ℕ). IsRecordBy key table cell.rowid x a) same one.is) other.is

one_stored_by : (key : RowKeyData) (pages : Pages) (table : TableData) (place : Place) (a b : Row) → StoresRowBy key pages table place a
    → StoresRowBy key pages table place b → a ≡ b
one_stored_by key pages table place a b one other =
    let same = one_entry pages (kind_of key) place one.cell other.cell one.at other.at in
    one_row_by key pages table other.cell a b (subst (λ (c : CellData). IsRowBy key pages table c a) same one.is) other.is

module _ (pages : Pages) (table : TableData) where
  pub stored_shape : (is : IsAnyStored pages table) → HasShape pages (kind_of table.key) is.levels table.root
  stored_shape is = shape_by table.key pages table is.levels is.rows is.stored

  pub stored_rows : (is : IsAnyStored pages table) → AllZip (StoresAnyRow pages table) (places_under pages (kind_of table.key) is.levels table.root) is.rows
  stored_rows is = rows_by table.key pages table is.levels is.rows is.stored

  pub stored_once : (one other : IsAnyStored pages table) → one.rows ≡ other.rows
  stored_once one other =
      let kind = kind_of table.key in
      let levels = one_levels pages kind other.levels one.levels table.root (stored_shape other) (stored_shape one) in
      zip_same (StoresAnyRow pages table) (one_stored_by table.key pages table) (places_under pages kind one.levels table.root) one.rows other.rows
      (stored_rows one)
      (subst (λ (n : ℕ). AllZip (StoresAnyRow pages table) (places_under pages kind n table.root) other.rows) levels (stored_rows other))
