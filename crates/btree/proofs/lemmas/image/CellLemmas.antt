-- A place of a table's tree has one cell.
use Rattle.std.proofs.Common.{◌≡◌, ◌∙◌, ◌+◌, ℕ, pos, List, drop, take, Some, sym, ap, subst}
use Rattle.records.specs.Varint.{BeginsVarint}
use Rattle.records.proofs.VarintLemmas.{one_front}
use Rattle.btree.specs.declared.image.kind.TreeKind.TheVariants.{Table}
use Rattle.btree.specs.declared.image.kind.Level.TheVariants.{Leaf}
use Rattle.btree.specs.image.Cell.{CellData, IsTableCell, local_size, overflow_of}
use Rattle.btree.specs.image.Pages.{Pages}
use Rattle.btree.specs.image.Tree.{Place, IsRowAt, cell_at}

pos_one : (a b : ℕ) → pos a ≡ pos b → a ≡ b
pos_one a b e = cc

module _ (usable : ℕ) (bytes : List ℕ) (a b : CellData) (one : IsTableCell usable bytes a) (other : IsTableCell usable bytes b) where
  sizes : (pos a.payload.size ≡ pos b.payload.size) × (one.size_length ≡ other.size_length)
  sizes = one_front bytes (pos a.payload.size) (pos b.payload.size) one.size_length other.size_length one.size_is other.size_is

  size_same : a.payload.size ≡ b.payload.size
  size_same = pos_one _ _ sizes.0

  rowids : (one.rowid ≡ other.rowid) × (one.rowid_length ≡ other.rowid_length)
  rowids =
      one_front (drop one.size_length bytes) one.rowid other.rowid one.rowid_length other.rowid_length one.rowid_is
      (subst (λ (k : ℕ). BeginsVarint (drop k bytes) other.rowid other.rowid_length) (sym sizes.1) other.rowid_is)

  rowid_same : a.rowid ≡ b.rowid
  rowid_same = one.has_rowid ∙ ap Some rowids.0 ∙ sym other.has_rowid

  body_same : drop (one.size_length + one.rowid_length) bytes ≡ drop (other.size_length + other.rowid_length) bytes
  body_same = λ k. drop (sizes.1 k + rowids.1 k) bytes

  local_same : a.payload.local ≡ b.payload.local
  local_same =
      one.payload.local_is ∙ (λ k. take (local_size Table usable (size_same k)) (body_same k)) ∙ sym other.payload.local_is

  overflow_same : a.payload.overflow ≡ b.payload.overflow
  overflow_same =
      one.payload.overflow_is ∙ (λ k. overflow_of Table usable (size_same k) (body_same k)) ∙ sym other.payload.overflow_is

  one_table_cell : a ≡ b
  one_table_cell = λ k. record {
    rowid = rowid_same k;
    payload = record { size = size_same k; local = local_same k; overflow = overflow_same k };
  }

pub one_cell : (pages : Pages) (place : Place) (a b : CellData) → IsRowAt pages place a → IsRowAt pages place b → a ≡ b
one_cell pages place a b one other =
    one_table_cell pages.usable (cell_at pages Leaf place.page place.index) a b one.is other.is
