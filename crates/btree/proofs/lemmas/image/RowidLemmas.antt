-- A cell has one rowid, and an interior page's cell one key.
use Rattle.std.proofs.Common.{◌≡◌, ℕ, ℤ, pos, drop, List, Some, sym, ◌∙◌, subst}
use Rattle.records.specs.Varint.{BeginsVarint}
use Rattle.records.proofs.VarintLemmas.{one_front}
use Rattle.btree.specs.declared.image.kind.Level.{Level}
use Rattle.btree.specs.declared.image.kind.Level.TheVariants.{Leaf, Interior}
use Rattle.btree.specs.image.Pages.{Pages}
use Rattle.btree.specs.image.Cell.{CellData, IsTableCell}
use Rattle.btree.specs.image.Tree.{cell_at}
use Rattle.btree.specs.image.Broken.{HasRowid}

pub one_cell_rowid : (usable : ℕ) (bytes : List ℕ) (c d : CellData) (one : IsTableCell usable bytes c) (other : IsTableCell usable bytes d) → one.rowid ≡ other.rowid
one_cell_rowid usable bytes c d one other =
    let size = one_front bytes (pos c.payload.size) (pos d.payload.size) one.size_length other.size_length one.size_is other.size_is in
    let other_is = subst (λ (k : ℕ). BeginsVarint (drop k bytes) other.rowid other.rowid_length) (sym size.1) other.rowid_is in
    (one_front (drop one.size_length bytes) one.rowid other.rowid one.rowid_length other.rowid_length one.rowid_is other_is).0

some_one : (a b : ℤ) → Some a ≡ Some b → a ≡ b
some_one a b e = cc

pub one_rowid : (pages : Pages) (level : Level) (n i : ℕ) (a b : ℤ) → HasRowid pages level n i a
    → HasRowid pages level n i b → a ≡ b
one_rowid pages Leaf n i a b (c, one, c_is) (d, other, d_is) =
    let same = one_cell_rowid pages.usable (cell_at pages Leaf n i) c d one other in
    some_one a one.rowid (sym c_is ∙ one.has_rowid) ∙ same ∙ sym (some_one b other.rowid (sym d_is ∙ other.has_rowid))
one_rowid pages Interior n i a b one other = (one_front (drop 4 (cell_at pages Interior n i)) a b one.length other.length one.key_is other.key_is).0
