-- The cells of a tree page. (Database File Format, section 1.6, "B-tree Cell Format" and "Cell payload")
use Rattle.std.specs.Prelude.{◌≡◌, ℕ, ℤ, pos, ◌+◌, ◌-◌, ◌*◌, ◌/◌, ◌%◌, ◌≤◌, nat_le, List, length, take, drop, Option, Some, None, if◌then◌else◌}
use Rattle.pager.specs.Header.{field}
use Rattle.records.specs.Varint.{BeginsVarint}
use Rattle.btree.specs.declared.image.kind.TreeKind.{TreeKind}
use Rattle.btree.specs.declared.image.kind.TreeKind.TheVariants.{Table, Index}

-- the most bytes of a payload that stand in its cell whole: X of the file format, which calls the used bytes of a page U
abbrev pub most_local : TreeKind → ℕ → ℕ
most_local Table usable = usable - 35
most_local Index usable = (usable - 12) * 64 / 255 - 23

-- the fewest that stand there of a longer one: M
abbrev pub least_local : ℕ → ℕ
least_local usable = (usable - 12) * 32 / 255 - 23

-- as many as fill its overflow pages, where these fit the cell: K, for a payload of P bytes
abbrev pub cut_local : ℕ → ℕ → ℕ
cut_local usable size = least_local usable + (size - least_local usable) % (usable - 4)

-- how many bytes of a payload of this size stand in its cell
abbrev pub local_size : TreeKind → ℕ → ℕ → ℕ
local_size kind usable size =
    if nat_le size (most_local kind usable) then size
    else if nat_le (cut_local usable size) (most_local kind usable) then cut_local usable size
    else least_local usable

-- a payload's size, the bytes of it that stand in its cell, and the first of its overflow pages
pub record PayloadData : Type 0 where
  pub size : ℕ
  pub local : List ℕ
  pub overflow : Option ℕ

-- behind the local part stands the number of the first overflow page, where the payload isn't whole
abbrev pub overflow_of : TreeKind → ℕ → ℕ → List ℕ → Option ℕ
overflow_of kind usable size bytes =
    if nat_le size (most_local kind usable) then None else Some (field bytes (local_size kind usable size) 4)

abbrev pub overflow_size : TreeKind → ℕ → ℕ → ℕ
overflow_size kind usable size = if nat_le size (most_local kind usable) then 0 else 4

-- the bytes begin with a payload's local part
pub record IsPayload (kind : TreeKind) (usable : ℕ) (bytes : List ℕ) (payload : PayloadData) : Type 0 where
  pub within : local_size kind usable payload.size + overflow_size kind usable payload.size ≤ length bytes
  pub local_is : payload.local ≡ take (local_size kind usable payload.size) bytes
  pub overflow_is : payload.overflow ≡ overflow_of kind usable payload.size bytes

-- a cell of a leaf, and of any page of an index tree: an index's cells have no rowid
pub record CellData : Type 0 where
  pub rowid : Option ℤ
  pub payload : PayloadData

-- the bytes begin with a cell of a table's leaf: the payload's length, the rowid, the payload
pub record IsTableCell (usable : ℕ) (bytes : List ℕ) (cell : CellData) : Type 0 where
  pub rowid : ℤ
  pub size_length : ℕ
  pub rowid_length : ℕ
  pub size_is : BeginsVarint bytes (pos cell.payload.size) size_length
  pub rowid_is : BeginsVarint (drop size_length bytes) rowid rowid_length
  pub has_rowid : cell.rowid ≡ Some rowid
  pub payload : IsPayload Table usable (drop (size_length + rowid_length) bytes) cell.payload

-- the bytes begin with the length of a payload and the payload
pub record IsIndexCell (usable : ℕ) (bytes : List ℕ) (cell : CellData) : Type 0 where
  pub size_length : ℕ
  pub size_is : BeginsVarint bytes (pos cell.payload.size) size_length
  pub no_rowid : cell.rowid ≡ None
  pub payload : IsPayload Index usable (drop size_length bytes) cell.payload

-- such a cell, with a payload of at most so many bytes
pub record FitsIn (most : ℕ) (IsCellOf : CellData → Type 0) (cell : CellData) : Type 0 where
  pub is : IsCellOf cell
  pub fits : cell.payload.size ≤ most

-- there is one
abbrev pub HasFitting : ℕ → (CellData → Type 0) → Type 0
HasFitting most IsCellOf = (cell : CellData) × FitsIn most IsCellOf cell

-- the bytes begin with a cell of a table's interior page: a child, and a key that divides it from the next
pub record IsDivider (bytes : List ℕ) (key : ℤ) : Type 0 where
  pub length : ℕ
  pub key_is : BeginsVarint (drop 4 bytes) key length
