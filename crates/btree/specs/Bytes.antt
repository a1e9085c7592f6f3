-- What a page's used bytes alone say, of a page whose header begins at a place.
use Rattle.std.specs.Prelude.{◌≡◌, ℕ, ℤ, ◌+◌, ◌<◌, ◌≤◌, List, length, drop, Some}
use Rattle.btree.specs.declared.image.kind.Level.{Level}
use Rattle.btree.specs.declared.image.kind.Level.TheVariants.{Leaf, Interior}
use Rattle.btree.specs.image.Layout.{places_end, cell_place}
use Rattle.btree.specs.image.Cell.{CellData, FitsIn, IsTableCell, IsIndexCell, IsDivider}

-- cell i of a table's leaf lies behind the cell places, and is such a cell
pub record IsRowCell (at most : ℕ) (page : List ℕ) (i : ℕ) (cell : CellData) : Type 0 where
  pub begins : places_end at Leaf page ≤ cell_place at Leaf page i
  pub is : FitsIn most (IsTableCell (length page) (drop (cell_place at Leaf page i) page)) cell

-- how many bytes stand before the entry in a cell of an index: on an interior page the number of the left child
abbrev pub child_size : Level → ℕ
child_size Leaf = 0
child_size Interior = 4

-- entry i of a page of an index lies behind the cell places, and is such a cell
pub record IsEntryCell (at most : ℕ) (level : Level) (page : List ℕ) (i : ℕ) (cell : CellData) : Type 0 where
  pub begins : places_end at level page ≤ cell_place at level page i
  pub is : FitsIn most (IsIndexCell (length page) (drop (cell_place at level page i + child_size level) page)) cell

-- the left child of cell i doesn't lie inside the page
pub record LacksChild (at : ℕ) (page : List ℕ) (i : ℕ) : Type 0 where
  pub outside : length page < cell_place at Interior page i + 4

-- cell i of a table's interior page lies behind the cell places, and has this key
pub record IsDividerCell (at : ℕ) (page : List ℕ) (i : ℕ) (key : ℤ) : Type 0 where
  pub begins : places_end at Interior page ≤ cell_place at Interior page i
  pub is : IsDivider (drop (cell_place at Interior page i) page) key

-- the key of cell i of a table's page: a leaf's cells have rowids, and the cells of an interior page divide them
abbrev pub HasKeyOf : ℕ → ℕ → Level → List ℕ → ℕ → ℤ → Type 0
HasKeyOf at most Leaf page i key = (cell : CellData) × IsRowCell at most page i cell × (cell.rowid ≡ Some key)
HasKeyOf at most Interior page i key = IsDividerCell at page i key
