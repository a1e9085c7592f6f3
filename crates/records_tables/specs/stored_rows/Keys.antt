-- The keys of one page of a table's tree: the rowids of a leaf's cells, and those that the cells of an interior page
-- divide. (Database File Format, section 1.6 "B-tree Pages")
use Rattle.std.specs.Prelude.{◌≡◌, ◌≢◌, ◌⊎◌, ℕ, ℤ, zero, suc, ◌<ℤ◌, ◌<◌, List, Option, Some, length}
use Rattle.values.specs.declared.fault.Fault.{Fault}
use Rattle.values.specs.declared.fault.Fault.TheVariants.{BadPage, BadOrder}
use Rattle.values.specs.Bounds.{IsAbove, IsAtMost}
use Rattle.btree.specs.declared.image.kind.Level.{Level}
use Rattle.btree.specs.declared.image.kind.Level.TheVariants.{Leaf, Interior}
use Rattle.btree.specs.image.Cell.{CellData}
use Rattle.btree.specs.image.Layout.{cell_count, header_at}
use Rattle.btree.specs.image.Pages.{Pages}
use Rattle.btree.specs.Bytes.{IsRowCell, IsDividerCell}

-- Of a page of these used bytes, whose header begins at a place: cell i is there, with a payload of at most so many
-- bytes, and has this key.
abbrev pub HasKeyAt : ℕ → ℕ → List ℕ → Level → ℕ → ℤ → Type 0
HasKeyAt at most page Leaf i key = (cell : CellData) × IsRowCell at most page i cell × (cell.rowid ≡ Some key)
HasKeyAt at most page Interior i key = IsDividerCell at page i key

abbrev pub HasCells : ℕ → ℕ → List ℕ → Level → Type 0
HasCells at most page level = (i : ℕ) → i < cell_count at page → (key : ℤ) × HasKeyAt at most page level i key

-- the keys of so many cells ascend within the bounds
pub record KeysFit (HasKey : ℕ → ℤ → Type 0) (count : ℕ) (low high : Option ℤ) : Type 0 where
  pub ascends : (i j : ℕ) (x y : ℤ) → i < j → j < count → HasKey i x → HasKey j y → x <ℤ y
  pub above : (i : ℕ) (x : ℤ) → i < count → HasKey i x → IsAbove low x
  pub most : (i : ℕ) (x : ℤ) → i < count → HasKey i x → IsAtMost high x

-- the key of the cell before cell i, or the bound
abbrev pub IsLast : (ℕ → ℤ → Type 0) → Option ℤ → ℕ → Option ℤ → Type 0
IsLast HasKey low zero last = last ≡ low
IsLast HasKey low (suc i) last = (key : ℤ) × (last ≡ Some key) × HasKey i key

-- the keys before cell i ascend within the bounds, and this is the last of them
pub record FitSoFar (HasKey : ℕ → ℤ → Type 0) (low high last : Option ℤ) (i : ℕ) : Type 0 where
  pub last_is : IsLast HasKey low i last
  pub fit : KeysFit HasKey i low high

-- what a page's bytes say of it, where it is page n under a root: its cells, its keys, and that it has a cell
pub record IsHead (at most : ℕ) (page : List ℕ) (level : Level) (root n : ℕ) (low high : Option ℤ) : Type 0 where
  pub cells : HasCells at most page level
  pub fit : KeysFit (HasKeyAt at most page level) (cell_count at page) low high
  pub filled : level ≡ Leaf → n ≢ root → 0 < cell_count at page

-- why a page is no such page
abbrev pub IsHeadFault : ℕ → ℕ → List ℕ → Level → ℕ → ℕ → Option ℤ → Option ℤ → Fault → Type 0
IsHeadFault at most page level root n low high (BadPage m) =
    (m ≡ n) × ((¬ HasCells at most page level) ⊎ ((level ≡ Leaf) × (n ≢ root) × (cell_count at page ≡ 0)))
IsHeadFault at most page level root n low high (BadOrder m) =
    (m ≡ n) × HasCells at most page level × (¬ KeysFit (HasKeyAt at most page level) (cell_count at page) low high)
IsHeadFault at most page level root n low high _ = ⊥

-- page n as its used bytes have it, of which the header begins at a place
pub record IsSeen (pages : Pages) (n at most : ℕ) (page : List ℕ) : Type 0 where
  pub at_is : at ≡ header_at n
  pub page_is : page ≡ pages.page n
  pub most_is : most ≡ pages.size
  pub long : length page ≡ pages.usable
