-- The trees of an image: their pages, and their cells by places. (Database File Format, section 1.6 "B-tree Pages")
use Rattle.std.specs.Prelude.{◌≡◌, ℕ, ℤ, suc, ◌<◌, ◌≤◌, List, Contains, drop, slice_get, Some}
use Rattle.btree.specs.declared.image.kind.TreeKind.{TreeKind}
use Rattle.btree.specs.declared.image.kind.TreeKind.TheVariants.{Table, Index}
use Rattle.btree.specs.declared.image.kind.Level.{Level}
use Rattle.btree.specs.declared.image.kind.Level.TheVariants.{Leaf, Interior}
use Rattle.btree.specs.image.Pages.{Pages, IsNumber}
use Rattle.btree.specs.image.Layout.{HasHeaderAt, header_at, cell_count, cell_place, child, places_end}
use Rattle.btree.specs.image.Cell.{CellData, HasFitting, IsTableCell, IsIndexCell, IsDivider}

abbrev pub count_at : Pages → ℕ → ℕ
count_at pages n = cell_count (header_at n) (pages.page n)

abbrev pub child_at : Pages → ℕ → ℕ → ℕ
child_at pages n i = child (header_at n) (pages.page n) i

-- the bytes from cell i of page n on
abbrev pub cell_at : Pages → Level → ℕ → ℕ → List ℕ
cell_at pages level n i = drop (cell_place (header_at n) level (pages.page n) i) (pages.page n)

-- the bytes begin with a cell for such a page; on the interior page of an index it stands behind the left child
abbrev pub HasCell : Pages → TreeKind → Level → List ℕ → Type 0
HasCell pages Table Leaf bytes = HasFitting pages.size (IsTableCell pages.usable bytes)
HasCell pages Table Interior bytes = (key : ℤ) × IsDivider bytes key
HasCell pages Index Leaf bytes = HasFitting pages.size (IsIndexCell pages.usable bytes)
HasCell pages Index Interior bytes = HasFitting pages.size (IsIndexCell pages.usable (drop 4 bytes))

-- page n is of this kind as its header says, and its cell places lie inside it
abbrev pub HasHeader : Pages → TreeKind → Level → ℕ → Type 0
HasHeader pages kind level n = HasHeaderAt (header_at n) kind level (pages.page n)

-- page n is of this kind, and its cells lie inside it, behind the cell places
pub record IsPageOf (pages : Pages) (kind : TreeKind) (level : Level) (n : ℕ) : Type 0 where
  pub header : HasHeader pages kind level n
  pub begins : (i : ℕ) → i < count_at pages n
      → places_end (header_at n) level (pages.page n) ≤ cell_place (header_at n) level (pages.page n) i
  pub cells : (i : ℕ) → i < count_at pages n → HasCell pages kind level (cell_at pages level n i)

-- Page m is child i of page n. A page that is of neither kind has no children.
pub record IsChild (pages : Pages) (kind : TreeKind) (n i m : ℕ) : Type 0 where
  pub interior : IsPageOf pages kind Interior n
  pub within : i ≤ count_at pages n
  pub is : child_at pages n i ≡ m
  pub number : IsNumber pages m

-- Page n stands at this depth under the root, which has depth 1.
pub data StandsAt (pages : Pages) (kind : TreeKind) (root : ℕ) : ℕ → ℕ → Type 0 where
  top : StandsAt pages kind root 1 root
  below : {depth n m : ℕ} (i : ℕ) → StandsAt pages kind root depth n → IsChild pages kind n i m → StandsAt pages kind root (suc depth) m

-- the pages of a tree: the least set that holds the root and the children of its pages
abbrev pub Reaches : Pages → TreeKind → ℕ → ℕ → Type 0
Reaches pages kind root n = (depth : ℕ) × StandsAt pages kind root depth n

-- Page m is child i of page n by the header of page n alone, whatever the cells of page n are.
pub record IsNamedChild (pages : Pages) (kind : TreeKind) (n i m : ℕ) : Type 0 where
  pub header : HasHeader pages kind Interior n
  pub within : i ≤ count_at pages n
  pub is : child_at pages n i ≡ m
  pub number : IsNumber pages m

-- Such children lead to page n at this depth from the root, which has depth 1: a page that is met before the cells above
-- it are all known to be sound.
pub data IsMetAt (pages : Pages) (kind : TreeKind) (root : ℕ) : ℕ → ℕ → Type 0 where
  from_root : IsMetAt pages kind root 1 root
  by_name : {depth n m : ℕ} (i : ℕ) → IsMetAt pages kind root depth n → IsNamedChild pages kind n i m
      → IsMetAt pages kind root (suc depth) m

-- page m is in the tree under child i of page n
pub record IsUnder (pages : Pages) (kind : TreeKind) (n i m : ℕ) : Type 0 where
  pub head : ℕ
  pub is : IsChild pages kind n i head
  pub reaches : Reaches pages kind head m

-- cell `index` of page `page`
pub record Place : Type 0 where
  pub page : ℕ
  pub index : ℕ

-- A table's cells are those of its leaves. In an index tree those of interior pages are entries too.
abbrev pub HasEntries : TreeKind → Level → Type 0
HasEntries Table Leaf = Unit {0}
HasEntries Table Interior = ⊥
HasEntries Index level = Unit {0}

pub record IsPlaceOf (pages : Pages) (kind : TreeKind) (root : ℕ) (place : Place) : Type 0 where
  pub level : Level
  pub entries : HasEntries kind level
  pub reaches : Reaches pages kind root place.page
  pub page : IsPageOf pages kind level place.page
  pub within : place.index < count_at pages place.page

-- the list has exactly the tree's cells, each once
pub record ArePlacesOf (pages : Pages) (kind : TreeKind) (root : ℕ) (places : List Place) : Type 0 where
  pub sound : (place : Place) → Contains places place → IsPlaceOf pages kind root place
  pub complete : (place : Place) → IsPlaceOf pages kind root place → Contains places place
  pub once : (i j : ℕ) (place : Place) → slice_get places i ≡ Some place → slice_get places j ≡ Some place → i ≡ j

-- The cell that stands at a place of a table tree.
pub record IsRowAt (pages : Pages) (place : Place) (cell : CellData) : Type 0 where
  pub is : IsTableCell pages.usable (cell_at pages Leaf place.page place.index) cell
  pub fits : cell.payload.size ≤ pages.size

-- the bytes from entry i of a page of an index tree on: on an interior page it stands behind the left child
abbrev pub entry_at : Pages → Level → ℕ → ℕ → List ℕ
entry_at pages Leaf n i = cell_at pages Leaf n i
entry_at pages Interior n i = drop 4 (cell_at pages Interior n i)

-- The cell that stands at a place of an index tree, on a leaf or on an interior page.
pub record IsIndexEntryAt (pages : Pages) (place : Place) (cell : CellData) : Type 0 where
  pub level : Level
  pub page : HasHeader pages Index level place.page
  pub is : IsIndexCell pages.usable (entry_at pages level place.page place.index) cell
  pub fits : cell.payload.size ≤ pages.size

abbrev pub IsEntryAt : Pages → TreeKind → Place → CellData → Type 0
IsEntryAt pages Table place cell = IsRowAt pages place cell
IsEntryAt pages Index place cell = IsIndexEntryAt pages place cell
