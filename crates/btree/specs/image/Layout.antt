-- The bytes of a tree page: a header, the places of its cells in key order, and the cells.
-- (Database File Format, section 1.6 "B-tree Pages")
use Rattle.std.specs.Prelude.{◌≡◌, ◌≤◌, ℕ, ◌+◌, ◌*◌, ◌==◌, nat_lt, length, List, if◌then◌else◌}
use Rattle.pager.specs.Header.{field}
use Rattle.btree.specs.declared.image.kind.TreeKind.{TreeKind}
use Rattle.btree.specs.declared.image.kind.TreeKind.TheVariants.{Table, Index}
use Rattle.btree.specs.declared.image.kind.Level.{Level}
use Rattle.btree.specs.declared.image.kind.Level.TheVariants.{Leaf, Interior}

-- where a tree page's header begins: on page 1 behind the header of the image
abbrev pub header_at : ℕ → ℕ
header_at n = if n == 1 then 100 else 0

abbrev pub flag_of : TreeKind → Level → ℕ
flag_of Table Leaf = 13
flag_of Table Interior = 5
flag_of Index Leaf = 10
flag_of Index Interior = 2

-- an interior page's header ends with its right child
abbrev pub header_size : Level → ℕ
header_size Leaf = 8
header_size Interior = 12

-- In what follows `at` is where the page's header begins. Cell places count from the page's start, on page 1 too.

unfoldable pub flag : ℕ → List ℕ → ℕ
flag at page = field page at 1

unfoldable pub cell_count : ℕ → List ℕ → ℕ
cell_count at page = field page (at + 3) 2

unfoldable pub right_child : ℕ → List ℕ → ℕ
right_child at page = field page (at + 8) 4

-- where the cell places begin, and where those of so many cells end
abbrev pub places_at : ℕ → Level → ℕ
places_at at level = at + header_size level

abbrev pub places_end : ℕ → Level → List ℕ → ℕ
places_end at level page = places_at at level + 2 * cell_count at page

unfoldable pub cell_place : ℕ → Level → List ℕ → ℕ → ℕ
cell_place at level page i = field page (places_at at level + 2 * i) 2

-- child i of an interior page: the left child of cell i, and behind the last cell the right child
unfoldable pub child : ℕ → List ℕ → ℕ → ℕ
child at page i = if nat_lt i (cell_count at page) then field page (cell_place at Interior page i) 4 else right_child at page

-- the bytes are a page of this kind as its header says, and its cell places lie inside it
pub record HasHeaderAt (at : ℕ) (kind : TreeKind) (level : Level) (page : List ℕ) : Type 0 where
  pub flag_is : flag at page ≡ flag_of kind level
  pub places : places_end at level page ≤ length page
