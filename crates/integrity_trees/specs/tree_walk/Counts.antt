-- How many cells and pages a tree has. (Database File Format, section 1.6 "B-tree Pages")
use Rattle.std.specs.Prelude.{◌≡◌, ℕ, ◌+◌, List, length, sum_by}
use Rattle.std.specs.List.{range_with_len, flat_map}
use Rattle.btree.specs.declared.image.kind.TreeKind.{TreeKind}
use Rattle.btree.specs.image.Pages.{Pages}
use Rattle.btree.specs.image.Tree.{Place, child_at}
use Rattle.btree.specs.image.Shape.{own_places, places_under, size_under, with_own}
use Rattle.values.specs.Bounds.{counted}

-- the cells under child i of page n, which has so many levels below it, and in an index tree those of page n behind it
abbrev pub places_at_child : Pages → TreeKind → ℕ → ℕ → ℕ → List Place
places_at_child pages kind levels n i = with_own kind (places_under pages kind levels (child_at pages n i)) (own_places pages n i)

-- how many cells, and how many pages, there are from page n down without its children from child i on
abbrev pub cells_before : Pages → TreeKind → ℕ → ℕ → ℕ → ℕ
cells_before pages kind levels n i = length (flat_map (places_at_child pages kind levels n) (range_with_len 0 i))

abbrev pub size_before : Pages → ℕ → ℕ → ℕ → ℕ
size_before pages levels n i = 1 + sum_by (λ k. size_under pages levels (child_at pages n k)) (range_with_len 0 i)

-- so many cells and pages are under a page that has so many levels of pages below it
pub record AreCounts (pages : Pages) (kind : TreeKind) (levels n cells size : ℕ) : Type 0 where
  pub cells_is : cells ≡ counted (length (places_under pages kind levels n))
  pub size_is : size ≡ counted (size_under pages levels n)
