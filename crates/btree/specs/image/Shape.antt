-- What a sound tree looks like from a page down: its levels, its cells from left to right, and how many pages it has.
-- (Database File Format, section 1.6 "B-tree Pages")
use Rattle.std.specs.Prelude.{ℕ, zero, suc, ◌+◌, ◌<◌, ◌≤◌, nat_lt, List, [], ◌∷◌, ◌++◌, map, sum_by, if◌then◌else◌}
use Rattle.std.specs.List.{range_with_len, flat_map}
use Rattle.btree.specs.declared.image.kind.TreeKind.{TreeKind}
use Rattle.btree.specs.declared.image.kind.TreeKind.TheVariants.{Table, Index}
use Rattle.btree.specs.declared.image.kind.Level.TheVariants.{Leaf, Interior}
use Rattle.btree.specs.image.Pages.{Pages, IsNumber}
use Rattle.btree.specs.image.Tree.{count_at, child_at, IsPageOf, Place}

-- the most levels of pages that a tree may have
abbrev pub most_levels : ℕ
most_levels = 20

-- a leaf below a root has a cell
abbrev pub IsFilled : Pages → ℕ → ℕ → Type 0
IsFilled pages zero n = 0 < count_at pages n
IsFilled pages (suc height) n = Unit {0}

-- page n has so many levels of pages below it, all of the tree's kind, and their leaves are filled
abbrev pub HasShape : Pages → TreeKind → ℕ → ℕ → Type 0
HasShape pages kind zero n = IsPageOf pages kind Leaf n
HasShape pages kind (suc height) n =
    IsPageOf pages kind Interior n
    × ((i : ℕ) → i ≤ count_at pages n
    → IsNumber pages (child_at pages n i) × HasShape pages kind height (child_at pages n i) × IsFilled pages height (child_at pages n i))

-- child i of an interior page heads such a tree
abbrev pub IsBranch : Pages → TreeKind → ℕ → ℕ → Type 0
IsBranch pages kind height m = IsNumber pages m × HasShape pages kind height m × IsFilled pages height m

abbrev pub place_at : ℕ → ℕ → Place
place_at n i = record { page = n; index = i }

abbrev pub places_in : Pages → ℕ → List Place
places_in pages n = map (place_at n) (range_with_len 0 (count_at pages n))

-- In an index tree cell i of an interior page stands between what is under child i and what is under the next.
abbrev pub with_own : TreeKind → List Place → List Place → List Place
with_own Table under own = under
with_own Index under own = under ++ own

abbrev pub own_places : Pages → ℕ → ℕ → List Place
own_places pages n i = if nat_lt i (count_at pages n) then place_at n i ∷ [] else []

-- the cells under page n, from left to right
abbrev pub places_under : Pages → TreeKind → ℕ → ℕ → List Place
places_under pages kind zero n = places_in pages n
places_under pages kind (suc height) n =
    flat_map (λ i. with_own kind (places_under pages kind height (child_at pages n i)) (own_places pages n i))
    (range_with_len 0 (suc (count_at pages n)))

-- how many pages there are from page n down
abbrev pub size_under : Pages → ℕ → ℕ → ℕ
size_under pages zero n = 1
size_under pages (suc height) n = 1 + sum_by (λ i. size_under pages height (child_at pages n i)) (range_with_len 0 (suc (count_at pages n)))

-- page `root` heads a tree of this kind, which has so many levels below it and isn't too deep
pub record IsTreeAt (pages : Pages) (kind : TreeKind) (levels root : ℕ) : Type 0 where
  pub few : levels < most_levels
  pub number : IsNumber pages root
  pub shape : HasShape pages kind levels root
