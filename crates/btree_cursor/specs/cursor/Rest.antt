-- The cells that a cursor still has to give, by the pages that it holds.
use Rattle.std.specs.Prelude.{◌≡◌, ◌≢◌, ℕ, suc, ◌+◌, ◌-◌, ◌<◌, ◌≤◌, List, [], ◌∷◌, ◌++◌, drop, length, take, sum_by, Option, None, Some}
use Rattle.std.specs.List.{range_with_len, flat_map}
use Rattle.btree.specs.declared.image.kind.TreeKind.{TreeKind}
use Rattle.btree.specs.declared.image.kind.Level.{Level}
use Rattle.btree.specs.declared.image.kind.Level.TheVariants.{Leaf, Interior}
use Rattle.btree.specs.image.Pages.{Pages, IsNumber}
use Rattle.btree.specs.image.Tree.{Place, HasEntries, count_at, child_at, IsPageOf}
use Rattle.btree.specs.image.Shape.{HasShape, IsFilled, IsBranch, most_levels, place_at, places_in, places_under, size_under, with_own, own_places}
use Rattle.btree_cursor.specs.declared.cursor.cursor.Frame.{Frame}

-- the cells under the children of page n from child i on, with those of the page itself where they are entries, and how
-- many pages these children have
abbrev pub places_from : Pages → TreeKind → ℕ → ℕ → ℕ → List Place
places_from pages kind levels n i =
    flat_map (λ k. with_own kind (places_under pages kind levels (child_at pages n k)) (own_places pages n k))
    (range_with_len i (suc (count_at pages n) - i))

abbrev pub size_from : Pages → ℕ → ℕ → ℕ → ℕ
size_from pages levels n i = sum_by (λ k. size_under pages levels (child_at pages n k)) (range_with_len i (suc (count_at pages n) - i))

-- the cells that come after those under child i: its own cell, where that is an entry, and those from the next child on
abbrev pub places_after : Pages → TreeKind → ℕ → ℕ → ℕ → List Place
places_after pages kind levels n i = with_own kind [] (own_places pages n i) ++ places_from pages kind levels n (i + 1)

-- a frame holds a page of the image, and how many cells that has
pub record Holds (pages : Pages) (frame : Frame) : Type 0 where
  pub long : pages.usable ≤ length frame.page
  pub page : take pages.usable frame.page ≡ pages.page frame.number
  pub count : frame.count ≡ count_at pages frame.number

-- an interior page on the way to a page with these levels below it
pub record IsStep (pages : Pages) (kind : TreeKind) (levels : ℕ) (frame : Frame) : Type 0 where
  pub holds : Holds pages frame
  pub level : frame.level ≡ Interior
  pub page : IsPageOf pages kind Interior frame.number
  pub within : frame.at ≤ count_at pages frame.number
  pub children : (i : ℕ) → i ≤ count_at pages frame.number → IsBranch pages kind levels (child_at pages frame.number i)

-- Over frames from the root, which has so many levels below it, down to a page with these levels, these cells come after
-- those of that page, on so many pages that aren't asked for yet.
pub data IsStack (pages : Pages) (kind : TreeKind) (total : ℕ) : ℕ → List Frame → List Place → ℕ → Type 0 where
  bottom : IsStack pages kind total total [] [] 0
  inner : {levels : ℕ} {frames : List Frame} {rest : List Place} {behind : ℕ} (frame : Frame) (all : List Frame) (places : List Place) (ahead : ℕ)
      → IsStack pages kind total (suc levels) frames rest behind
      → IsStep pages kind levels frame
      → all ≡ frames ++ (frame ∷ [])
      → places ≡ places_after pages kind levels frame.number frame.at ++ rest
      → ahead ≡ size_from pages levels frame.number (frame.at + 1) + behind
      → IsStack pages kind total levels all places ahead

-- The frames lead to a page with these levels, and these cells come after it; those who ask for what is ahead keep
-- within a budget of asked pages.
pub record IsLeft (pages : Pages) (kind : TreeKind) (total levels : ℕ) (frames : List Frame) (rest : List Place) (asked budget : ℕ) : Type 0 where
  pub shallow : total < most_levels
  pub ahead : ℕ
  pub stack : IsStack pages kind total levels frames rest ahead
  pub asks : asked + ahead ≤ budget

-- the frames lead to page n, which is asked for next, and these cells are those of page n and of what comes after it
pub record HasCellsFrom (pages : Pages) (kind : TreeKind) (total : ℕ) (frames : List Frame) (n : ℕ)
    (places : List Place) (asked budget : ℕ) : Type 0 where
  pub levels : ℕ
  pub rest : List Place
  pub left : IsLeft pages kind total levels frames rest (asked + size_under pages levels n) budget
  pub number : IsNumber pages n
  pub shape : HasShape pages kind levels n
  pub filled : frames ≢ [] → IsFilled pages levels n
  pub places_is : places ≡ places_under pages kind levels n ++ rest

-- in a leaf, at a cell or behind the last: its cells from there on are to come, and then those after the leaf
pub record IsInLeaf (pages : Pages) (kind : TreeKind) (total : ℕ) (frames : List Frame) (leaf : Frame)
    (places : List Place) (asked budget : ℕ) : Type 0 where
  pub rest : List Place
  pub left : IsLeft pages kind total 0 frames rest asked budget
  pub holds : Holds pages leaf
  pub page : IsPageOf pages kind Leaf leaf.number
  pub places_is : places ≡ drop leaf.at (places_in pages leaf.number) ++ rest

-- a page whose child is taken: these cells are to come under the next ones, and behind the page
pub record IsBehind (pages : Pages) (kind : TreeKind) (total : ℕ) (frames : List Frame) (frame : Frame)
    (places : List Place) (asked budget : ℕ) : Type 0 where
  pub levels : ℕ
  pub rest : List Place
  pub left : IsLeft pages kind total (suc levels) frames rest (asked + size_from pages levels frame.number (frame.at + 1)) budget
  pub step : IsStep pages kind levels frame
  pub places_is : places ≡ places_from pages kind levels frame.number (frame.at + 1) ++ rest

-- at a cell of an interior page, which is an entry: it comes first, and then what is behind it
pub record IsOnCell (pages : Pages) (kind : TreeKind) (total : ℕ) (frames : List Frame) (here : Frame)
    (places : List Place) (asked budget : ℕ) : Type 0 where
  pub rest : List Place
  pub entries : HasEntries kind Interior
  pub behind : IsBehind pages kind total frames here rest asked budget
  pub places_is : places ≡ place_at here.number here.at ∷ rest

-- by the level of the page that the cursor stands on
abbrev pub IsOn : Level → Pages → TreeKind → ℕ → List Frame → Frame → List Place → ℕ → ℕ → Type 0
IsOn Leaf = IsInLeaf
IsOn Interior = IsOnCell

-- A cursor that stands here has these cells to give, the one that it stands at first; or it stands past the last.
pub data IsStanding (pages : Pages) (kind : TreeKind) (total : ℕ) (frames : List Frame) (here : Frame)
    (places : List Place) (asked budget : ℕ) : Type 0 where
  at_cell : here.at < here.count → IsOn here.level pages kind total frames here places asked budget
      → length frames ≤ total → IsStanding pages kind total frames here places asked budget
  is_past : here.count ≤ here.at → places ≡ [] → asked ≤ budget → length frames ≤ total → IsStanding pages kind total frames here places asked budget

-- what comes next of a cursor that goes on behind the last cell of a leaf
abbrev pub GoesOn : Pages → TreeKind → ℕ → List Frame → List Place → ℕ → ℕ → Option Frame → Type 0
GoesOn pages kind total frames rest asked budget None = (rest ≡ []) × ((frames ≡ []) × (asked ≤ budget))
GoesOn pages kind total frames rest asked budget (Some here) =
    IsStanding pages kind total frames here rest asked budget
