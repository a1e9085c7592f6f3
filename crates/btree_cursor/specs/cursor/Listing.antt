-- A cursor over a tree, and the cells that it still has to give.
use Rattle.std.specs.Prelude.{◌≡◌, ℕ, List, [], ◌∷◌, Option, None, Some}
use Rattle.btree.specs.image.Cell.{CellData}
use Rattle.btree.specs.image.Pages.{Pages}
use Rattle.btree.specs.declared.image.kind.TreeKind.{TreeKind}
use Rattle.btree.specs.image.Tree.{Place, IsEntryAt}
use Rattle.btree_cursor.specs.declared.cursor.cursor.Cursor.{Cursor}
use Rattle.btree_cursor.specs.declared.cursor.cursor.Frame.{Frame}
use Rattle.btree.specs.ViewData.{AreReadable}
use Rattle.btree_cursor.specs.cursor.Rest.{IsStanding}

-- These cells are to come, the one that the cursor stands at first, of a tree of this kind with so many levels below its
-- root. So many pages are asked for, and whoever lists the rest keeps within a budget of asked pages.
pub record IsAt (pages : Pages) (kind : TreeKind) (levels : ℕ) (cursor : Cursor) (places : List Place) (asked budget : ℕ) : Type 0 where
  pub here : Frame
  pub here_is : cursor.here ≡ Some here
  pub kind_is : cursor.kind ≡ kind
  pub usable : pages.usable ≡ cursor.usable
  pub most : pages.size ≡ cursor.most
  pub readable : AreReadable pages
  pub stands : IsStanding pages kind levels cursor.frames.items here places asked budget

-- a fault has ended the cursor
abbrev pub IsEnded : Cursor → Type 0
IsEnded cursor = cursor.here ≡ None

-- the first of the cells to come, as its page has it
abbrev pub IsEntry : Pages → TreeKind → List Place → Option CellData → Type 0
IsEntry pages kind [] entry = entry ≡ None
IsEntry pages kind (place ∷ rest) None = ⊥
IsEntry pages kind (place ∷ rest) (Some cell) = IsEntryAt pages kind place cell
