-- The way on which a cursor has come, over a steady source, whether the tree is sound or not.
use Rattle.std.specs.Prelude.{◌≡◌, ◌+◌, ℕ, List, [], ◌∷◌, ◌++◌, length, Some}
use Rattle.btree.specs.declared.image.kind.TreeKind.{TreeKind}
use Rattle.btree.specs.declared.image.kind.Level.{Level}
use Rattle.btree.specs.declared.image.kind.Level.TheVariants.{Interior}
use Rattle.btree.specs.image.Pages.{Pages}
use Rattle.btree.specs.image.Tree.{HasEntries, HasHeader, IsMetAt}
use Rattle.btree.specs.ViewData.{AreReadable}
use Rattle.btree_cursor.specs.declared.cursor.cursor.Cursor.{Cursor}
use Rattle.btree_cursor.specs.declared.cursor.cursor.Frame.{Frame}
use Rattle.btree_cursor.specs.cursor.Rest.{Holds}

-- below these frames a frame holds an interior page, which is met there; where there are none it is the root
pub record HoldsMet (pages : Pages) (kind : TreeKind) (root : ℕ) (frames : List Frame) (frame : Frame) : Type 0 where
  pub met : IsMetAt pages kind root (length frames + 1) frame.number
  pub holds : Holds pages frame
  pub header : HasHeader pages kind Interior frame.number
  pub first : frames ≡ [] → frame.number ≡ root

-- the frames hold the pages from the root down, one at each depth
pub data IsWay (pages : Pages) (kind : TreeKind) (root : ℕ) : List Frame → Type 0 where
  nowhere : IsWay pages kind root []
  further : {frames : List Frame} (frame : Frame) (all : List Frame) → IsWay pages kind root frames
      → HoldsMet pages kind root frames frame → all ≡ frames ++ (frame ∷ []) → IsWay pages kind root all

-- the frames lead from the root to page n, which is read next
pub record LeadsTo (pages : Pages) (kind : TreeKind) (root : ℕ) (frames : List Frame) (n : ℕ) : Type 0 where
  pub way : IsWay pages kind root frames
  pub met : IsMetAt pages kind root (length frames + 1) n
  pub first : frames ≡ [] → n ≡ root

-- a frame holds a page that is met, and that has the cells of such a tree
pub record StandsOn (pages : Pages) (kind : TreeKind) (root : ℕ) (here : Frame) : Type 0 where
  pub depth : ℕ
  pub level : Level
  pub met : IsMetAt pages kind root depth here.number
  pub holds : Holds pages here
  pub header : HasHeader pages kind level here.number
  pub entries : HasEntries kind level

-- the frames lead from the root to the page that a cursor stands on
pub record HasReached (pages : Pages) (kind : TreeKind) (root : ℕ) (frames : List Frame) (here : Frame) : Type 0 where
  pub way : IsWay pages kind root frames
  pub met : here.level ≡ Interior → HoldsMet pages kind root frames here
  pub stands : StandsOn pages kind root here

-- a cursor that has come down from its root
abbrev pub HasCome : Pages → Cursor → Type 0
HasCome pages cursor = (here : Frame) → cursor.here ≡ Some here → HasReached pages cursor.kind cursor.root cursor.frames.items here

-- a cursor goes by the sizes that these pages have
pub record IsOver (pages : Pages) (cursor : Cursor) : Type 0 where
  pub usable : pages.usable ≡ cursor.usable
  pub most : pages.size ≡ cursor.most
  pub readable : AreReadable pages
