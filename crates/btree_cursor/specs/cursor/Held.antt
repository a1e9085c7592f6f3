-- What a cursor holds, whatever source its pages were read from.
use Rattle.std.specs.Prelude.{◌≡◌, ◌<◌, ◌≤◌, ◌+◌, ◌++◌, ℕ, List, [], ◌∷◌, All, length, take, Some}
use Rattle.btree.specs.declared.image.kind.TreeKind.{TreeKind}
use Rattle.btree.specs.declared.image.kind.TreeKind.TheVariants.{Table, Index}
use Rattle.btree.specs.declared.image.kind.Level.{Level}
use Rattle.btree.specs.declared.image.kind.Level.TheVariants.{Leaf}
use Rattle.btree.specs.image.Layout.{HasHeaderAt, cell_count, header_at}
use Rattle.btree.specs.image.Cell.{CellData}
use Rattle.values.specs.declared.fault.Fault.{Fault}
use Rattle.values.specs.declared.fault.Fault.TheVariants.{BadPage}
use Rattle.btree.specs.Bytes.{IsEntryCell, IsRowCell}
use Rattle.btree_cursor.specs.declared.cursor.cursor.Cursor.{Cursor}
use Rattle.btree_cursor.specs.declared.cursor.cursor.Frame.{Frame}

-- The page that a frame holds is a table's leaf by its used bytes, and has this cell where the frame stands.
pub record HasRowHere (usable most : ℕ) (frame : Frame) (cell : CellData) : Type 0 where
  pub least : 480 ≤ usable
  pub greatest : usable ≤ 65536
  pub long : usable ≤ length frame.page
  pub header : HasHeaderAt (header_at frame.number) Table Leaf (take usable frame.page)
  pub within : frame.at < cell_count (header_at frame.number) (take usable frame.page)
  pub row : IsRowCell (header_at frame.number) most (take usable frame.page) frame.at cell

-- The same of a page of an index of either level.
pub record HasIndexEntryHere (usable most : ℕ) (frame : Frame) (cell : CellData) : Type 0 where
  pub least : 480 ≤ usable
  pub greatest : usable ≤ 65536
  pub long : usable ≤ length frame.page
  pub level : Level
  pub header : HasHeaderAt (header_at frame.number) Index level (take usable frame.page)
  pub within : frame.at < cell_count (header_at frame.number) (take usable frame.page)
  pub entry : IsEntryCell (header_at frame.number) most level (take usable frame.page) frame.at cell

abbrev pub HasEntryHere : TreeKind → ℕ → ℕ → Frame → CellData → Type 0
HasEntryHere Table usable most frame cell = HasRowHere usable most frame cell
HasEntryHere Index usable most frame cell = HasIndexEntryHere usable most frame cell

-- a frame's page has no cell where the frame stands
abbrev pub LacksCell : TreeKind → ℕ → ℕ → Frame → Type 0
LacksCell kind usable most frame = (cell : CellData) → ¬ HasEntryHere kind usable most frame cell

-- why a cursor has no entry where it stands: its page tells of a cell there, and has none
abbrev pub LacksEntry : Cursor → Fault → Type 0
LacksEntry cursor fault = (here : Frame) × (cursor.here ≡ Some here) × (fault ≡ BadPage here.number) × (here.at < here.count)
    × LacksCell cursor.kind cursor.usable cursor.most here

-- no child or cell is left behind the one that the frame has taken
abbrev pub IsPassed : Frame → Type 0
IsPassed frame = frame.count ≤ frame.at

abbrev pub HasTakenFirst : Frame → Type 0
HasTakenFirst frame = frame.at ≡ 0

-- Each frame below those that were there has taken its first child, and a leaf without cells is the root.
pub record GoesDown (old new : List Frame) (leaf : Frame) : Type 0 where
  pub below : List Frame
  pub new_is : new ≡ old ++ below
  pub firsts : All HasTakenFirst below
  pub first : leaf.at ≡ 0
  pub filled : leaf.count ≡ 0 → new ≡ []

-- a frame takes its next child, and each below that its first
pub record TakesNext (old : List Frame) (frame : Frame) (new : List Frame) : Type 0 where
  pub below : List Frame
  pub more : frame.at < frame.count
  pub new_is : new ≡ old ++ (record frame { at = frame.at + 1 }) ∷ below
  pub firsts : All HasTakenFirst below

-- the cursor stands at the last cell of its leaf or behind it, and no page above has a child left
pub record IsLast (frames : List Frame) (leaf : Frame) : Type 0 where
  pub passed : All IsPassed frames
  pub last : leaf.count ≤ leaf.at + 1

-- a cursor on a leaf has gone on to the next cell there
pub record HasAdvanced (old new : Cursor) : Type 0 where
  pub here : Frame
  pub here_is : old.here ≡ Some here
  pub leaf : here.level ≡ Leaf
  pub more : here.at + 1 < here.count
  pub new_is : new ≡ record old { here = Some (record here { at = here.at + 1 }) }
