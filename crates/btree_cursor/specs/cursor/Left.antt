-- A measure of a cursor that falls with each row that it gives, over any source. A page has fewer than 65536 cells and a
-- cursor holds at most as many pages as a tree has levels, so what is left in each of them is a digit, and a page nearer the root counts more.
use Rattle.std.specs.Prelude.{ℕ, zero, suc, ◌+◌, ◌-◌, ◌*◌, ◌≤◌, nat_lt, List, [], ◌∷◌, length, Option, None, Some, if◌then◌else◌}
use Rattle.btree.specs.declared.image.kind.Level.{Level}
use Rattle.btree.specs.declared.image.kind.Level.TheVariants.{Leaf, Interior}
use Rattle.btree.specs.image.Shape.{most_levels}
use Rattle.btree_cursor.specs.declared.cursor.cursor.Cursor.{Cursor}
use Rattle.btree_cursor.specs.declared.cursor.cursor.Frame.{Frame}

abbrev pub frame_left : Frame → ℕ
frame_left frame = frame.count - frame.at

-- how much one more child of a page counts that has so many levels of pages below it
abbrev pub worth : ℕ → ℕ
worth zero = 1
worth (suc room) = 65536 * worth room

-- of frames from one that has so many levels of pages below it
abbrev pub frames_left : ℕ → List Frame → ℕ
frames_left room [] = 0
frames_left room (frame ∷ frames) = frame_left frame * worth room + frames_left (room - 1) frames

-- of a page that the cursor stands on, below these frames: a leaf's cells, or an interior page's children
abbrev pub here_left : Level → List Frame → Frame → ℕ
here_left Leaf frames here = frames_left most_levels frames + frame_left here
here_left Interior frames here = frames_left most_levels frames + frame_left here * worth (most_levels - length frames)

abbrev pub all_left : List Frame → Option Frame → ℕ
all_left frames None = 0
all_left frames (Some here) = if nat_lt here.at here.count then here_left here.level frames here else 0

abbrev pub steps_left : Cursor → ℕ
steps_left cursor = all_left cursor.frames.items cursor.here

-- no more is left after a cursor has gone on behind a leaf
abbrev pub IsLess : List Frame → List Frame → Option Frame → Type 0
IsLess old new None = frames_left most_levels new ≤ frames_left most_levels old
IsLess old new (Some here) = here_left here.level new here ≤ frames_left most_levels old
