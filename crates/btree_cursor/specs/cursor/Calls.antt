-- What the calls of a cursor answer.
use Rattle.std.specs.Prelude.{◌≡◌, ◌⊎◌, ◌+◌, ◌<◌, ◌≤◌, ℕ, suc, List, [], drop, Option, None, Some}
use Rattle.values.specs.declared.fault.Fault.{Fault}
use Rattle.values.specs.declared.fault.Fault.TheVariants.{ReadFailed, NoMemory, BadPage, BadDepth, Finished}
use Rattle.pager.specs.PagerState.{PagerState}
use Rattle.pager.specs.Calls.{IsReadFault}
use Rattle.btree.specs.declared.image.kind.TreeKind.{TreeKind}
use Rattle.btree.specs.image.Broken.{BlamesMet}
use Rattle.btree.specs.image.Cell.{CellData}
use Rattle.btree.specs.image.Pages.{IsNumber, Pages, WhereSteady, pages_seen}
use Rattle.btree.specs.image.Shape.{IsTreeAt, most_levels, places_under, size_under}
use Rattle.btree.specs.image.Tree.{Place}
use Rattle.btree_cursor.specs.declared.cursor.cursor.Cursor.{Cursor}
use Rattle.btree_cursor.specs.declared.cursor.cursor.Frame.{Frame}
use Rattle.btree_cursor.specs.cursor.Held.{HasEntryHere, IsLast, LacksEntry}
use Rattle.btree_cursor.specs.cursor.Left.{steps_left, worth}
use Rattle.btree_cursor.specs.cursor.Listing.{IsAt, IsEnded}
use Rattle.btree_cursor.specs.cursor.Way.{HasCome, IsOver}

-- the faults of a cursor that goes down from this root
abbrev pub IsCursorFault : ℕ → Fault → Type 0
IsCursorFault root ReadFailed = Unit {0}
IsCursorFault root NoMemory = Unit {0}
IsCursorFault root (BadPage _) = Unit {0}
IsCursorFault root (BadDepth n) = n ≡ root
IsCursorFault root _ = ⊥

-- the same where so many pages are held: only where these are the most that a tree may have is it too deep
abbrev pub IsDescentFault : ℕ → ℕ → Fault → Type 0
IsDescentFault root held ReadFailed = Unit {0}
IsDescentFault root held NoMemory = Unit {0}
IsDescentFault root held (BadPage _) = held < most_levels
IsDescentFault root held (BadDepth n) = (n ≡ root) × (most_levels ≤ held)
IsDescentFault root held _ = ⊥

-- A tree has so many levels of pages; over a steady source, as its shape has them. No page more is asked for, and none is there
-- without a page of that number.
pub record HasDepth (old new : PagerState) (kind : TreeKind) (root depth : ℕ) : Type 0 where
  pub number : IsNumber (pages_seen old) root
  pub levels : WhereSteady old (λ pages. (levels : ℕ) → IsTreeAt pages kind levels root → depth ≡ levels + 1)
  pub most : depth ≤ most_levels
  pub asks : new.asked ≤ old.asked + depth

-- Why its levels weren't counted. Over a steady source the fault is one of reading where a tree is there.
pub record IsDepthFault (old : PagerState) (kind : TreeKind) (root : ℕ) (fault : Fault) : Type 0 where
  pub only : IsCursorFault root fault
  pub sound : WhereSteady old (λ pages. (levels : ℕ) → IsTreeAt pages kind levels root → IsReadFault fault)
  pub outside : ¬ IsNumber (pages_seen old) root → fault ≡ BadPage root

-- A cursor was opened at a root. Over a steady source, all the cells of a tree are to come, and no more pages are asked
-- for than the tree has; of any tree it has come down from the root. Over any source it stands, and has few steps to go.
pub record IsOpenedAt (old new : PagerState) (kind : TreeKind) (root : ℕ) (cursor : Cursor) : Type 0 where
  pub kind_is : cursor.kind ≡ kind
  pub root_is : cursor.root ≡ root
  pub lists : WhereSteady old (λ pages. (levels : ℕ) → IsTreeAt pages kind levels root
      → IsAt pages kind levels cursor (places_under pages kind levels root) new.asked (old.asked + size_under pages levels root))
  pub come : WhereSteady old (λ pages. HasCome pages cursor)
  pub end : steps_left cursor ≡ 0 → cursor.frames.items ≡ []
  pub few : steps_left cursor < worth (suc most_levels)
  pub stands : ¬ IsEnded cursor
  pub over : IsOver (pages_seen old) cursor

-- Why none was opened. Over a steady source the fault is one of reading where a tree is there, and of any tree it has its
-- condition.
pub record IsOpeningFault (old : PagerState) (kind : TreeKind) (root : ℕ) (fault : Fault) : Type 0 where
  pub only : IsCursorFault root fault
  pub sound : WhereSteady old (λ pages. (levels : ℕ) → IsTreeAt pages kind levels root → IsReadFault fault)
  pub cause : WhereSteady old (λ pages. IsReadFault fault ⊎ BlamesMet pages kind root fault)

-- A cursor has gone on to the next cell; past the last it stays. Of a tree's pages it asks for no more than the tree has
-- levels below its root. Over any source less is left, and where nothing is, it stood at the last cell of the pages that
-- it held.
pub record HasStepped (old new : PagerState) (was now : Cursor) : Type 0 where
  pub kind_is : now.kind ≡ was.kind
  pub root_is : now.root ≡ was.root
  pub lists : WhereSteady old (λ pages. (kind : TreeKind) (levels : ℕ) (places : List Place) (budget : ℕ)
      → IsAt pages kind levels was places old.asked budget
      → IsAt pages kind levels now (drop 1 places) new.asked budget × (new.asked ≤ old.asked + levels))
  pub come : WhereSteady old (λ pages. HasCome pages was → HasCome pages now)
  pub left : 0 < steps_left was → steps_left now < steps_left was
  pub end : 0 < steps_left was → steps_left now ≡ 0 → (here : Frame) → was.here ≡ Some here → IsLast was.frames.items here
  pub stands : ¬ IsEnded now
  pub over : (pages : Pages) → IsOver pages was → IsOver pages now

-- the faults of a step: a cursor that has ended is finished
abbrev pub IsStepFault : Cursor → Fault → Type 0
IsStepFault cursor Finished = IsEnded cursor
IsStepFault cursor fault = IsCursorFault cursor.root fault

-- Why a cursor didn't go on, which ends it; over a steady source as above.
pub record HasFailed (old : PagerState) (was now : Cursor) (fault : Fault) : Type 0 where
  pub only : IsStepFault was fault
  pub ended : IsEnded now
  pub sound : WhereSteady old (λ pages. (kind : TreeKind) (levels : ℕ) (places : List Place) (budget : ℕ)
      → IsAt pages kind levels was places old.asked budget → IsReadFault fault)
  pub cause : WhereSteady old (λ pages. HasCome pages was
      → (fault ≡ Finished) ⊎ IsReadFault fault ⊎ BlamesMet pages was.kind was.root fault)

-- what a cursor that hasn't ended has where it stands: past the last cell nothing, else a cell of its page
abbrev pub GivesEntry : Cursor → Option CellData → Type 0
GivesEntry cursor None = (¬ IsEnded cursor) × (steps_left cursor ≡ 0)
GivesEntry cursor (Some cell) = (0 < steps_left cursor)
    × ((here : Frame) → cursor.here ≡ Some here → HasEntryHere cursor.kind cursor.usable cursor.most here cell)

-- why it gives none: it has ended, or its page has no cell there
abbrev pub IsEntryFault : Cursor → Fault → Type 0
IsEntryFault cursor fault = ((fault ≡ Finished) × IsEnded cursor) ⊎ LacksEntry cursor fault
