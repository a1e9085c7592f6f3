-- What a walk from a page down knows of it, and what it is told.
use Rattle.std.specs.Prelude.{◌≡◌, ◌≢◌, ℕ, ℤ, zero, suc, ◌+◌, ◌<◌, ◌≤◌, Option, Some}
use Rattle.values.specs.declared.fault.Fault.{Fault}
use Rattle.values.specs.declared.fault.Fault.TheVariants.{BadPage, BadOrder, BadDepth}
use Rattle.btree.specs.declared.image.kind.TreeKind.TheVariants.{Table}
use Rattle.btree.specs.declared.image.kind.Level.TheVariants.{Leaf, Interior}
use Rattle.btree.specs.image.Pages.{Pages, IsNumber}
use Rattle.btree.specs.image.Tree.{count_at, child_at, IsPageOf, IsUnder, StandsAt, Reaches}
use Rattle.btree.specs.image.Broken.{HasRowid}
use Rattle.records_tables.specs.stored_rows.Keys.{KeysFit}
use Rattle.records_tables.specs.stored_rows.RowFaults.{IsRowFault}

-- the bounds of what is under child i of page n: the keys of the cells beside it, and at its ends those of the page
abbrev pub IsLowAt : Pages → ℕ → Option ℤ → ℕ → Option ℤ → Type 0
IsLowAt pages n low zero bound = bound ≡ low
IsLowAt pages n low (suc i) bound = (key : ℤ) × (bound ≡ Some key) × HasRowid pages Interior n i key

pub record IsHighAt (pages : Pages) (n : ℕ) (high : Option ℤ) (i : ℕ) (bound : Option ℤ) : Type 0 where
  pub inner : i < count_at pages n → (key : ℤ) × (bound ≡ Some key) × HasRowid pages Interior n i key
  pub last : count_at pages n ≤ i → bound ≡ high

-- page n heads a tree of so many levels below it, whose keys are above `low` and at most `high`
abbrev pub IsTree : Pages → ℕ → ℕ → Option ℤ → Option ℤ → ℕ → Type 0
IsTree pages root zero low high n =
    IsPageOf pages Table Leaf n × KeysFit (HasRowid pages Leaf n) (count_at pages n) low high
    × (n ≢ root → 0 < count_at pages n)
IsTree pages root (suc height) low high n =
    IsPageOf pages Table Interior n × KeysFit (HasRowid pages Interior n) (count_at pages n) low high
    × ((i : ℕ) → i ≤ count_at pages n → IsNumber pages (child_at pages n i)
    × ((l h : Option ℤ) × IsLowAt pages n low i l × IsHighAt pages n high i h
    × IsTree pages root height l h (child_at pages n i)))

-- child i of page n heads such a tree
abbrev pub IsBranch : Pages → ℕ → ℕ → Option ℤ → Option ℤ → ℕ → ℕ → Type 0
IsBranch pages root height low high n i =
    IsNumber pages (child_at pages n i)
    × ((l h : Option ℤ) × IsLowAt pages n low i l × IsHighAt pages n high i h
    × IsTree pages root height l h (child_at pages n i))

-- page n stands in the tree at this depth, and each bound is a key of an interior page above it
pub record StandsWithin (pages : Pages) (root depth : ℕ) (low high : Option ℤ) (n : ℕ) : Type 0 where
  pub number : IsNumber pages n
  pub stands : StandsAt pages Table root depth n
  pub low_from : (key : ℤ) → low ≡ Some key
      → (a i : ℕ) × Reaches pages Table root a × IsUnder pages Table a (i + 1) n × HasRowid pages Interior a i key
  pub high_from : (key : ℤ) → high ≡ Some key
      → (a i : ℕ) × Reaches pages Table root a × IsUnder pages Table a i n × (i < count_at pages a) × HasRowid pages Interior a i key

-- the faults of a walk
abbrev pub IsWalkFault : Fault → Type 0
IsWalkFault (BadPage _) = Unit {0}
IsWalkFault (BadOrder _) = Unit {0}
IsWalkFault (BadDepth _) = Unit {0}
IsWalkFault fault = IsRowFault fault
