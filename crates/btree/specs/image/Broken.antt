-- What may be wrong with the pages and the order of a tree.
-- (Database File Format, section 1.6; the faults of docs/FAULTS.md)
use Rattle.std.specs.Prelude.{◌≡◌, ◌≢◌, ℕ, ℤ, ◌<ℤ◌, ◌≤ℤ◌, ◌+◌, ◌<◌, ◌≤◌, ◌⊎◌, Some}
use Rattle.values.specs.declared.fault.Fault.{Fault}
use Rattle.values.specs.declared.fault.Fault.TheVariants.{BadPage, BadOrder, BadDepth}
use Rattle.btree.specs.declared.image.kind.TreeKind.{TreeKind}
use Rattle.btree.specs.declared.image.kind.TreeKind.TheVariants.{Table}
use Rattle.btree.specs.declared.image.kind.Level.{Level}
use Rattle.btree.specs.declared.image.kind.Level.TheVariants.{Leaf, Interior}
use Rattle.btree.specs.image.Pages.{Pages, IsNumber}
use Rattle.btree.specs.image.Shape.{most_levels}
use Rattle.btree.specs.image.Cell.{CellData, IsTableCell, IsDivider}
use Rattle.btree.specs.image.Tree.{count_at, child_at, cell_at, IsPageOf, IsMetAt, IsUnder, StandsAt, Reaches}

-- what a page of the tree must be: a page of its kind, with children that are pages, and with a cell unless it is a root
pub record IsSound (pages : Pages) (kind : TreeKind) (root n : ℕ) : Type 0 where
  pub level : Level
  pub page : IsPageOf pages kind level n
  pub children : level ≡ Interior → (i : ℕ) → i ≤ count_at pages n → IsNumber pages (child_at pages n i)
  pub filled : level ≡ Leaf → n ≢ root → 0 < count_at pages n

-- The keys of a table tree are rowids: a leaf's cells have them, and the cells of an interior page divide them.
abbrev pub HasRowid : Pages → Level → ℕ → ℕ → ℤ → Type 0
HasRowid pages Leaf n i rowid = (cell : CellData) × IsTableCell pages.usable (cell_at pages Leaf n i) cell × (cell.rowid ≡ Some rowid)
HasRowid pages Interior n i rowid = IsDivider (cell_at pages Interior n i) rowid

-- Of any kind of keys: the keys met at page n ascend, and keep the bounds of each interior page above it. Under the
-- left child of a cell a key is at most the cell's, under the next it is after it.
module _ {K : Type 0} (HasKey : Level → ℕ → ℕ → K → Type 0) (IsBefore IsAtMost : K → K → Type 0) (pages : Pages) (kind : TreeKind) (root : ℕ) where
  pub record IsInOrder (n : ℕ) : Type 0 where
    pub ascends : (level : Level) (i j : ℕ) (x y : K) → IsPageOf pages kind level n → i < j → j < count_at pages n
        → HasKey level n i x → HasKey level n j y → IsBefore x y
    pub most : (level : Level) (a i j : ℕ) (x y : K) → Reaches pages kind root a → IsUnder pages kind a i n → i < count_at pages a
        → IsPageOf pages kind level n → j < count_at pages n → HasKey Interior a i x → HasKey level n j y → IsAtMost y x
    pub above : (level : Level) (a i j : ℕ) (x y : K) → Reaches pages kind root a → IsUnder pages kind a (i + 1) n
        → IsPageOf pages kind level n → j < count_at pages n → HasKey Interior a i x → HasKey level n j y → IsBefore x y

-- of a table tree
abbrev pub IsRowOrder : Pages → ℕ → ℕ → Type 0
IsRowOrder pages root n = IsInOrder (HasRowid pages) (λ x y. x <ℤ y) (λ x y. x ≤ℤ y) pages Table root n

-- leaves at two depths
pub record HasUnevenLeaves (pages : Pages) (kind : TreeKind) (root : ℕ) : Type 0 where
  pub one : ℕ
  pub other : ℕ
  pub depth : ℕ
  pub deeper : ℕ
  pub one_at : StandsAt pages kind root depth one
  pub other_at : StandsAt pages kind root deeper other
  pub one_leaf : IsPageOf pages kind Leaf one
  pub other_leaf : IsPageOf pages kind Leaf other
  pub differ : depth < deeper

-- a page deeper than a tree may be, so that a cycle of interior pages is too deep as well
pub record IsTooDeep (pages : Pages) (kind : TreeKind) (root : ℕ) : Type 0 where
  pub page : ℕ
  pub depth : ℕ
  pub stands : StandsAt pages kind root depth page
  pub deep : most_levels < depth

-- The condition on a table tree that a fault says is broken. Other faults say nothing of its pages and order.
abbrev pub IsBroken : Pages → ℕ → Fault → Type 0
IsBroken pages root (BadPage n) = Reaches pages Table root n × (¬ IsSound pages Table root n)
IsBroken pages root (BadOrder n) = Reaches pages Table root n × (¬ IsRowOrder pages root n)
IsBroken pages root (BadDepth n) = (n ≡ root) × (HasUnevenLeaves pages Table root ⊎ IsTooDeep pages Table root)
IsBroken pages root _ = ⊥

-- What a cursor blames that has read the pages on its way alone: a page that it has met isn't what it must be, or it has
-- met one that is too deep. In a sound tree none is.
abbrev pub BlamesMet : Pages → TreeKind → ℕ → Fault → Type 0
BlamesMet pages kind root (BadPage n) = (depth : ℕ) × IsMetAt pages kind root depth n × (¬ (IsNumber pages n × IsSound pages kind root n))
BlamesMet pages kind root (BadDepth n) = (n ≡ root) × ((depth page : ℕ) × IsMetAt pages kind root depth page × (most_levels < depth))
BlamesMet pages kind root _ = ⊥
