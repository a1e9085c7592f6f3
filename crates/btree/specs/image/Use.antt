-- The places of an image that name a page, each of which uses it. (Database File Format, sections 1.5 to 1.7)
use Rattle.std.specs.Prelude.{◌≡◌, ℕ, zero, suc, ◌-◌, ◌*◌, ◌<◌, Contains, List, length, slice_get, Some}
use Rattle.values.specs.declared.fault.Fault.{Fault}
use Rattle.values.specs.declared.fault.Fault.TheVariants.{BadFreelist, PageUse}
use Rattle.btree.specs.declared.image.kind.TreeKind.{TreeKind}
use Rattle.btree.specs.image.Cell.{CellData}
use Rattle.btree.specs.image.Chain.{next_page, chain_room}
use Rattle.btree.specs.image.Pages.{Pages, IsNumber}
use Rattle.btree.specs.image.Tree.{IsChild, IsEntryAt, IsPlaceOf, Reaches}
use Rattle.btree.specs.image.Freelist.{IsFreelist, IsTrunk, leaf_count, leaf_of, trunk_at}

-- the root of a tree; child i of page n; link k of the chain of cell i of page n; trunk page k; number i of trunk page k
pub data Use : Type 0 where
  as_root : ℕ → Use
  as_child : ℕ → ℕ → Use
  as_link : ℕ → ℕ → ℕ → Use
  as_trunk : ℕ → Use
  as_leaf : ℕ → ℕ → Use

pub record TreeData : Type 0 where
  pub kind : TreeKind
  pub root : ℕ

-- what uses pages: the trees, in the order of the schema, and the first page of the freelist
pub record Users : Type 0 where
  pub trees : List TreeData
  pub first : ℕ

-- each trunk page before trunk page k is one
abbrev pub IsReached : Pages → ℕ → ℕ → Type 0
IsReached pages first k = (j : ℕ) → j < k → IsTrunk pages (trunk_at pages first j)

-- link k of a chain from page `first` on
abbrev pub link_at : Pages → ℕ → ℕ → ℕ
link_at pages first zero = first
link_at pages first (suc k) = next_page pages (link_at pages first k)

-- The payload of a cell of one of the trees needs link k of its chain, and that is page m.
pub record IsLink (pages : Pages) (trees : List TreeData) (n i k m : ℕ) : Type 0 where
  pub tree : TreeData
  pub cell : CellData
  pub first : ℕ
  pub is_tree : Contains trees tree
  pub place : IsPlaceOf pages tree.kind tree.root (record { page = n; index = i })
  pub at : IsEntryAt pages tree.kind (record { page = n; index = i }) cell
  pub overflow : cell.payload.overflow ≡ Some first
  pub needed : k * chain_room pages < cell.payload.size - length cell.payload.local
  pub before : (j : ℕ) → j < k → IsNumber pages (link_at pages first j)
  pub is : m ≡ link_at pages first k

-- the place names page m
abbrev pub Names : Pages → Users → Use → ℕ → Type 0
Names pages users (as_root t) m = IsNumber pages m × ((tree : TreeData) × (slice_get users.trees t ≡ Some tree) × (m ≡ tree.root))
Names pages users (as_child n i) m = (tree : TreeData) × Contains users.trees tree × Reaches pages tree.kind tree.root n × IsChild pages tree.kind n i m
Names pages users (as_link n i k) m = IsNumber pages m × IsLink pages users.trees n i k m
Names pages users (as_trunk k) m = IsNumber pages m × IsReached pages users.first k × (m ≡ trunk_at pages users.first k)
Names pages users (as_leaf k i) m =
    IsNumber pages m × IsReached pages users.first (suc k) × (i < leaf_count pages (trunk_at pages users.first k))
    × (m ≡ leaf_of pages (trunk_at pages users.first k) i)

-- one place names page n, and no other does
pub record IsUsedOnce (pages : Pages) (users : Users) (n : ℕ) : Type 0 where
  pub place : Use
  pub is : Names pages users place n
  pub only : (other : Use) → Names pages users other n → other ≡ place

-- the condition on the use of pages that a fault says is broken, where the freelist has so many pages
abbrev pub IsBrokenUse : Pages → Users → ℕ → Fault → Type 0
IsBrokenUse pages users total (PageUse n) = IsNumber pages n × (¬ IsUsedOnce pages users n)
IsBrokenUse pages users total BadFreelist = ¬ IsFreelist pages users.first total
IsBrokenUse pages users total _ = ⊥
