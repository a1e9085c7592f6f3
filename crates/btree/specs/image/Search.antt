-- Searches in a tree: which of its cells come before what is sought. (Database File Format, section 1.6 "B-tree Pages")
use Rattle.std.specs.Prelude.{◌≡◌, ℕ, ℤ, ◌-◌, ◌<◌, ◌≤◌, Bool, true, false, List, ◌++◌, All}
use Rattle.std.specs.Ordering.{int_cmp}
use Rattle.std.specs.declared.cmp.Ordering.{Ordering}
use Rattle.std.specs.declared.cmp.Ordering.TheVariants.{Less, Equal, Greater}
use Rattle.btree.specs.declared.image.kind.TreeKind.{TreeKind}
use Rattle.btree.specs.declared.image.kind.Level.{Level}
use Rattle.btree.specs.image.Pages.{Pages}
use Rattle.btree.specs.image.Tree.{Place, IsPageOf, count_at}

-- What comes before a key: what is less. Where the search is for what is behind the key, what is equal as well.
abbrev pub comes_before : Bool → Ordering → Bool
comes_before behind Less = true
comes_before behind Equal = behind
comes_before behind Greater = false

-- rows are compared with a key by their rowids
abbrev pub row_before : Bool → ℤ → ℤ → Bool
row_before behind key rowid = comes_before behind (int_cmp rowid key)

-- Of any kind of keys, and of any test of what comes before what is sought.
module _ {K : Type 0} (HasKey : ℕ → K → Type 0) (before : K → Bool) where
  -- the key of cell i of a page answers the test so
  abbrev pub HasKeyThat : Bool → ℕ → Type 0
  HasKeyThat answer i = (key : K) × HasKey i key × (before key ≡ answer)

  -- Of a page's cells the first p come before what is sought, as far as the two beside the boundary tell.
  pub record IsBoundaryOf (count p : ℕ) : Type 0 where
    pub within : p ≤ count
    pub last : 0 < p → HasKeyThat true (p - 1)
    pub next : p < count → HasKeyThat false p

module _ {K : Type 0} (HasKey : Level → ℕ → ℕ → K → Type 0) (before : K → Bool) (pages : Pages) (kind : TreeKind) where
  abbrev pub IsBoundary : Level → ℕ → ℕ → Type 0
  IsBoundary level n p = IsBoundaryOf (HasKey level n) before (count_at pages n) p

  -- the cell at a place answers the test so
  pub record IsCellThat (answer : Bool) (place : Place) : Type 0 where
    pub level : Level
    pub page : IsPageOf pages kind level place.page
    pub within : place.index < count_at pages place.page
    pub is : HasKeyThat (HasKey level place.page) before answer place.index

  -- the cells that come before what is sought stand before the others
  pub record IsSplit (all front rest : List Place) : Type 0 where
    pub all_is : all ≡ front ++ rest
    pub come_before : All (IsCellThat true) front
    pub do_not : All (IsCellThat false) rest

-- what the test has to keep of the order of keys
pub record IsCut {K : Type 0} (IsBefore IsAtMost : K → K → Type 0) (before : K → Bool) : Type 0 where
  pub less : (x y : K) → IsBefore x y → before y ≡ true → before x ≡ true
  pub most : (x y : K) → IsAtMost x y → before y ≡ true → before x ≡ true
