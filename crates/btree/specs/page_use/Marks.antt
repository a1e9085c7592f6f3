-- Marks for the pages that places gone through name.
use Rattle.std.specs.Prelude.{◌≡◌, ◌⊎◌, ℕ, ◌<◌, Bool, true, false, Contains, List, slice_index_or}
use Rattle.values.specs.declared.fault.Fault.{Fault}
use Rattle.values.specs.declared.fault.Fault.TheVariants.{ReadFailed, NoMemory, PageUse, BadFreelist}
use Rattle.btree.specs.image.Pages.{Pages}
use Rattle.btree.specs.image.Use.{Use, as_root, as_child, as_link, as_trunk, as_leaf, Names, Users}

abbrev pub is_marked : List Bool → ℕ → Bool
is_marked marks n = slice_index_or marks n false

-- two places name the page
pub record IsUsedTwice (pages : Pages) (users : Users) (n : ℕ) : Type 0 where
  pub one : Use
  pub other : Use
  pub is : Names pages users one n
  pub is_too : Names pages users other n
  pub differ : one ≡ other → ⊥

-- The marked pages are just those that the places gone through name, and no two of these name one page.
pub record AreMarks (pages : Pages) (users : Users) (IsGone : Use → Type 0) (marks : List Bool) : Type 0 where
  pub closed : (place : Use) (m : ℕ) → IsGone place → Names pages users place m → is_marked marks m ≡ true
  pub from : (m : ℕ) → is_marked marks m ≡ true → (place : Use) × IsGone place × Names pages users place m
  pub once : (one other : Use) (m : ℕ) → IsGone one → IsGone other → Names pages users one m → Names pages users other m → one ≡ other

-- of the freelist k trunk pages with their leaves, and of the next trunk page so many numbers, or not yet the page itself
abbrev pub IsFreeBefore : ℕ → ℕ → ℕ → Use → Type 0
IsFreeBefore k t i (as_root _) = ⊥
IsFreeBefore k t i (as_child _ _) = ⊥
IsFreeBefore k t i (as_link _ _ _) = ⊥
IsFreeBefore k t i (as_trunk j) = j < t
IsFreeBefore k t i (as_leaf j l) = (j < k) ⊎ ((j ≡ k) × (l < i))

-- those gone through before the freelist, and of it
abbrev pub IsGoneWith : List Use → ℕ → ℕ → ℕ → Use → Type 0
IsGoneWith done k t i place = Contains done place ⊎ IsFreeBefore k t i place

abbrev pub IsOfFreelist : Use → Type 0
IsOfFreelist (as_root _) = ⊥
IsOfFreelist (as_child _ _) = ⊥
IsOfFreelist (as_link _ _ _) = ⊥
IsOfFreelist (as_trunk _) = Unit {0}
IsOfFreelist (as_leaf _ _) = Unit {0}

abbrev pub HasNoneFree : List Use → Type 0
HasNoneFree done = (place : Use) → Contains done place → IsOfFreelist place → ⊥

-- the place is a child or a link of a chain that page n tells
abbrev pub IsOn : ℕ → Use → Type 0
IsOn n (as_root _) = ⊥
IsOn n (as_child p _) = p ≡ n
IsOn n (as_link p _ _) = p ≡ n
IsOn n (as_trunk _) = ⊥
IsOn n (as_leaf _ _) = ⊥

-- one of the places names page n
pub record IsNamedBy (pages : Pages) (users : Users) (done : List Use) (n : ℕ) : Type 0 where
  pub place : Use
  pub gone : Contains done place
  pub is : Names pages users place n

-- Places of trees and chains were gone through, each on a page that another of them names, and the marks are theirs.
pub record AreTreeMarks (pages : Pages) (users : Users) (done : List Use) (marks : List Bool) : Type 0 where
  pub none_free : HasNoneFree done
  pub stand : (place : Use) (n : ℕ) → Contains done place → IsOn n place → IsNamedBy pages users done n
  pub marks_are : AreMarks pages users (Contains done) marks

-- those gone through before the freelist, and all of the freelist
abbrev pub IsGoneAfter : List Use → Use → Type 0
IsGoneAfter done place = Contains done place ⊎ IsOfFreelist place

-- A place of a tree or of a chain that wasn't gone through, and names this page and no other. What names the page that it is on
-- was gone through.
pub record IsNewPlace (pages : Pages) (users : Users) (done : List Use) (place : Use) (m : ℕ) : Type 0 where
  pub names : Names pages users place m
  pub one : (n : ℕ) → Names pages users place n → n ≡ m
  pub new : ¬ Contains done place
  pub no_free : IsOfFreelist place → ⊥
  pub stands : (n : ℕ) → IsOn n place → IsNamedBy pages users done n

-- every place of the trees and their chains that names a page was gone through
abbrev pub AreAllOfTrees : Pages → Users → List Use → Type 0
AreAllOfTrees pages users done = (place : Use) (m : ℕ) → Names pages users place m → (IsOfFreelist place → ⊥) → Contains done place

-- the faults of marking
abbrev pub IsMarkFault : Fault → Type 0
IsMarkFault ReadFailed = Unit {0}
IsMarkFault NoMemory = Unit {0}
IsMarkFault (PageUse _) = Unit {0}
IsMarkFault _ = ⊥

-- and those of the freelist
abbrev pub IsUseFault : Fault → Type 0
IsUseFault BadFreelist = Unit {0}
IsUseFault fault = IsMarkFault fault
