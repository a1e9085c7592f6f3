-- The pages that a tree uses, as a walk gives them their marks. (Database File Format, sections 1.5 to 1.7)
use Rattle.std.specs.Prelude.{◌≡◌, ◌⊎◌, ℕ, zero, suc, ◌≤◌, Bool, false, Contains, List, [], ◌∷◌, ◌++◌, slice_get, Some}
use Rattle.values.specs.declared.fault.Fault.{Fault}
use Rattle.values.specs.declared.fault.Fault.TheVariants.{PageUse}
use Rattle.btree.specs.image.Pages.{Pages}
use Rattle.btree.specs.image.Tree.{Reaches, child_at, count_at}
use Rattle.btree.specs.image.Use.{Use, as_root, as_child, as_link, as_trunk, as_leaf, Names, TreeData, Users}
use Rattle.btree.specs.page_use.Marks.{AreTreeMarks, IsNewPlace, IsUsedTwice, is_marked}

-- the place is a child or a link that a page tells which has no mark
abbrev pub IsFresh : List Bool → Use → Type 0
IsFresh marks (as_root _) = ⊥
IsFresh marks (as_child n _) = is_marked marks n ≡ false
IsFresh marks (as_link n _ _) = is_marked marks n ≡ false
IsFresh marks (as_trunk _) = ⊥
IsFresh marks (as_leaf _ _) = ⊥

-- More places were gone through, and the marks are theirs: what was added is told by pages that had none.
pub record GoesOn (pages : Pages) (users : Users) (done now : List Use) (old new : List Bool) : Type 0 where
  pub marks_are : AreTreeMarks pages users now new
  pub kept : (place : Use) → Contains done place → Contains now place
  pub added : (place : Use) → Contains now place → Contains done place ⊎ IsFresh old place

-- the children and links that page n tells were gone through
pub record IsDoneOn (pages : Pages) (users : Users) (now : List Use) (n : ℕ) : Type 0 where
  pub children : (i m : ℕ) → Names pages users (as_child n i) m → Contains now (as_child n i)
  pub links : (i k m : ℕ) → Names pages users (as_link n i k) m → Contains now (as_link n i k)

-- and those that the pages below it tell, which are so many levels
abbrev pub IsDoneUnder : Pages → Users → List Use → ℕ → ℕ → Type 0
IsDoneUnder pages users now zero n = IsDoneOn pages users now n
IsDoneUnder pages users now (suc height) n =
    IsDoneOn pages users now n × ((i : ℕ) → i ≤ count_at pages n → IsDoneUnder pages users now height (child_at pages n i))

-- A place that wasn't gone through names page n of a tree alone; the marks are those of places that were.
pub record IsComing (pages : Pages) (users : Users) (done : List Use) (tree : TreeData) (place : Use) (n : ℕ) (marks : List Bool) : Type 0 where
  pub is_tree : Contains users.trees tree
  pub marks_are : AreTreeMarks pages users done marks
  pub new : IsNewPlace pages users done place n

-- Then they become those of that place besides, and of all that page n and the pages below it tell.
abbrev pub MarksUnder : Pages → TreeData → ℕ → ℕ → List Bool → List Bool → Type 0
MarksUnder pages tree levels n old new = (users : Users) (done : List Use) (place : Use) → IsComing pages users done tree place n old
    → (now : List Use) × GoesOn pages users (done ++ place ∷ []) now old new × IsDoneUnder pages users now levels n

-- the page that a fault names is used twice, wherever the marks are those of places gone through
abbrev pub IsUnderTwice : Pages → TreeData → ℕ → List Bool → Fault → Type 0
IsUnderTwice pages tree n marks (PageUse m) = (users : Users) (done : List Use) (place : Use) → IsComing pages users done tree place n marks
    → IsUsedTwice pages users m
IsUnderTwice pages tree n marks _ = ⊥

-- the tree is tree t of those that use pages, and its root wasn't gone through
pub record IsTreeComing (pages : Pages) (users : Users) (done : List Use) (t : ℕ) (tree : TreeData) (marks : List Bool) : Type 0 where
  pub is_tree : slice_get users.trees t ≡ Some tree
  pub marks_are : AreTreeMarks pages users done marks
  pub new : ¬ Contains done (as_root t)

-- its root was, no other since, and all that its pages tell
pub record IsTreeGone (pages : Pages) (users : Users) (done : List Use) (t : ℕ) (tree : TreeData) (now : List Use) (marks : List Bool) : Type 0 where
  pub marks_are : AreTreeMarks pages users now marks
  pub kept : (place : Use) → Contains done place → Contains now place
  pub roots : (s : ℕ) → Contains now (as_root s) → Contains done (as_root s) ⊎ (s ≡ t)
  pub root : Contains now (as_root t)
  pub each : (n : ℕ) → Reaches pages tree.kind tree.root n → IsDoneOn pages users now n

abbrev pub MarksTree : Pages → TreeData → List Bool → List Bool → Type 0
MarksTree pages tree old new = (users : Users) (done : List Use) (t : ℕ) → IsTreeComing pages users done t tree old
    → (now : List Use) × IsTreeGone pages users done t tree now new

abbrev pub IsTreeTwice : Pages → TreeData → List Bool → Fault → Type 0
IsTreeTwice pages tree marks (PageUse m) = (users : Users) (done : List Use) (t : ℕ) → IsTreeComing pages users done t tree marks
    → IsUsedTwice pages users m
IsTreeTwice pages tree marks _ = ⊥
