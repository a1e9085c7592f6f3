-- What the walk along the freelist knows, trunk page by trunk page.
use Rattle.std.specs.Prelude.{◌≡◌, ◌⊎◌, ℕ, suc, ◌+◌, ◌*◌, ◌<◌, ◌≤◌, Bool, List}
use Rattle.values.specs.declared.fault.Fault.{Fault}
use Rattle.values.specs.declared.fault.Fault.TheVariants.{PageUse, BadFreelist}
use Rattle.pager.specs.Calls.{IsReadFault}
use Rattle.pager.specs.Header.{field}
use Rattle.btree.specs.image.Freelist.{IsFreelist, IsSoundTrunk, free_before, leaf_count, trunk_at}
use Rattle.btree.specs.image.Pages.{Pages}
use Rattle.btree.specs.image.Use.{IsReached, Use, Users}
use Rattle.btree.specs.page_use.Marks.{AreMarks, AreTreeMarks, HasNoneFree, IsGoneWith, IsUsedTwice}

abbrev pub leaf_in : List ℕ → ℕ → ℕ
leaf_in bytes i = field bytes (8 + 4 * i) 4

abbrev pub IsWithin : ℕ → ℕ → Type 0
IsWithin count n = (1 ≤ n) × (n ≤ count)

-- the page that is next is trunk page k, and those before it were gone through
pub record IsNextTrunk (pages : Pages) (users : Users) (done : List Use) (k number : ℕ) (marks : List Bool) : Type 0 where
  pub number_is : number ≡ trunk_at pages users.first k
  pub reached : IsReached pages users.first k
  pub none_free : HasNoneFree done
  pub marks_are : AreMarks pages users (IsGoneWith done k k 0) marks

-- trunk page k, which has these used bytes, has its mark, and i of its numbers were gone through
pub record IsOpenTrunk (pages : Pages) (users : Users) (done : List Use) (k i : ℕ) (bytes : List ℕ) (count : ℕ) (marks : List Bool) : Type 0 where
  pub reached : IsReached pages users.first (suc k)
  pub bytes_are : bytes ≡ pages.page (trunk_at pages users.first k)
  pub count_is : count ≡ leaf_count pages (trunk_at pages users.first k)
  pub none_free : HasNoneFree done
  pub marks_are : AreMarks pages users (IsGoneWith done k (suc k) i) marks

-- the page that a fault names is used twice, wherever the marks are those of places gone through
abbrev pub IsTrunkTwice : Pages → ℕ → List Bool → Fault → Type 0
IsTrunkTwice pages number marks (PageUse m) =
    (users : Users) (done : List Use) (k : ℕ) → IsNextTrunk pages users done k number marks → IsUsedTwice pages users m
IsTrunkTwice pages number marks _ = ⊥

abbrev pub IsLeafTwice : ℕ → List ℕ → ℕ → List Bool → Fault → Type 0
IsLeafTwice all bytes count marks (PageUse m) =
    (pages : Pages) (users : Users) (done : List Use) (k : ℕ) → pages.count ≡ all → IsOpenTrunk pages users done k 0 bytes count marks → IsUsedTwice pages users m
IsLeafTwice all bytes count marks _ = ⊥

-- why a trunk page is none with so many pages left
abbrev pub IsTrunkFault : Pages → ℕ → ℕ → List Bool → Fault → Type 0
IsTrunkFault pages number left marks fault =
    IsReadFault fault ⊎ ((fault ≡ BadFreelist) × ((¬ IsSoundTrunk pages number) ⊎ (left < 1 + leaf_count pages number)))
    ⊎ IsTrunkTwice pages number marks fault

-- k trunk pages were gone through, page `next` is the next, and so many pages are left
pub record IsFreeWalk (pages : Pages) (first total k next left : ℕ) : Type 0 where
  pub next_is : next ≡ trunk_at pages first k
  pub sound : (j : ℕ) → j < k → IsSoundTrunk pages (trunk_at pages first j)
  pub left_is : left + free_before pages first k ≡ total

-- the page that a fault names is used twice, wherever the marks are those of the trees
abbrev pub IsFreeTwice : Pages → ℕ → List Bool → Fault → Type 0
IsFreeTwice pages first marks (PageUse m) =
    (users : Users) (done : List Use) → users.first ≡ first → AreTreeMarks pages users done marks → IsUsedTwice pages users m
IsFreeTwice pages first marks _ = ⊥

-- why a freelist that begins there is none of so many pages
abbrev pub IsFreeFault : Pages → ℕ → ℕ → List Bool → Fault → Type 0
IsFreeFault pages first total marks fault =
    IsReadFault fault ⊎ ((fault ≡ BadFreelist) × (¬ IsFreelist pages first total)) ⊎ IsFreeTwice pages first marks fault
