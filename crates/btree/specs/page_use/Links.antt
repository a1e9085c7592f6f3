-- The chain of a cell, as its pages get their marks.
use Rattle.std.specs.Prelude.{◌≡◌, ◌⊎◌, ℕ, ◌-◌, ◌*◌, ◌<◌, Bool, Contains, List, Some, length}
use Rattle.values.specs.declared.fault.Fault.{Fault}
use Rattle.values.specs.declared.fault.Fault.TheVariants.{PageUse}
use Rattle.btree.specs.image.Cell.{PayloadData}
use Rattle.btree.specs.image.Chain.{chain_room}
use Rattle.btree.specs.image.Pages.{Pages, IsNumber}
use Rattle.btree.specs.image.Use.{Use, as_link, Names, Users, link_at}
use Rattle.btree.specs.page_use.Marks.{AreTreeMarks, IsNamedBy, IsOn, IsUsedTwice}

-- The chain of cell i of page n begins at this page and holds so many bytes, whichever of the trees the cell is in. None of
-- its links was gone through, and what names page n was.
pub record IsChainOf (pages : Pages) (users : Users) (done : List Use) (n i first size : ℕ) : Type 0 where
  pub names : (k : ℕ) → k * chain_room pages < size → ((j : ℕ) → j < k → IsNumber pages (link_at pages first j))
      → IsNumber pages (link_at pages first k) → Names pages users (as_link n i k) (link_at pages first k)
  pub one : (k m : ℕ) → Names pages users (as_link n i k) m → m ≡ link_at pages first k
  pub needed : (k m : ℕ) → Names pages users (as_link n i k) m → k * chain_room pages < size
  pub new : (k : ℕ) → ¬ Contains done (as_link n i k)
  pub stands : IsNamedBy pages users done n

-- The payload is that of cell i of page n: its chain is the cell's, and the cell has no link where it has none.
pub record IsPayloadOf (pages : Pages) (users : Users) (done : List Use) (n i : ℕ) (payload : PayloadData) : Type 0 where
  pub chain : (first : ℕ) → payload.overflow ≡ Some first → IsChainOf pages users done n i first (payload.size - length payload.local)
  pub has : (k m : ℕ) → Names pages users (as_link n i k) m → (first : ℕ) × (payload.overflow ≡ Some first)

-- The marks are those of places that were gone through, and of all links of the chain of cell i of page n besides.
pub record AreWithLinks (pages : Pages) (users : Users) (done : List Use) (n i : ℕ) (now : List Use) (marks : List Bool) : Type 0 where
  pub marks_are : AreTreeMarks pages users now marks
  pub kept : (place : Use) → Contains done place → Contains now place
  pub added : (place : Use) → Contains now place → Contains done place ⊎ ((k : ℕ) × (place ≡ as_link n i k))
  pub all : (k m : ℕ) → Names pages users (as_link n i k) m → Contains now (as_link n i k)

-- The marks are those of places that were gone through, and of all links of the chains of page n's cells besides.
pub record AreWithCells (pages : Pages) (users : Users) (done : List Use) (n : ℕ) (now : List Use) (marks : List Bool) : Type 0 where
  pub marks_are : AreTreeMarks pages users now marks
  pub kept : (place : Use) → Contains done place → Contains now place
  pub added : (place : Use) → Contains now place → Contains done place ⊎ IsOn n place
  pub all : (i k m : ℕ) → Names pages users (as_link n i k) m → Contains now (as_link n i k)

-- such marks come of these, if these are those of places that were gone through
abbrev pub MarksChain : Pages → ℕ → ℕ → List Bool → List Bool → Type 0
MarksChain pages first size old new = (users : Users) (done : List Use) (n i : ℕ) → IsChainOf pages users done n i first size
    → AreTreeMarks pages users done old → (now : List Use) × AreWithLinks pages users done n i now new

abbrev pub MarksPayload : Pages → PayloadData → List Bool → List Bool → Type 0
MarksPayload pages payload old new = (users : Users) (done : List Use) (n i : ℕ) → IsPayloadOf pages users done n i payload
    → AreTreeMarks pages users done old → (now : List Use) × AreWithLinks pages users done n i now new

-- the page that a fault names is used twice, wherever the marks are those of places gone through
abbrev pub IsLinkTwice : Pages → ℕ → ℕ → List Bool → Fault → Type 0
IsLinkTwice pages first size marks (PageUse m) = (users : Users) (done : List Use) (n i : ℕ) → IsChainOf pages users done n i first size
    → AreTreeMarks pages users done marks → IsUsedTwice pages users m
IsLinkTwice pages first size marks _ = ⊥

abbrev pub IsPayloadTwice : Pages → PayloadData → List Bool → Fault → Type 0
IsPayloadTwice pages payload marks (PageUse m) = (users : Users) (done : List Use) (n i : ℕ) → IsPayloadOf pages users done n i payload
    → AreTreeMarks pages users done marks → IsUsedTwice pages users m
IsPayloadTwice pages payload marks _ = ⊥
