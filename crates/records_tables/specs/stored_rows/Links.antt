-- The overflow pages of a leaf's cells, as they get their marks. (Database File Format, section 1.7 "Cell Payload Overflow
-- Pages")
use Rattle.std.specs.Prelude.{ℕ, Bool, Contains, List}
use Rattle.values.specs.declared.fault.Fault.{Fault}
use Rattle.values.specs.declared.fault.Fault.TheVariants.{PageUse}
use Rattle.btree.specs.declared.image.kind.TreeKind.TheVariants.{Table}
use Rattle.btree.specs.declared.image.kind.Level.TheVariants.{Leaf}
use Rattle.btree.specs.image.Pages.{Pages}
use Rattle.btree.specs.image.Tree.{IsPageOf, Reaches}
use Rattle.btree.specs.image.Use.{Use, TreeData, Users}
use Rattle.btree.specs.page_use.Links.{AreWithCells}
use Rattle.btree.specs.page_use.Marks.{AreTreeMarks, IsNamedBy, IsOn, IsUsedTwice}
use Rattle.records_tables.specs.stored_rows.Keys.{IsSeen}

-- the tree of a table that has this root
abbrev pub table_tree : ℕ → TreeData
table_tree root = record { kind = Table; root = root }

-- Page n, which has these used bytes, is a leaf of the tree with this root, one of those that use pages. What names it was
-- gone through, and nothing on it was.
pub record IsOpenLeaf (pages : Pages) (users : Users) (done : List Use) (root n at most : ℕ) (page : List ℕ) : Type 0 where
  pub seen : IsSeen pages n at most page
  pub leaf : IsPageOf pages Table Leaf n
  pub reaches : Reaches pages Table root n
  pub tree : Contains users.trees (table_tree root)
  pub stands : IsNamedBy pages users done n
  pub none : (place : Use) → IsOn n place → ¬ Contains done place

-- such marks come of these, if these are those of places that were gone through
abbrev pub MarksRows : Pages → ℕ → ℕ → ℕ → ℕ → List ℕ → List Bool → List Bool → Type 0
MarksRows pages root n at most page old new = (users : Users) (done : List Use) → IsOpenLeaf pages users done root n at most page
    → AreTreeMarks pages users done old → (now : List Use) × AreWithCells pages users done n now new

-- the page that a fault names is used twice, wherever the marks are those of places gone through
abbrev pub IsRowTwice : Pages → ℕ → ℕ → ℕ → ℕ → List ℕ → List Bool → Fault → Type 0
IsRowTwice pages root n at most page marks (PageUse m) = (users : Users) (done : List Use) → IsOpenLeaf pages users done root n at most page
    → AreTreeMarks pages users done marks → IsUsedTwice pages users m
IsRowTwice pages root n at most page marks _ = ⊥
