-- The overflow pages of one page's cells, as they get their marks. (Database File Format, section 1.7 "Cell Payload Overflow
-- Pages")
use Rattle.std.specs.Prelude.{ℕ, Bool, Contains, List}
use Rattle.values.specs.declared.fault.Fault.{Fault}
use Rattle.values.specs.declared.fault.Fault.TheVariants.{PageUse}
use Rattle.btree.specs.declared.image.kind.Level.{Level}
use Rattle.btree.specs.image.Pages.{Pages}
use Rattle.btree.specs.image.Tree.{IsPageOf, Reaches}
use Rattle.btree.specs.image.Use.{Use, TreeData, Users}
use Rattle.btree.specs.page_use.Links.{AreWithCells}
use Rattle.btree.specs.page_use.Marks.{AreTreeMarks, IsNamedBy, IsOn, IsUsedTwice}

-- Page n is a page of this level of a tree, one of those that use pages. What names it was gone through, and nothing on it
-- was.
pub record IsOpenPage (pages : Pages) (users : Users) (done : List Use) (tree : TreeData) (level : Level) (n : ℕ) : Type 0 where
  pub page : IsPageOf pages tree.kind level n
  pub reaches : Reaches pages tree.kind tree.root n
  pub is_tree : Contains users.trees tree
  pub stands : IsNamedBy pages users done n
  pub none : (place : Use) → IsOn n place → ¬ Contains done place

-- such marks come of these, if these are those of places that were gone through
abbrev pub MarksCells : Pages → TreeData → Level → ℕ → List Bool → List Bool → Type 0
MarksCells pages tree level n old new = (users : Users) (done : List Use) → IsOpenPage pages users done tree level n
    → AreTreeMarks pages users done old → (now : List Use) × AreWithCells pages users done n now new

-- the page that a fault names is used twice, wherever the marks are those of places gone through
abbrev pub IsTwiceOn : Pages → TreeData → Level → ℕ → List Bool → Fault → Type 0
IsTwiceOn pages tree level n marks (PageUse m) = (users : Users) (done : List Use) → IsOpenPage pages users done tree level n
    → AreTreeMarks pages users done marks → IsUsedTwice pages users m
IsTwiceOn pages tree level n marks _ = ⊥
