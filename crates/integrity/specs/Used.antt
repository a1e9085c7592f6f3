-- The pages that the trees of an image use, as a walk gives them their marks. (Database File Format, sections 1.5 to 1.7)
use Rattle.std.specs.Prelude.{◌≡◌, ℕ, ◌+◌, ◌<◌, ◌≤◌, Bool, Contains, List, ◌∷◌, ◌++◌, length, map, slice_get, Some}
use Rattle.values.specs.declared.fault.Fault.{Fault}
use Rattle.values.specs.declared.fault.Fault.TheVariants.{PageUse}
use Rattle.btree.specs.image.Pages.{Pages}
use Rattle.btree.specs.image.Tree.{Reaches}
use Rattle.btree.specs.image.Use.{Use, as_root, TreeData, Users}
use Rattle.btree.specs.page_use.Free.{header_on}
use Rattle.btree.specs.page_use.Marks.{AreTreeMarks, IsUsedTwice}
use Rattle.integrity_trees.specs.tree_walk.Used.{IsDoneOn}
use Rattle.schema_tables.specs.TableData.{schema_table}
use Rattle.schema.specs.indexes.IndexData.{IndexData}
use Rattle.schema.specs.CatalogData.{CatalogData}
use Rattle.integrity_trees.specs.index_walk.Checked.{index_tree}
use Rattle.integrity.specs.Tables.{any_tree}

abbrev pub index_tree_of : IndexData → TreeData
index_tree_of index = index_tree index.root

-- what uses the pages of an image that has this catalog: the tree of the schema, those of its tables and indexes, and the
-- freelist
abbrev pub users_of : Pages → CatalogData → Users
users_of pages catalog = record {
  trees = any_tree schema_table ∷ map any_tree catalog.tables ++ map index_tree_of catalog.indexes;
  first = (header_on pages).freelist;
}

-- These trees stand among all from tree `first` on, and the roots of these and of later ones weren't gone through.
pub record AreTreesComing (pages : Pages) (users : Users) (done : List Use) (first : ℕ) (trees : List TreeData) (marks : List Bool) : Type 0 where
  pub stand : (k : ℕ) (tree : TreeData) → slice_get trees k ≡ Some tree → slice_get users.trees (first + k) ≡ Some tree
  pub marks_are : AreTreeMarks pages users done marks
  pub new : (t : ℕ) → first ≤ t → ¬ Contains done (as_root t)

-- Their roots were, of no later ones, and all that their pages tell.
pub record AreTreesGone (pages : Pages) (users : Users) (done : List Use) (first : ℕ) (trees : List TreeData) (now : List Use) (marks : List Bool) : Type 0 where
  pub marks_are : AreTreeMarks pages users now marks
  pub kept : (place : Use) → Contains done place → Contains now place
  pub new : (t : ℕ) → first + length trees ≤ t → ¬ Contains now (as_root t)
  pub roots : (k : ℕ) → k < length trees → Contains now (as_root (first + k))
  pub each : (k : ℕ) (tree : TreeData) → slice_get trees k ≡ Some tree → (n : ℕ) → Reaches pages tree.kind tree.root n → IsDoneOn pages users now n

abbrev pub MarksTrees : Pages → List TreeData → List Bool → List Bool → Type 0
MarksTrees pages trees old new = (users : Users) (done : List Use) (first : ℕ) → AreTreesComing pages users done first trees old
    → (now : List Use) × AreTreesGone pages users done first trees now new

abbrev pub AreTreesTwice : Pages → List TreeData → List Bool → Fault → Type 0
AreTreesTwice pages trees marks (PageUse m) = (users : Users) (done : List Use) (first : ℕ) → AreTreesComing pages users done first trees marks
    → IsUsedTwice pages users m
AreTreesTwice pages trees marks _ = ⊥
