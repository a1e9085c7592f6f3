-- The pages of a table's tree, as a walk gives them their marks.
use Rattle.std.proofs.Common.{◌≡◌, ℕ, suc, ◌+◌, ◌<◌, ◌≤◌, Bool, false, List, ◌∷◌, [], ◌++◌, refl}
use Rattle.values.specs.declared.fault.Fault.{Fault}
use Rattle.values.specs.declared.fault.Fault.TheVariants.{PageUse}
use Rattle.btree.specs.declared.image.kind.TreeKind.TheVariants.{Table}
use Rattle.btree.specs.declared.image.kind.Level.TheVariants.{Leaf, Interior}
use Rattle.btree.specs.image.Pages.{Pages, IsNumber}
use Rattle.btree.specs.image.Tree.{IsPageOf, Reaches, child_at, count_at}
use Rattle.btree.specs.image.Use.{Use, as_link, Names, Users}
use Rattle.btree.specs.page_use.Marks.{AreTreeMarks, IsNewPlace, is_marked}
use Rattle.records_tables.specs.stored_rows.Keys.{IsSeen}
use Rattle.records_tables.specs.stored_rows.Links.{IsOpenLeaf, IsRowTwice, MarksRows, table_tree}
use Rattle.integrity_trees.specs.tree_walk.Cells.{IsOpenPage, IsTwiceOn, MarksCells}
use Rattle.integrity_trees.specs.tree_walk.Used.{IsUnderTwice, MarksUnder}
use Rattle.integrity_trees.proofs.lemmas.tree_walk.LinkLemmas.{link_entries}
use Rattle.integrity_trees.proofs.lemmas.tree_walk.UsedLemmas as walks

-- the children of page n before child i were walked; it has no chains
abbrev pub AreChildrenWalked : Pages → ℕ → ℕ → ℕ → ℕ → List Bool → List Bool → Type 0
AreChildrenWalked pages root n i levels old now = walks.IsPartWalked pages (table_tree root) Interior n i 0 levels old now

-- the marks of a page that a place names
abbrev MarksPage : Pages → ℕ → List Bool → List Bool → Type 0
MarksPage pages n old marked = (users : Users) (done : List Use) (place : Use) → AreTreeMarks pages users done old → IsNewPlace pages users done place n
    → AreTreeMarks pages users (done ++ place ∷ []) marked

module _ (pages : Pages) (root n : ℕ) (old marked : List Bool) (blank : is_marked old n ≡ false) (marks : MarksPage pages n old marked) where
  pub children_none : (levels : ℕ) → AreChildrenWalked pages root n 0 levels old marked
  children_none levels = walks.none_walked pages (table_tree root) Interior n levels old marked blank marks

  -- a leaf of a table
  module _ (leaf : IsPageOf pages Table Leaf n) (reaches : Reaches pages Table root n) where
    abbrev opened : walks.IsPartWalked pages (table_tree root) Leaf n 0 0 0 old marked
    opened = record { marked = marked; blank = blank; marks = marks; part = walks.part_none pages (table_tree root) Leaf n 0 marked }

    -- without links
    pub leaf_plain : ((users : Users) (i k m : ℕ) → ¬ Names pages users (as_link n i k) m) → MarksUnder pages (table_tree root) 0 n old marked
    leaf_plain none = walks.leaf_walked pages (table_tree root) Leaf n 0 0 0 old marked opened leaf reaches refl (λ users i k m names. absurd (none users i k m names))

    module _ (at most : ℕ) (page : List ℕ) (seen : IsSeen pages n at most page) where
      open_leaf : (users : Users) (done : List Use) → IsOpenPage pages users done (table_tree root) Leaf n → IsOpenLeaf pages users done root n at most page
      open_leaf users done here = record { seen = seen; leaf = leaf; reaches = reaches; tree = here.is_tree; stands = here.stands; none = here.none }

      rows_marked : (new : List Bool) → MarksRows pages root n at most page marked new → MarksCells pages (table_tree root) Leaf n marked new
      rows_marked new rows users done here trees =
          let found = rows users done (open_leaf users done here) trees in
          (found.0, record { marks_are = found.1.marks_are; kept = found.1.kept; added = found.1.added; all = found.1.all })

      -- with links that were gone through
      pub leaf_linked : (new : List Bool) → MarksRows pages root n at most page marked new → MarksUnder pages (table_tree root) 0 n old new
      leaf_linked new rows = walks.cells_walked pages (table_tree root) Leaf n 0 0 0 old marked opened leaf reaches refl new (rows_marked new rows)

      row_on : (fault : Fault) → IsRowTwice pages root n at most page marked fault → IsTwiceOn pages (table_tree root) Leaf n marked fault
      row_on (PageUse m) twice = λ users done here trees. twice users done (open_leaf users done here) trees
      row_on _ twice = absurd twice

      pub row_twice : (fault : Fault) → IsRowTwice pages root n at most page marked fault → IsUnderTwice pages (table_tree root) n old fault
      row_twice fault twice = walks.twice_under pages (table_tree root) Leaf n 0 0 0 old marked opened leaf reaches fault (row_on fault twice)

-- child i of page n is walked
module _ (pages : Pages) (root n i levels : ℕ) (old now : List Bool) (befores : AreChildrenWalked pages root n i levels old now)
    (interior : IsPageOf pages Table Interior n) (reaches : Reaches pages Table root n) where
  module _ (m : ℕ) (m_is : m ≡ child_at pages n i) (within : i ≤ count_at pages n) (number : IsNumber pages m) where
    pub children_more : (new : List Bool) (other : ℕ) → (0 < i → levels ≡ other) → MarksUnder pages (table_tree root) other m now new
        → AreChildrenWalked pages root n (i + 1) other old new
    children_more = walks.child_walked pages (table_tree root) Interior n i 0 levels old now befores interior reaches refl m m_is within number

    pub child_twice : (fault : Fault) → IsUnderTwice pages (table_tree root) m now fault → IsUnderTwice pages (table_tree root) n old fault
    child_twice = walks.child_twice pages (table_tree root) Interior n i 0 levels old now befores interior reaches refl m m_is within number

  -- all children were walked
  pub children_all : i ≡ count_at pages n + 1 → MarksUnder pages (table_tree root) (suc levels) n old now
  children_all end = walks.inner_walked pages (table_tree root) Interior n i 0 levels old now befores interior reaches refl end
      (λ users j k m names. absurd (link_entries pages users Table Interior n interior j k m names))
