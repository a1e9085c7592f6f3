-- The tree of a table without rowids, which is checked as that of an index and then row by row.
use Rattle.std.proofs.Common.{◌≡◌, ◌⊎◌, ℕ, Bool, IsTrue, List, [], subst, inl, inr}
use Rattle.values.specs.declared.fault.Fault.{Fault}
use Rattle.values.specs.declared.fault.Fault.TheVariants.{ValueBreaksColumn}
use Rattle.pager.specs.Calls.{IsReadFault}
use Rattle.pager.specs.PagerState.{PagerState}
use Rattle.btree.specs.image.Pages.{pages_seen}
use Rattle.integrity_trees.specs.declared.tree_walk.counts.TreeCounts.{TreeCounts}
use Rattle.integrity_trees.specs.tree_walk.Used.{IsTreeTwice}
use Rattle.integrity_trees.specs.declared.index_walk.tree.EntryWidths.{EntryWidths}
use Rattle.integrity_trees.specs.index_walk.Broken.{IsBrokenIndex}
use Rattle.integrity_trees.specs.index_walk.Checked.{HasCheckedIndex, IsCheckedIndex, IsIndexFailure, IsIndexWalkFault, index_tree}
use Rattle.schema_tables.specs.TableData.{TableData}
use Rattle.records_tables.specs.declared.primary_rows.order.RecordOrder.{RecordOrder}
use Rattle.records_tables.specs.primary_rows.Order.{IsOrderOf}
use Rattle.integrity_trees.specs.primary_walk.Checked.{IsBrokenPrimary, IsKeyTree, IsPrimaryFailure, IsPrimaryWalkFault, widths_of}

pub widths_are : (table : TableData) (order : RecordOrder) → IsOrderOf table order → record { key = order.key; most = order.most } ≡ widths_of table
widths_are table order is i = record { key = is.key_is i; most = is.most_is i }

index_fault : (fault : Fault) → IsIndexWalkFault fault → IsPrimaryWalkFault fault
index_fault (ValueBreaksColumn name) h = tt
index_fault fault h = h

module _ (state : PagerState) (table : TableData) (widths : EntryWidths) (root : ℕ) (widths_is : widths ≡ widths_of table) (root_is : root ≡ table.root) where
  abbrev Why : List Bool → Fault → EntryWidths → ℕ → Type 0
  Why marks fault w n = IsReadFault fault ⊎ IsBrokenIndex (pages_seen state) w [] n fault ⊎ IsTreeTwice (pages_seen state) (index_tree n) marks fault

  why : (marks : List Bool) (fault : Fault) → Why marks fault (widths_of table) table.root
      → IsReadFault fault ⊎ IsBrokenPrimary (pages_seen state) table fault ⊎ IsTreeTwice (pages_seen state) (index_tree table.root) marks fault
  why marks fault (inl read) = inl read
  why marks fault (inr (inl broken)) = inr (inl (inl broken))
  why marks fault (inr (inr twice)) = inr (inr twice)

  pub tree_failed : (marks : List Bool) (fault : Fault) → IsIndexFailure state widths [] root marks fault → IsPrimaryFailure state table marks fault
  tree_failed marks fault failure = record {
    only = index_fault fault failure.only;
    cause = λ steady. why marks fault
        (subst (λ (n : ℕ). Why marks fault (widths_of table) n) root_is (subst (λ (w : EntryWidths). Why marks fault w root) widths_is (failure.cause steady)));
  }

  pub tree_is : (counts : TreeCounts) → HasCheckedIndex state widths [] root counts → IsTrue state.source.steady → IsKeyTree (pages_seen state) table counts
  tree_is counts checked steady =
      subst (λ (n : ℕ). IsCheckedIndex (pages_seen state) (widths_of table) [] n counts) root_is
      (subst (λ (w : EntryWidths). IsCheckedIndex (pages_seen state) w [] root counts) widths_is (checked.tree steady))
