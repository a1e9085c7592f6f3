-- What the entries of a table without rowids show of its key.
use Rattle.std.proofs.Common.{◌≡◌, ◌∙◌, ◌≤◌, ℕ, Bool, List, [], Result, MatchResult, length, subst, sym, arith}
use Rattle.values.specs.declared.fault.Fault.{Fault}
use Rattle.pager.specs.Calls.{IsReadFault}
use Rattle.btree.specs.image.Pages.{IsNumber, Pages}
use Rattle.schema_tables.specs.TableData.{RowKeyData, TableData}
use Rattle.integrity_trees.specs.declared.tree_walk.counts.TreeCounts.{TreeCounts}
use Rattle.integrity_trees.specs.declared.index_walk.tree.EntryWidths.{EntryWidths}
use Rattle.integrity_trees.specs.index_walk.Checked.{IsCheckedIndex}
use Rattle.records_tables.specs.primary_rows.Order.{key_order}
use Rattle.integrity_trees.specs.primary_walk.Checked.{IsCheckedPrimary, widths_of}
use Rattle.integrity_trees.specs.declared.entry_prefixes.counting.Prefixes.{Prefixes}
use Rattle.integrity_trees.specs.entry_prefixes.Entries.{HoldsEntries}
use Rattle.integrity_trees.specs.entry_prefixes.Prefixes.{HasPrefixes}
use Rattle.integrity_indexes.specs.index_rows.Checked.{IsCheckedBy, IsCheckedTable}
use Rattle.integrity.specs.Indexes.{HasDistinct}
use Rattle.integrity.specs.Keys.{HasKeyBy, HasKeyCounts}
use Rattle.integrity.specs.declared.keys.KeyCounts.{KeyCounts}

-- a table that has rowids
pub uncounted : (pages : Pages) (table : TableData) (counts : KeyCounts) (place : RowKeyData) → HasKeyBy place pages table counts → place ≡ table.key
    → HasKeyCounts pages table counts
uncounted pages table counts place has key = subst (λ (k : RowKeyData). HasKeyBy k pages table counts) key has

module _ (pages : Pages) (table : TableData) (places : List ℕ) (key : RowKeyData.Primary places ≡ table.key) (root width : ℕ) (root_is : root ≡ table.root)
    (width_is : width ≡ length (key_order table)) where
  -- what is told of a table whose tree was checked
  pub told_of_key : (told : Prefixes → Type 0) (result : Result Prefixes Fault)
      → ((widths : EntryWidths) (descends : List Bool) (counts : TreeCounts) → width ≤ widths.key → IsNumber pages root → IsCheckedIndex pages widths descends root counts
      → MatchResult result told IsReadFault)
      → IsCheckedTable pages table → MatchResult result told IsReadFault
  told_of_key told result each checked =
      let tree : IsCheckedPrimary pages table checked.counts = subst (λ (k : RowKeyData). IsCheckedBy k pages table checked.counts) (sym key) checked.tree in
      each (widths_of table) [] checked.counts (omega (arith, width_is)) (subst (λ (n : ℕ). IsNumber pages n) (sym root_is) checked.number)
      (subst (λ (n : ℕ). IsCheckedIndex pages (widths_of table) [] n checked.counts) (sym root_is) tree.tree)

  pub key_counts : (prefixes : Prefixes) (counts : KeyCounts) → counts.distinct.items ≡ prefixes.distinct.items → HasPrefixes pages root width prefixes
      → HasKeyCounts pages table counts
  key_counts prefixes counts same has =
      subst (λ (k : RowKeyData). HasKeyBy k pages table counts) key
      (subst (λ (l : List ℕ). HasDistinct pages table.root (length (key_order table)) l) (sym same) (record {
        entries = has.entries;
        entries_are = subst (λ (n : ℕ). HoldsEntries pages n has.entries) root_is has.entries_are;
        long = has.long ∙ width_is;
        counts = has.counts;
      }))
