-- The check of the tree of a table of either kind.
use Rattle.std.proofs.Common.{◌≡◌, ◌⊎◌, ℕ, Bool, IfErr, IfOk, IsTrue, List, MatchResult, OnOk, Option, Result, Err, Ok, subst}
use Rattle.values.specs.declared.fault.Fault.{Fault}
use Rattle.values.specs.declared.fault.Fault.TheVariants.{ReadFailed, NoMemory, BadPage, BadChain, PageUse, BadOrder, BadDepth, BadRecord, FloatValue, BadText, ValueBreaksColumn}
use Rattle.pager.specs.Calls.{IsReadFault}
use Rattle.pager.specs.PagerState.{PagerState}
use Rattle.btree.specs.image.Pages.{pages_seen}
use Rattle.btree.specs.image.Use.{TreeData}
use Rattle.schema_tables.specs.TableData.{RowKeyData, TableData}
use Rattle.integrity_trees.specs.declared.tree_walk.counts.TreeCounts.{TreeCounts}
use Rattle.integrity_trees.specs.tree_walk.Used.{IsTreeTwice, MarksTree}
use Rattle.integrity_trees.specs.index_walk.Checked.{index_tree}
use Rattle.integrity_trees.specs.table_walk.Checked.{HasCheckedTable, IsTableFault, tree_of}
use Rattle.integrity_trees.specs.table_walk.Walked.{IsWalkFault}
use Rattle.integrity_trees.specs.primary_walk.Checked.{HasCheckedPrimary, IsPrimaryFailure, IsPrimaryWalkFault}
use Rattle.integrity_indexes.specs.index_rows.Checked.{IsCheckedBy}
use Rattle.records_tables.specs.Tables.{kind_of}
use Rattle.integrity.specs.Tables.{IsAnyBroken, IsAnyChecked, IsBrokenBy, any_tree}

-- the tree of a table whose rows are found so
abbrev tree_by : TableData → RowKeyData → TreeData
tree_by table key = record { kind = kind_of key; root = table.root }

-- the faults of the check of a table without rowids are those of a walk
pub primary_only : (fault : Fault) → IsPrimaryWalkFault fault → IsWalkFault fault
primary_only ReadFailed h = tt
primary_only NoMemory h = tt
primary_only (BadPage n) h = tt
primary_only (BadChain n) h = tt
primary_only (PageUse n) h = tt
primary_only (BadOrder n) h = tt
primary_only (BadDepth n) h = tt
primary_only (BadRecord n) h = tt
primary_only FloatValue h = tt
primary_only BadText h = tt
primary_only (ValueBreaksColumn name) h = tt
primary_only fault h = absurd h

module _ (state : PagerState) (table : TableData) (marks : List Bool) where
  abbrev Cause : Fault → RowKeyData → Type 0
  Cause fault key = IsReadFault fault ⊎ IsBrokenBy key (pages_seen state) table fault ⊎ IsTreeTwice (pages_seen state) (tree_by table key) marks fault

  abbrev Told : Result TreeCounts Fault → Type 0
  Told result = IfErr result (λ e. IsReadFault e ⊎ IsAnyBroken (pages_seen state) table e ⊎ IsTreeTwice (pages_seen state) (any_tree table) marks e)

  -- of one with rowids
  module _ (place : Option ℕ) (key : RowKeyData.Rowid place ≡ table.key) where
    pub table_checked : (result : Result TreeCounts Fault) → MatchResult result (HasCheckedTable state table) (IsTableFault state table marks)
        → IsTrue state.source.steady → IfOk result (IsAnyChecked (pages_seen state) table)
    table_checked (Ok counts) told steady = subst (λ (k : RowKeyData). IsCheckedBy k (pages_seen state) table counts) key (told.tree steady)
    table_checked (Err fault) told steady = tt

    pub table_failed : (result : Result TreeCounts Fault) → MatchResult result (HasCheckedTable state table) (IsTableFault state table marks)
        → IsTrue state.source.steady → Told result
    table_failed (Ok counts) told steady = tt
    table_failed (Err fault) told steady = subst (Cause fault) key (told.cause steady)

    pub table_only : (result : Result TreeCounts Fault) → MatchResult result (HasCheckedTable state table) (IsTableFault state table marks)
        → IfErr result IsWalkFault
    table_only (Ok counts) told = tt
    table_only (Err fault) told = told.only

    pub table_marks : (result : Result TreeCounts Fault) (now : List Bool) → OnOk result (MarksTree (pages_seen state) (tree_of table) marks now)
        → OnOk result (MarksTree (pages_seen state) (any_tree table) marks now)
    table_marks result now told = subst (λ (k : RowKeyData). OnOk result (MarksTree (pages_seen state) (tree_by table k) marks now)) key told

  -- of one without
  module _ (places : List ℕ) (key : RowKeyData.Primary places ≡ table.key) where
    pub primary_checked : (result : Result TreeCounts Fault) → MatchResult result (HasCheckedPrimary state table) (IsPrimaryFailure state table marks)
        → IsTrue state.source.steady → IfOk result (IsAnyChecked (pages_seen state) table)
    primary_checked (Ok counts) told steady = subst (λ (k : RowKeyData). IsCheckedBy k (pages_seen state) table counts) key (told.tree steady)
    primary_checked (Err fault) told steady = tt

    pub primary_failed : (result : Result TreeCounts Fault) → MatchResult result (HasCheckedPrimary state table) (IsPrimaryFailure state table marks)
        → IsTrue state.source.steady → Told result
    primary_failed (Ok counts) told steady = tt
    primary_failed (Err fault) told steady = subst (Cause fault) key (told.cause steady)

    pub primary_fault : (result : Result TreeCounts Fault) → MatchResult result (HasCheckedPrimary state table) (IsPrimaryFailure state table marks)
        → IfErr result IsWalkFault
    primary_fault (Ok counts) told = tt
    primary_fault (Err fault) told = primary_only fault told.only

    pub primary_marks : (result : Result TreeCounts Fault) (now : List Bool) → OnOk result (MarksTree (pages_seen state) (index_tree table.root) marks now)
        → OnOk result (MarksTree (pages_seen state) (any_tree table) marks now)
    primary_marks result now told = subst (λ (k : RowKeyData). OnOk result (MarksTree (pages_seen state) (tree_by table k) marks now)) key told
