-- What the entries of an index show of its first columns.
use Rattle.std.proofs.Common.{◌≡◌, ◌⊎◌, ◌∙◌, ◌≤◌, ℕ, Bool, IsTrue, List, Result, Err, Ok, IfErr, IfOk, MatchResult, length, subst, sym, inl, inr, arith}
use Rattle.values.specs.declared.fault.Fault.{Fault}
use Rattle.values.specs.declared.fault.Fault.TheVariants.{BadRecord, NotUnique}
use Rattle.pager.specs.Calls.{IsReadFault}
use Rattle.pager.specs.PagerState.{PagerState}
use Rattle.btree.specs.image.Pages.{Pages, pages_seen}
use Rattle.schema.specs.indexes.IndexData.{IndexData}
use Rattle.schema_tables.specs.TableData.{RowKeyData, TableData}
use Rattle.integrity_indexes.specs.index_rows.Entries.{width_by}
use Rattle.integrity_trees.specs.tree_walk.Used.{IsTreeTwice}
use Rattle.integrity_trees.specs.declared.index_walk.tree.EntryWidths.{EntryWidths}
use Rattle.integrity_trees.specs.index_walk.Widths.{exactly}
use Rattle.integrity_trees.specs.index_walk.Broken.{BreaksIndexEntry, IsBrokenIndex}
use Rattle.integrity_trees.specs.index_walk.Checked.{IsIndexFailure, IsIndexWalkFault, index_tree}
use Rattle.integrity_trees.specs.declared.entry_prefixes.counting.Prefixes.{Prefixes}
use Rattle.integrity_trees.specs.entry_prefixes.Entries.{HoldsEntries}
use Rattle.integrity_trees.specs.entry_prefixes.Prefixes.{HasPrefixes}
use Rattle.integrity_trees.specs.entry_prefixes.Repeats.{HasRepeats, IsUniqueIndex}
use Rattle.integrity.specs.Indexes.{HasDistinct, IsBrokenIndexTree, IsIndexCheckFault, columns_of, descends_of, places_of, width_of}
use Rattle.integrity.specs.Used.{index_tree_of}

module _ (pages : Pages) (index : IndexData) (root width : ℕ) (root_is : root ≡ index.root) (width_is : width ≡ length (places_of index)) where
  wide : (key : RowKeyData) → width ≤ width_by key (columns_of index)
  wide (RowKeyData.Rowid place) = omega (arith, width_is)
  wide (RowKeyData.Primary places) = omega (arith, width_is)

  -- as many columns are counted as an entry has at least
  pub wide_enough : (table : TableData) (widths : EntryWidths) → widths ≡ exactly (width_of table index) → width ≤ widths.key
  wide_enough table widths is = subst (λ (w : EntryWidths). width ≤ w.key) (sym is) (wide table.key)

  -- what its entries show
  pub shown_of : {T : Type 0} (part : T → Prefixes) (result : Result T Fault) → IfOk result (λ x. HasPrefixes pages root width (part x))
      → IfOk result (λ x. HasPrefixes pages index.root (length (places_of index)) (part x))
  shown_of part (Ok x) has = subst (λ (n : ℕ). HasPrefixes pages n (length (places_of index)) (part x)) root_is
      (subst (λ (w : ℕ). HasPrefixes pages root w (part x)) width_is has)
  shown_of part (Err e) has = tt

  module _ (prefixes : Prefixes) (has : HasPrefixes pages root width prefixes) where
    here : HoldsEntries pages index.root has.entries
    here = subst (λ (n : ℕ). HoldsEntries pages n has.entries) root_is has.entries_are

    pub distinct_of : HasDistinct pages index.root (length (places_of index)) prefixes.distinct.items
    distinct_of = record { entries = has.entries; entries_are = here; long = has.long ∙ width_is; counts = has.counts }

    pub unique_of : ¬ IsTrue prefixes.repeats → IsUniqueIndex pages index.root (length (places_of index))
    unique_of not = subst (λ (w : ℕ). IsUniqueIndex pages index.root w) width_is
        (record { entries = has.entries; entries_are = here; unique = λ two. not (has.repeated.1 two) })

    pub repeats_of : IsTrue prefixes.repeats → HasRepeats pages index.root (length (places_of index))
    repeats_of t = subst (λ (w : ℕ). HasRepeats pages index.root w) width_is
        (record { entries = has.entries; entries_are = here; repeated = has.repeated.0 t })

-- the conditions on an index's tree, and the faults of its walk, are among those of an index alone
alone_of : (pages : Pages) (table : TableData) (index : IndexData) (fault : Fault) → IsBrokenIndex pages (exactly (width_of table index)) (descends_of index) index.root fault
    → IsBrokenIndexTree pages table index fault
alone_of pages table index (NotUnique name) (inl tree) = absurd tree
alone_of pages table index (NotUnique name) (inr (inl entry)) = absurd (by_case entry.broken)
  where
    by_case : BreaksIndexEntry pages (exactly (width_of table index)) entry.level entry.n (NotUnique name) → ⊥
    by_case (inl broken) = absurd broken
    by_case (inr other) = let e : NotUnique name ≡ BadRecord entry.n = other.0 in cc
alone_of pages table index (NotUnique name) (inr (inr order)) = absurd order
alone_of pages table index fault h = h

pub walk_alone : (fault : Fault) → IsIndexWalkFault fault → IsIndexCheckFault fault
walk_alone (NotUnique name) h = absurd h
walk_alone fault h = h

abbrev HasWalkCause : Pages → List Bool → Fault → EntryWidths → List Bool → ℕ → Type 0
HasWalkCause pages marks fault widths descends root =
    IsReadFault fault ⊎ IsBrokenIndex pages widths descends root fault ⊎ IsTreeTwice pages (index_tree root) marks fault

pub told_alone : {T : Type 0} (P : T → Type 0) (state : PagerState) (table : TableData) (index : IndexData) (widths : EntryWidths) (root : ℕ) (descends marks : List Bool) (result : Result T Fault)
    → MatchResult result P (IsIndexFailure state widths descends root marks)
    → widths ≡ exactly (width_of table index) → descends ≡ descends_of index → root ≡ index.root → IsTrue state.source.steady
    → IfErr result (λ e. IsReadFault e ⊎ IsBrokenIndexTree (pages_seen state) table index e ⊎ IsTreeTwice (pages_seen state) (index_tree_of index) marks e)
told_alone P state table index widths root descends marks (Ok counts) told widths_is descends_is root_is steady = tt
told_alone P state table index widths root descends marks (Err fault) told widths_is descends_is root_is steady =
    by_case (subst (HasWalkCause (pages_seen state) marks fault (exactly (width_of table index)) (descends_of index)) root_is
    (subst (λ (d : List Bool). HasWalkCause (pages_seen state) marks fault (exactly (width_of table index)) d root) descends_is
    (subst (λ (w : EntryWidths). HasWalkCause (pages_seen state) marks fault w descends root) widths_is (told.cause steady))))
  where
    by_case : HasWalkCause (pages_seen state) marks fault (exactly (width_of table index)) (descends_of index) index.root
        → IsReadFault fault ⊎ IsBrokenIndexTree (pages_seen state) table index fault ⊎ IsTreeTwice (pages_seen state) (index_tree_of index) marks fault
    by_case (inl read) = inl read
    by_case (inr (inl broken)) = inr (inl (alone_of (pages_seen state) table index fault broken))
    by_case (inr (inr again)) = inr (inr again)
