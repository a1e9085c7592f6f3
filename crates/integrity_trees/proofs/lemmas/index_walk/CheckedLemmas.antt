-- Nothing is broken of the tree of an index that was checked.
use Rattle.std.proofs.Common.{◌≡◌, ℕ, Bool, List, sym, subst, inl, inr, ⊎_elim}
use Rattle.values.specs.Datum.{Datum}
use Rattle.values.specs.declared.fault.Fault.{Fault}
use Rattle.values.specs.declared.fault.Fault.TheVariants.{BadPage, BadChain, BadOrder, BadDepth, BadRecord, FloatValue, BadText}
use Rattle.records.specs.declared.fault.RecordFault.{RecordFault}
use Rattle.records.specs.declared.fault.RecordFault.TheVariants as r
use Rattle.records.specs.Record.{Breaks, IsRecord}
use Rattle.records.proofs.RecordLemmas.{not_broken, one_record}
use Rattle.btree.specs.declared.image.kind.TreeKind.{TreeKind}
use Rattle.btree.specs.declared.image.kind.TreeKind.TheVariants.{Index}
use Rattle.btree.specs.image.Cell.{CellData}
use Rattle.btree.specs.image.Pages.{Pages}
use Rattle.btree.specs.image.Shape.{place_at}
use Rattle.btree.specs.image.Sound.{IsSoundTree}
use Rattle.btree.specs.image.Tree.{Place, Reaches}
use Rattle.btree.proofs.lemmas.image.ChainLemmas.{one_payload}
use Rattle.btree.proofs.lemmas.image.PlaceLemmas.{complete}
use Rattle.btree_cursor.specs.index_entries.Entries.{BreaksEntry, HasBrokenChain, HasBrokenRecord, HasEntryThat, HasRecord}
use Rattle.integrity_trees.specs.declared.tree_walk.counts.TreeCounts.{TreeCounts}
use Rattle.btree.proofs.KindLemmas.{one_entry}
use Rattle.integrity_trees.specs.declared.index_walk.tree.EntryWidths.{EntryWidths}
use Rattle.integrity_trees.specs.index_walk.Widths.{IsOfWidth}
use Rattle.integrity_trees.specs.index_walk.Broken.{HasBrokenEntry, HasOtherWidth, IsBrokenIndex, IsBrokenOrder, IsBrokenTree}
use Rattle.integrity_trees.specs.index_walk.Checked.{HoldsEntry, IsCheckedIndex}
use Rattle.integrity_trees.specs.index_walk.Last.{IsIndexOrder}
use Rattle.btree_cursor.proofs.lemmas.index_entries.EntryLemmas.{entry_at_place}

bad_memory : r.Bad ≡ r.NoMemory → ⊥
bad_memory e = cc

float_memory : r.Float ≡ r.NoMemory → ⊥
float_memory e = cc

text_memory : r.Text ≡ r.NoMemory → ⊥
text_memory e = cc

unbroken_tree : (pages : Pages) (kind : TreeKind) (root : ℕ) → IsSoundTree pages kind root → (fault : Fault) → IsBrokenTree pages kind root fault → ⊥
unbroken_tree pages kind root sound (BadPage n) (reaches, not) = not (sound.each n reaches)
unbroken_tree pages kind root sound (BadDepth n) (e, inl uneven) = sound.even uneven
unbroken_tree pages kind root sound (BadDepth n) (e, inr deep) = sound.shallow deep
unbroken_tree pages kind root sound fault broken = absurd broken

-- a cell whose payload is a record of so many values
module _ (pages : Pages) (widths : EntryWidths) (cell : CellData) (values : List Datum) (has : HasRecord pages cell values) (width_is : IsOfWidth widths values) where
  no_record_fault : (fault : RecordFault) → HasBrokenRecord pages fault cell → fault ≡ r.NoMemory
  no_record_fault fault (bytes, whole, breaks) =
      not_broken fault has.bytes values (subst (λ (b : List ℕ). Breaks fault b) (one_payload pages cell.payload bytes has.bytes whole has.whole) breaks) has.record_is

  no_other_width : HasOtherWidth pages widths cell → ⊥
  no_other_width (others, other, differ) =
      let same = one_payload pages cell.payload other.bytes has.bytes other.whole has.whole in
      let one = one_record has.bytes others values (subst (λ (b : List ℕ). IsRecord b others) same other.record_is) has.record_is in
      differ (subst (λ (v : List Datum). IsOfWidth widths v) (sym one) width_is)

module _ (pages : Pages) (widths : EntryWidths) (descends : List Bool) (root : ℕ) (counts : TreeCounts) (checked : IsCheckedIndex pages widths descends root counts) (fault : Fault) (broken : HasBrokenEntry pages widths root fault) where
  -- an entry that is such and such is one of those that were checked
  no_entry : (IsSuch : CellData → Type 0) → ((cell : CellData) (values : List Datum) → HasRecord pages cell values → IsOfWidth widths values → IsSuch cell → ⊥)
      → HasEntryThat pages broken.level broken.n IsSuch → ⊥
  no_entry IsSuch never entry =
      let at = complete pages Index counts.levels root checked.shape (place_at broken.n entry.i)
      (record { level = broken.level; entries = tt; reaches = broken.reaches; page = broken.page; within = entry.within }) in
      let found = subst (λ (p : Place). HoldsEntry pages widths p) at.2 (checked.entries at.0 (place_at broken.n entry.i) at.1) in
      let held = found.1 in
      let same = one_entry pages Index (place_at broken.n entry.i) held.has.cell entry.cell
      (entry_at_place pages held.level broken.n entry.i held.has.cell held.page held.has.is)
      (entry_at_place pages broken.level broken.n entry.i entry.cell broken.page entry.is) in
      never entry.cell found.0 (subst (λ (c : CellData). HasRecord pages c found.0) same held.has.has) held.width_is entry.such

  no_break : (e : Fault) → BreaksEntry pages broken.level broken.n e → ⊥
  no_break (BadPage m) (is, not) = not broken.page
  no_break (BadChain m) (is, entry) = no_entry (HasBrokenChain pages) (λ cell values has width_is none. none has.bytes has.whole) entry
  no_break (BadRecord m) (is, entry) = no_entry (HasBrokenRecord pages r.Bad)
      (λ cell values has width_is breaks. bad_memory (no_record_fault pages widths cell values has width_is r.Bad breaks)) entry
  no_break FloatValue entry = no_entry (HasBrokenRecord pages r.Float)
      (λ cell values has width_is breaks. float_memory (no_record_fault pages widths cell values has width_is r.Float breaks)) entry
  no_break BadText entry = no_entry (HasBrokenRecord pages r.Text)
      (λ cell values has width_is breaks. text_memory (no_record_fault pages widths cell values has width_is r.Text breaks)) entry
  no_break other breaks = absurd breaks

  no_broken_entry : ⊥
  no_broken_entry = ⊎_elim (no_break fault)
      (λ (other : (fault ≡ BadRecord broken.n) × HasEntryThat pages broken.level broken.n (HasOtherWidth pages widths)).
      no_entry (HasOtherWidth pages widths) (λ cell values has width_is differs. no_other_width pages widths cell values has width_is differs) other.1)
      broken.broken

unbroken_order : (pages : Pages) (widths : EntryWidths) (descends : List Bool) (root : ℕ) → ((n : ℕ) → Reaches pages Index root n → IsIndexOrder pages widths descends root n) → (fault : Fault)
    → IsBrokenOrder pages widths descends root fault → ⊥
unbroken_order pages widths descends root order (BadOrder n) (reaches, not) = not (order n reaches)
unbroken_order pages widths descends root order fault broken = absurd broken

pub unbroken_index : (pages : Pages) (widths : EntryWidths) (descends : List Bool) (root : ℕ) (counts : TreeCounts) → IsCheckedIndex pages widths descends root counts → (fault : Fault)
    → IsBrokenIndex pages widths descends root fault → ⊥
unbroken_index pages widths descends root counts checked fault (inl broken) = unbroken_tree pages Index root checked.sound fault broken
unbroken_index pages widths descends root counts checked fault (inr (inl broken)) = no_broken_entry pages widths descends root counts checked fault broken
unbroken_index pages widths descends root counts checked fault (inr (inr broken)) = unbroken_order pages widths descends root checked.order fault broken
