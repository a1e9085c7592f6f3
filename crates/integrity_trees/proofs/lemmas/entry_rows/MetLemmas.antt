-- Where a cursor over an index stands, whatever the tree, and what is wrong where an entry isn't given.
use Rattle.std.proofs.Common.{◌≡◌, ◌⊎◌, ◌∙◌, ◌<◌, ℕ, IsTrue, List, Option, None, Some, ap, inl, inr, refl, sym, subst}
use Rattle.std.specs.Prelude.{option_map, unwrap_or}
use Rattle.values.specs.declared.fault.Fault.{Fault}
use Rattle.values.specs.declared.fault.Fault.TheVariants.{ReadFailed, NoMemory, BadPage, BadDepth, BadRecord, FloatValue, BadText}
use Rattle.values.specs.declared.fault.Fault.TheVariants.{Finished}
use Rattle.pager.specs.PagerState.{PagerState}
use Rattle.pager.specs.Calls.{IsReadFault, SameImage}
use Rattle.btree.specs.declared.image.kind.TreeKind.{TreeKind}
use Rattle.btree.specs.declared.image.kind.TreeKind.TheVariants.{Index}
use Rattle.btree.specs.declared.image.kind.Level.{Level}
use Rattle.btree.specs.image.Broken.{BlamesMet}
use Rattle.btree.specs.image.Cell.{CellData}
use Rattle.btree.specs.image.Chain.{HasBytes}
use Rattle.btree.specs.image.Pages.{Pages, pages_seen}
use Rattle.btree.specs.image.Tree.{count_at}
use Rattle.btree.proofs.SeenLemmas.{same_pages, still_steady}
use Rattle.records.specs.declared.fault.RecordFault.TheVariants as r
use Rattle.btree_cursor.specs.index_entries.Entries.{BreaksEntry, BreaksRecord, HasBrokenRecord, HasEntryThat, IsEntryOn}
use Rattle.btree_cursor.specs.declared.index_entries.columns.IndexKey.{IndexKey}
use Rattle.btree_cursor.specs.declared.cursor.cursor.Cursor.{Cursor}
use Rattle.btree_cursor.specs.declared.cursor.cursor.Frame.{Frame}
use Rattle.btree_cursor.specs.cursor.Calls.{GivesEntry, HasStepped, IsEntryFault, IsOpenedAt, IsStepFault}
use Rattle.btree_cursor.specs.cursor.Listing.{IsEnded}
use Rattle.btree_cursor.specs.cursor.Search.{BlamesEntry, IsEntrySought, IsIndexFault, IsUnchainedIndex}
use Rattle.btree_cursor.specs.cursor.Way.{HasCome, IsOver}
use Rattle.btree_cursor.proofs.lemmas.cursor.StandLemmas.{MeetsEntry, meets_entry, met_blames, met_on, met_whole}

-- why an entry isn't given, of any tree
abbrev pub IsEntryCause : Pages → ℕ → Fault → Type 0
IsEntryCause pages root fault = IsReadFault fault ⊎ (BlamesMet pages Index root fault ⊎ BlamesEntry pages root fault)

-- the fault of a cell is one of reading or, whichever entry of the page it is, one of the page's entries
abbrev pub BreaksEntryOf : Pages → ℕ → CellData → Fault → Type 0
BreaksEntryOf pages page cell fault = (level : Level) (i : ℕ) → i < count_at pages page → IsEntryOn pages level page i cell
    → IsReadFault fault ⊎ BreaksEntry pages level page fault

-- a fault of its record is one of the page's entries
module _ (pages : Pages) (level : Level) (n i : ℕ) (cell : CellData) (within : i < count_at pages n)
    (on : IsEntryOn pages level n i cell) where
  such_entry : {IsSuch : CellData → Type 0} → IsSuch cell → HasEntryThat pages level n IsSuch
  such_entry such = record { i = i; cell = cell; within = within; is = on; such = such }

  pub breaks_record : (bytes : List ℕ) → HasBytes pages cell.payload bytes → (fault : Fault) → BreaksRecord bytes n fault
      → IsReadFault fault ⊎ BreaksEntry pages level n fault
  breaks_record bytes whole NoMemory broken = inl (inr refl)
  breaks_record bytes whole (BadRecord m) broken = inr (broken.0, such_entry {IsSuch = HasBrokenRecord pages r.Bad} (bytes, whole, broken.1))
  breaks_record bytes whole FloatValue broken = inr (such_entry {IsSuch = HasBrokenRecord pages r.Float} (bytes, whole, broken))
  breaks_record bytes whole BadText broken = inr (such_entry {IsSuch = HasBrokenRecord pages r.Text} (bytes, whole, broken))
  breaks_record bytes whole other broken = absurd broken

some_of : (found : Option Frame) → (found ≡ None → ⊥) → (here : Frame) × (found ≡ Some here)
some_of None some = absurd (some refl)
some_of (Some here) some = (here, refl)

-- what is known of the cursor while entries are read
pub record Standing (start now : PagerState) (root : ℕ) (cursor : Cursor) : Type 0 where
  pub kind_is : cursor.kind ≡ Index
  pub root_is : cursor.root ≡ root
  pub stands : ¬ IsEnded cursor
  pub over : IsOver (pages_seen start) cursor
  pub come : IsTrue start.source.steady → HasCome (pages_seen start) cursor
  pub chained : IsTrue start.source.steady → IsUnchainedIndex (pages_seen start) root → now.chained ≡ start.chained

pub standing_opened : (start now : PagerState) (root : ℕ) (cursor : Cursor) → IsOpenedAt start now Index root cursor
    → now.chained ≡ start.chained → Standing start now root cursor
standing_opened start now root cursor is kept = record {
  kind_is = is.kind_is;
  root_is = is.root_is;
  stands = is.stands;
  over = is.over;
  come = is.come;
  chained = λ steady whole. kept;
}

pub standing_sought : (start now : PagerState) (root : ℕ) (key : IndexKey) (cursor : Cursor)
    → IsEntrySought start now root key cursor
    → (IsTrue start.source.steady → IsUnchainedIndex (pages_seen start) root → now.chained ≡ start.chained)
    → Standing start now root cursor
standing_sought start now root key cursor is kept = record {
  kind_is = is.kind_is;
  root_is = is.root_is;
  stands = is.stands;
  over = is.over;
  come = is.come;
  chained = kept;
}

module _ (start now : PagerState) (root : ℕ) (cursor : Cursor) (s : Standing start now root cursor) where
  blames_met : (pages : Pages) (fault : Fault) → BlamesMet pages cursor.kind cursor.root fault → BlamesMet pages Index root fault
  blames_met pages fault blames =
      subst (λ (r : ℕ). BlamesMet pages Index r fault) s.root_is
      (subst (λ (k : TreeKind). BlamesMet pages k cursor.root fault) s.kind_is blames)

  pub entry_only : (fault : Fault) → IsEntryFault cursor fault → IsIndexFault root fault
  entry_only fault (inl over) = absurd (s.stands over.1)
  entry_only fault (inr lacks) = subst (λ (f : Fault). IsIndexFault root f) (sym lacks.2) tt

  pub step_only : (fault : Fault) → IsStepFault cursor fault → IsIndexFault root fault
  step_only ReadFailed h = tt
  step_only NoMemory h = tt
  step_only (BadPage m) h = tt
  step_only (BadDepth m) h = h ∙ s.root_is
  step_only Finished h = absurd (s.stands h)
  step_only other h = absurd h

  pub entry_cause : (steady : IsTrue start.source.steady) (fault : Fault) → IsEntryFault cursor fault
      → ((image : Pages) → HasCome image cursor → IsOver image cursor
      → (fault ≡ Finished) ⊎ BlamesMet image cursor.kind cursor.root fault)
      → IsEntryCause (pages_seen start) root fault
  entry_cause steady fault (inl over) told = absurd (s.stands over.1)
  entry_cause steady fault (inr lacks) told = elim (told (pages_seen start) (s.come steady) s.over) [
    | inl finished ↦ absurd (let e : Finished ≡ BadPage lacks.0.number = sym finished ∙ lacks.2 in cc)
    | inr blames ↦ inr (inl (blames_met (pages_seen start) fault blames))
  ]

  -- the number of the page that it stands on is there
  pub page_here : (found : Option ℕ) (page other : ℕ) → found ≡ option_map (λ here. here.number) cursor.here
      → page ≡ unwrap_or found other → Some page ≡ option_map (λ here. here.number) cursor.here
  page_here found page other is page_is =
      let here = some_of cursor.here s.stands in
      let there : found ≡ Some here.0.number = is ∙ ap (λ (h : Option Frame). option_map (λ f. f.number) h) here.1 in
      let same : page ≡ here.0.number = page_is ∙ ap (λ (o : Option ℕ). unwrap_or o other) there in
      ap (λ (n : ℕ). Some n) same ∙ sym there ∙ is

  module _ (steady : IsTrue start.source.steady) (cell : CellData) (gives : GivesEntry cursor (Some cell)) where
    pub meets : MeetsEntry (pages_seen start) root cursor cell
    meets =
        let here = some_of cursor.here s.stands in
        meets_entry (pages_seen start) root cursor s.kind_is s.root_is (s.come steady) s.over cell here.0 here.1 gives

    -- where the index has no chains its record is read with none
    pub whole_here : IsUnchainedIndex (pages_seen start) root → cell.payload.overflow ≡ None
    whole_here whole = met_whole (pages_seen start) root cursor cell meets whole

    -- a fault of the entry's record, which is said to be of the page on which the cursor stands
    pub row_cause : SameImage start now → (page : ℕ) → Some page ≡ option_map (λ here. here.number) cursor.here → (fault : Fault)
        → BreaksEntryOf (pages_seen now) page cell fault → IsEntryCause (pages_seen start) root fault
    row_cause stays page is fault told =
        let m = meets in
        let seen = pages_seen start in
        let here : Some page ≡ Some m.here.number = is ∙ ap (λ (h : Option Frame). option_map (λ f. f.number) h) m.here_is in
        let same : page ≡ m.here.number = cc in
        let own = subst (λ (k : ℕ). BreaksEntryOf seen k cell fault) same
        (subst (λ (p : Pages). BreaksEntryOf p page cell fault) (same_pages _ _ stays) told) in
        elim (own m.stands.level m.here.at m.within (met_on seen root cursor cell m)) [
          | inl read ↦ inl read
          | inr broken ↦ inr (inr (met_blames seen root cursor cell m fault broken))
        ]

  -- a fault of a step has its cause in the same image
  pub step_cause : (read : PagerState) → SameImage start read → (steady : IsTrue start.source.steady) (fault : Fault)
      → IsStepFault cursor fault
      → (HasCome (pages_seen read) cursor
      → (fault ≡ Finished) ⊎ IsReadFault fault ⊎ BlamesMet (pages_seen read) cursor.kind cursor.root fault)
      → IsEntryCause (pages_seen start) root fault
  step_cause read stays steady fault only told =
      elim (told (subst (λ (p : Pages). HasCome p cursor) (sym (same_pages _ _ stays)) (s.come steady))) [
        | inl finished ↦ absurd (s.stands (subst (λ (f : Fault). IsStepFault cursor f) finished only))
        | inr other ↦ elim other [
          | inl read ↦ inl read
          | inr blames ↦ inr (inl (blames_met (pages_seen start) fault
              (subst (λ (p : Pages). BlamesMet p cursor.kind cursor.root fault) (same_pages _ _ stays) blames)))
        ]
      ]

  -- it has gone on
  pub standing_on : (read then : PagerState) (next : Cursor) → SameImage start read → HasStepped read then cursor next
      → (IsTrue start.source.steady → IsUnchainedIndex (pages_seen start) root → read.chained ≡ now.chained)
      → then.chained ≡ read.chained → Standing start then root next
  standing_on read then next stays stepped kept unchained = record {
    kind_is = stepped.kind_is ∙ s.kind_is;
    root_is = stepped.root_is ∙ s.root_is;
    stands = stepped.stands;
    over = stepped.over (pages_seen start) s.over;
    come = λ steady.
        let same = same_pages _ _ stays in
        subst (λ (p : Pages). HasCome p next) same
        (stepped.come (still_steady _ _ stays steady) (subst (λ (p : Pages). HasCome p cursor) (sym same) (s.come steady)));
    chained = λ steady whole. unchained ∙ kept steady whole ∙ s.chained steady whole;
  }
