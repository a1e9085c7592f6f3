-- One cell by its whole key: the way down on which nothing is kept, and the first cell that doesn't come before the key.
use Rattle.std.proofs.Common.{◌≡◌, ℕ, ℤ, suc, ◌+◌, ◌<◌, ◌≤◌, ◌<ℤ◌, Bool, true, false, not, Contains, IsTrue, List, [], ◌∷◌, ◌++◌, Option, None, Some, drop, length, take, refl, sym, ◌∙◌, ap, subst, append-nil, ⊎_elim, arith}
use Rattle.std.specs.Prelude.{IfSome, find}
use Rattle.std.specs.Option.{option_eq}
use Rattle.std.specs.Ordering.{int_eq, is_eq}
use Rattle.std.specs.declared.cmp.Ordering.{Ordering}
use Rattle.std.specs.declared.cmp.Ordering.TheVariants.{Less, Equal, Greater}
use Rattle.std.proofs.lemmas.Bool.{cases_lt}
use Rattle.std.proofs.lemmas.Bool.Decides.{Decides-int_eq}
use Rattle.std.proofs.lemmas.List.Elements.{All-contains, Contains-append_cases, Contains-append_right}
use Rattle.values.specs.Datum.{Datum}
use Rattle.values.specs.declared.fault.Fault.{Fault}
use Rattle.values.specs.declared.fault.Fault.TheVariants.{ReadFailed, NoMemory, BadPage, BadChain, BadRecord, FloatValue, BadText, BadDepth}
use Rattle.pager.specs.PagerState.{PagerState}
use Rattle.btree.specs.declared.image.kind.TreeKind.{TreeKind}
use Rattle.btree.specs.declared.image.kind.TreeKind.TheVariants.{Table, Index}
use Rattle.btree.specs.declared.image.kind.Level.{Level}
use Rattle.btree.specs.declared.image.kind.Level.TheVariants.{Leaf, Interior}
use Rattle.btree.specs.image.Broken.{BlamesMet, HasRowid, IsRowOrder}
use Rattle.btree.specs.image.Cell.{CellData}
use Rattle.btree.specs.image.Entries.{IsAtPlace}
use Rattle.btree.specs.image.Pages.{Pages, IsNumber, pages_seen}
use Rattle.btree.specs.image.Search.{IsBoundary, IsCellThat, row_before}
use Rattle.btree.specs.image.Shape.{HasShape, IsTreeAt, place_at, places_in, places_under, size_under}
use Rattle.btree.specs.image.Tree.{Place, HasHeader, IsEntryAt, IsMetAt, from_root, by_name, IsNamedChild, IsPageOf, IsPlaceOf, Reaches, child_at, count_at}
use Rattle.btree.proofs.KindLemmas.{one_entry}
use Rattle.btree.proofs.lemmas.image.CellLemmas.{one_cell}
use Rattle.btree.proofs.lemmas.image.ListLemmas.{Pairs, cons_cases, in_head, in_tail}
use Rattle.btree.proofs.lemmas.image.OrderLemmas.{KeyBefore, root_rises}
use Rattle.btree.proofs.lemmas.image.PlaceLemmas.{sound}
use Rattle.btree.proofs.lemmas.image.RowidLemmas.{one_rowid}
use Rattle.btree.proofs.lemmas.image.RowSearchLemmas.{row_cut, row_less}
use Rattle.btree.proofs.lemmas.image.SearchLemmas.{one_answer}
use Rattle.btree.proofs.lemmas.image.TableLemmas.{Below, AtMost, leaf_place, rowids}
use Rattle.btree_cursor.specs.declared.cursor.cursor.Frame.{Frame}
use Rattle.btree_cursor.specs.declared.index_entries.columns.IndexKey.{IndexKey}
use Rattle.btree_cursor.specs.key_ranges.Ranges.{Cut, is_before, key_cmp, stands_before}
use Rattle.btree_cursor.specs.index_entries.Entries.{AreValuesOf, HasRecord, IsCompareFault}
use Rattle.btree_cursor.specs.index_entries.Sought.{comes_before, sought}
use Rattle.btree_cursor.specs.cursor.Found.{AsksOneWay, IsFirst, IsFirstOf, IsLeafFor, agrees}
use Rattle.btree_cursor.specs.cursor.Held.{HasRowHere}
use Rattle.btree_cursor.specs.cursor.Rest.{Holds, IsInLeaf, IsLeft}
use Rattle.btree_cursor.specs.cursor.Search.{AreEntriesSought, HasRowWith, IsIndexFault, IsSearchableIndex, IsSoughtBy}
use Rattle.btree_cursor.proofs.lemmas.index_entries.EntryLemmas.{entry_at_place}
use Rattle.btree_cursor.proofs.lemmas.key_ranges.RunLemmas.{before_too}
use Rattle.btree_cursor.proofs.lemmas.cursor.DepthLemmas.{named_below}
use Rattle.btree_cursor.proofs.lemmas.cursor.EntrySeekLemmas.{Earlier, IsEntrySeeking, earlier, entry_down, entry_first, entry_header, entry_keys, entry_leaf, entry_page, entry_values}
use Rattle.btree_cursor.proofs.lemmas.cursor.RestLemmas.{left_end, left_split, own_is, places_more}
use Rattle.btree_cursor.proofs.lemmas.cursor.RowSeekLemmas.{IsRowSeeking, leaf_passed, row_down, row_first, row_header, row_leaf, row_next, row_page, row_there}
use Rattle.btree_cursor.proofs.lemmas.cursor.SeenLemmas.{last_end}

-- ---- the way down, of either tree

-- so many pages above it have led from the root to page n, which is asked for next
pub record IsOnWay (pages : Pages) (kind : TreeKind) (root above n : ℕ) : Type 0 where
  pub shape : (levels : ℕ) → IsTreeAt pages kind levels root → (height : ℕ) × (height + above ≡ levels) × HasShape pages kind height n
  pub met : IsMetAt pages kind root (above + 1) n

module _ (pages : Pages) (kind : TreeKind) (root : ℕ) where
  pub way_first : IsOnWay pages kind root 0 root
  way_first = record { shape = λ levels tree. (levels, omega arith, tree.shape); met = from_root }

  pub way_down : (above n i m : ℕ) → IsOnWay pages kind root above n → IsNamedChild pages kind n i m → IsOnWay pages kind root (above + 1) m
  way_down above n i m way named = record {
    shape = λ levels tree.
        let s = way.shape levels tree in
        let b = named_below pages kind s.0 n i m s.2 named in
        (b.0, omega (arith, s.1, b.1), b.2);
    met = let depth : suc (above + 1) ≡ (above + 1) + 1 = omega arith in
        subst (λ (k : ℕ). IsMetAt pages kind root k m) depth (by_name i way.met named);
  }

  -- a way of too many pages
  pub way_deep : (above n : ℕ) → IsOnWay pages kind root above n → 20 ≤ above → BlamesMet pages kind root (BadDepth root)
  way_deep above n way deep = (refl, (above + 1, n, way.met, omega arith))

  pub way_short : (above n levels : ℕ) → IsOnWay pages kind root above n → IsTreeAt pages kind levels root → 20 ≤ above → ⊥
  way_short above n levels way tree deep =
      let s = way.shape levels tree in
      let few : levels < 20 = tree.few in
      omega (arith, s.1)

-- the pages on it, that which is asked for last among them
pub way_asks : (old new : PagerState) (kind : TreeKind) (root above n : ℕ) → (IsTrue old.source.steady → IsOnWay (pages_seen old) kind root above n)
    → above < 20 → new.asked ≤ old.asked + (above + 1) → AsksOneWay old new kind root
way_asks old new kind root above n way few asks = record {
  most = omega arith;
  levels = λ steady levels tree. let s = (way steady).shape levels tree in omega (arith, s.1);
}

pub way_ends : (old new : PagerState) (kind : TreeKind) (root above n : ℕ) → (IsTrue old.source.steady → IsOnWay (pages_seen old) kind root above n)
    → above ≡ 20 → new.asked ≤ old.asked + above → AsksOneWay old new kind root
way_ends old new kind root above n way end asks = record {
  most = omega arith;
  levels = λ steady levels tree. absurd (way_short (pages_seen old) kind root above n levels (way steady) tree (omega arith));
}

pub asks_none : (pager : PagerState) (kind : TreeKind) (root : ℕ) → AsksOneWay pager pager kind root
asks_none pager kind root = record { most = omega arith; levels = λ steady levels tree. omega arith }

pub asks_kept : (old now new : PagerState) (kind : TreeKind) (root : ℕ) → AsksOneWay old now kind root → new.asked ≡ now.asked → AsksOneWay old new kind root
asks_kept old now new kind root asks same = record {
  most = let most : now.asked ≤ old.asked + 20 = asks.most in omega arith;
  levels = λ steady levels tree. let few : now.asked ≤ old.asked + (levels + 1) = asks.levels steady levels tree in omega arith;
}

-- what holds of a first element and each later one of a list, holds of one in it and each later one
pairs_later : {X : Type 0} (R : X → X → Type 0) (front : List X) (first : X) (later : List X) → Pairs R (front ++ first ∷ later) → (y : X)
    → Contains later y → R first y
pairs_later R [] first later pairs y h = pairs.0 y h
pairs_later R (x ∷ xs) first later pairs y h = pairs_later R xs first later pairs.1 y h

-- ---- a row by its rowid

module _ (pages : Pages) (root : ℕ) (rowid : ℤ) (levels : ℕ) (order : (n : ℕ) → Reaches pages Table root n → IsRowOrder pages root n) where
  -- a search for the row that asks for page n next
  pub record IsRowFinding (n : ℕ) : Type 0 where
    pub frames : List Frame
    pub asked : ℕ
    pub budget : ℕ
    pub seeks : IsRowSeeking pages root false rowid levels order frames n asked budget

  pub row_begins : IsTreeAt pages Table levels root → IsRowFinding root
  row_begins tree = record {
    frames = [];
    asked = 0;
    budget = 0 + size_under pages levels root;
    seeks = row_first pages root false rowid levels order [] 0 tree.few tree.number tree.shape refl;
  }

  module _ (n : ℕ) (f : IsRowFinding n) where
    pub finding_header : (level : Level) × HasHeader pages Table level n
    finding_header = row_header pages root false rowid levels order f.frames n f.asked f.budget f.seeks

    module _ (frame : Frame) (number : frame.number ≡ n) where
      pub finding_page : (level : Level) → HasHeader pages Table level n → IsPageOf pages Table level frame.number
      finding_page = row_page pages root false rowid levels order f.frames n f.asked f.budget f.seeks frame number

      module _ (holds : Holds pages frame) (p : ℕ) where
        pub finding_down : frame.level ≡ Interior → HasHeader pages Table Interior n
            → IsBoundary (HasRowid pages) (row_before false rowid) pages Table Interior frame.number p → IsRowFinding (child_at pages frame.number p)
        finding_down level header b = record {
          frames = f.frames ++ (record frame { at = p }) ∷ [];
          asked = f.asked;
          budget = f.budget;
          seeks = row_down pages root false rowid levels order f.frames n f.asked f.budget f.seeks frame number holds p f.asked (omega arith) level header b;
        }

        module _ (tree : IsTreeAt pages Table levels root) (header : HasHeader pages Table Leaf n)
            (b : IsBoundary (HasRowid pages) (row_before false rowid) pages Table Leaf frame.number p) where
          abbrev table_rows : List Place
          table_rows = places_under pages Table levels root

          parts : IsSoughtBy (HasRowid pages) (row_before false rowid) pages Table levels root
              (λ places. IsInLeaf pages Table levels f.frames (record frame { at = p }) places f.asked f.budget)
          parts = row_leaf pages root false rowid levels order f.frames n f.asked f.budget f.seeks frame number holds p f.asked (omega arith) header b

          -- the cell where the leaf is left, and what comes after it
          pub record IsOpen : Type 0 where
            pub front : List Place
            pub later : List Place
            pub all_is : table_rows ≡ front ++ place_at frame.number p ∷ later
            pub passed : (x : Place) → Contains front x → IsCellThat (HasRowid pages) (row_before false rowid) pages Table true x
            pub first : IsCellThat (HasRowid pages) (row_before false rowid) pages Table false (place_at frame.number p)

          open_at : p < count_at pages frame.number → IsOpen
          open_at within =
              let s = parts in
              let rest_is : s.rest ≡ place_at frame.number p ∷ (drop (p + 1) (places_in pages frame.number) ++ s.leads.rest) =
              s.leads.places_is ∙ ap (λ (x : List Place). x ++ s.leads.rest) (places_more pages Table frame.number p within) in
              record {
                front = s.front;
                later = drop (p + 1) (places_in pages frame.number) ++ s.leads.rest;
                all_is = s.split.all_is ∙ ap (λ (x : List Place). s.front ++ x) rest_is;
                passed = λ x h. All-contains (IsCellThat (HasRowid pages) (row_before false rowid) pages Table true) s.front x s.split.come_before h;
                first = All-contains (IsCellThat (HasRowid pages) (row_before false rowid) pages Table false) s.rest (place_at frame.number p) s.split.do_not
                    (subst (λ (l : List Place). Contains l (place_at frame.number p)) (sym rest_is) (in_head (place_at frame.number p) (drop (p + 1) (places_in pages frame.number) ++ s.leads.rest)));
              }

          -- the row with the rowid is there
          is_row : (o : IsOpen) (row : HasRowWith pages levels root rowid) → HasRowid pages Leaf frame.number p rowid
          is_row o row =
              let x = row.place in
              let first = place_at frame.number p in
              let next = row_next pages root false rowid levels order refl tree.shape x row.is_there row.has in
              ⊎_elim
              (λ (passed : Contains o.front x). absurd (one_answer (HasRowid pages) Below AtMost pages Table root (rowids pages) (one_rowid pages) order (row_before false rowid) (row_cut false rowid) x (o.passed x passed) next.is))
              (λ (here : Contains (first ∷ o.later) x). ⊎_elim
              (λ (same : first ≡ x). subst (λ (y : Place). HasRowid pages Leaf y.page y.index rowid) (sym same) row.has)
              (λ (after : Contains o.later x).
              let at = sound pages Table levels root tree.shape x row.is_there in
              let pairs = subst (λ (l : List Place). Pairs (KeyBefore (HasRowid pages) Below pages Table) l) o.all_is
              (root_rises (HasRowid pages) Below AtMost pages Table root (rowids pages) order levels tree.shape) in
              let less : o.first.is.0 <ℤ rowid =
              pairs_later (KeyBefore (HasRowid pages) Below pages Table) o.front first o.later pairs x after o.first.level Leaf o.first.is.0 rowid o.first.page o.first.within
              (leaf_place pages at.level x.page at.entries at.page) at.within o.first.is.1 row.has in
              let before : row_before false rowid o.first.is.0 ≡ true = row_less false rowid o.first.is.0 less in
              let behind : row_before false rowid o.first.is.0 ≡ false = o.first.is.2 in
              let both : true ≡ false = sym before ∙ behind in
              absurd cc)
              (cons_cases first x o.later here))
              (Contains-append_cases o.front (first ∷ o.later) x (subst (λ (l : List Place). Contains l x) o.all_is row.is_there))

          pub finding_leaf : IsLeafFor pages levels root rowid (record frame { at = p })
          finding_leaf =
              let count : frame.count ≡ count_at pages frame.number = holds.count in
              record {
                page = finding_page Leaf header;
                is_there = λ within.
                    let o = open_at (omega arith) in
                    subst (λ (l : List Place). Contains l (place_at frame.number p)) (sym o.all_is)
                    (Contains-append_right o.front (place_at frame.number p ∷ o.later) (place_at frame.number p) (in_head (place_at frame.number p) o.later));
                only = λ row.
                    let there : p < count_at pages frame.number =
                    row_there pages root false rowid levels order f.frames n f.asked f.budget f.seeks frame number holds p f.asked (omega arith) header b row.place
                    (row_next pages root false rowid levels order refl tree.shape row.place row.is_there row.has) row.is_there in
                    (omega arith, is_row (open_at there) row);
              }

-- a page that is held has one row where a frame stands
pub one_row : (usable most : ℕ) (frame : Frame) (a b : CellData) → HasRowHere usable most frame a → HasRowHere usable most frame b → a ≡ b
one_row usable most frame a b one other =
    let bytes = take usable frame.page in
    let pages : Pages = record { count = 0; usable = length bytes; size = most; page = λ n. bytes } in
    one_cell pages (place_at frame.number frame.at) a b (record { is = one.row.is.is; fits = one.row.is.fits }) (record { is = other.row.is.is; fits = other.row.is.fits })

-- what `!=` answers at the rowid of a cell
module _ (rowid : Option ℤ) (key : ℤ) (differs : Bool) (is : differs ≡ not (option_eq int_eq rowid (Some key))) where
  equal : (a : Option ℤ) → option_eq int_eq a (Some key) ≡ true → a ≡ Some key
  equal None same = cc
  equal (Some x) same = ap (λ (k : ℤ). Some k) ((Decides-int_eq x key).0 same)

  undo : (b : Bool) → not b ≡ false → b ≡ true
  undo true h = refl
  undo false h = cc

  pub same_rowid : differs ≡ false → rowid ≡ Some key
  same_rowid h = equal rowid (undo (option_eq int_eq rowid (Some key)) (sym is ∙ h))

  pub other_rowid : differs ≡ true → rowid ≡ Some key → ⊥
  other_rowid h same =
      let itself : option_eq int_eq (Some key) (Some key) ≡ true = (Decides-int_eq key key).1 refl in
      let here : option_eq int_eq rowid (Some key) ≡ true = rw same itself in
      let both : true ≡ false = sym h ∙ is ∙ ap not here in
      cc

-- ---- an entry by its key

-- of the pages on the way down, the entry where the lowest was left that wasn't passed as a whole
pub data IsLeftAt : List Frame → Option Frame → Type 0 where
  nowhere : IsLeftAt [] None
  went_past : {frames : List Frame} {above : Option Frame} (frame : Frame) (all : List Frame) → IsLeftAt frames above → frame.count ≤ frame.at
      → all ≡ frames ++ (frame ∷ []) → IsLeftAt all above
  there : {frames : List Frame} {above : Option Frame} (frame : Frame) (all : List Frame) → IsLeftAt frames above → frame.at < frame.count
      → all ≡ frames ++ (frame ∷ []) → IsLeftAt all (Some frame)

-- it is the first of the cells that come after the page below them
left_first : (pages : Pages) (total : ℕ) {frames : List Frame} {left : Option Frame} → IsLeftAt frames left → (levels : ℕ) (rest : List Place) (asked budget : ℕ)
    → IsLeft pages Index total levels frames rest asked budget → IsFirst pages rest left
left_first pages total nowhere levels rest asked budget l = left_end pages Index total levels [] rest asked budget l refl
left_first pages total (went_past {frames} frame all above past is) levels rest asked budget l =
    left_first pages total above (suc levels) rest asked budget (last_end pages Index total levels all frames frame rest asked budget l is past)
left_first pages total (there {frames} frame all above within is) levels rest asked budget l =
    let s = left_split pages Index total levels all frames frame rest asked budget l is in
    let count : frame.count ≡ count_at pages frame.number = s.behind.step.holds.count in
    record {
      later = s.later;
      places_is = s.rest_is ∙ ap (λ (x : List Place). x ++ s.later) (own_is pages Index frame.number frame.at (omega arith));
      holds = s.behind.step.holds;
      within = within;
    }

module _ (pages : Pages) (key : IndexKey) (values : Place → List Datum) (levels root : ℕ) (index : IsSearchableIndex pages key.descends.now values levels root) where
  -- a search for the entry that asks for page n next
  pub record IsEntryFinding (n : ℕ) (left : Option Frame) : Type 0 where
    pub frames : List Frame
    pub asked : ℕ
    pub budget : ℕ
    pub seeks : IsEntrySeeking pages key values levels root index frames n asked budget
    pub left_at : IsLeftAt frames left

  pub entry_begins : IsEntryFinding root None
  entry_begins = record {
    frames = [];
    asked = 0;
    budget = 0 + size_under pages levels root;
    seeks = entry_first pages key values levels root index [] 0 refl;
    left_at = nowhere;
  }

  module _ (n : ℕ) (left : Option Frame) (f : IsEntryFinding n left) where
    pub found_header : (level : Level) × HasHeader pages Index level n
    found_header = entry_header pages key values levels root index f.frames n f.asked f.budget f.seeks

    module _ (frame : Frame) (number : frame.number ≡ n) where
      pub found_page : (level : Level) → HasHeader pages Index level n → IsPageOf pages Index level frame.number
      found_page = entry_page pages key values levels root index f.frames n f.asked f.budget f.seeks frame number

      pub found_values : (level : Level) → HasHeader pages Index level n → AreValuesOf pages values level frame.number
      found_values = entry_values pages key values levels root index f.frames n f.asked f.budget f.seeks frame number

      -- the child to which the boundary leads is a page of the image
      pub found_number : Holds pages frame → (p : ℕ) → frame.level ≡ Interior → HasHeader pages Index Interior n
          → IsBoundary IsAtPlace (λ place. comes_before key (values place)) pages Index Interior frame.number p → IsNumber pages (child_at pages frame.number p)
      found_number holds p level header b =
          (entry_down pages key values levels root index f.frames n f.asked f.budget f.seeks frame number holds p f.asked (omega arith) level header b).heading.number

      -- the page is left at entry p
      module _ (holds : Holds pages frame) (p : ℕ) (now : Option Frame) (own : p < frame.count → now ≡ Some (record frame { at = p }))
          (above : frame.count ≤ p → now ≡ left) where
        pub found_down : frame.level ≡ Interior → HasHeader pages Index Interior n
            → IsBoundary IsAtPlace (λ place. comes_before key (values place)) pages Index Interior frame.number p → IsEntryFinding (child_at pages frame.number p) now
        found_down level header b =
            let here : Frame = record frame { at = p } in
            record {
              frames = f.frames ++ here ∷ [];
              asked = f.asked;
              budget = f.budget;
              seeks = entry_down pages key values levels root index f.frames n f.asked f.budget f.seeks frame number holds p f.asked (omega arith) level header b;
              left_at = ⊎_elim
                  (λ (within : p < frame.count). subst (λ (o : Option Frame). IsLeftAt (f.frames ++ here ∷ []) o) (sym (own within)) (there here (f.frames ++ here ∷ []) f.left_at within refl))
                  (λ (past : frame.count ≤ p). subst (λ (o : Option Frame). IsLeftAt (f.frames ++ here ∷ []) o) (sym (above past)) (went_past here (f.frames ++ here ∷ []) f.left_at past refl))
                  (cases_lt p frame.count);
            }

        pub found_leaf : HasHeader pages Index Leaf n → IsBoundary IsAtPlace (λ place. comes_before key (values place)) pages Index Leaf frame.number p
            → AreEntriesSought pages key values levels root (λ places. IsFirst pages places now)
        found_leaf header b =
            let here : Frame = record frame { at = p } in
            let s = entry_leaf pages key values levels root index f.frames n f.asked f.budget f.seeks frame number holds p f.asked (omega arith) header b in
            let count : frame.count ≡ count_at pages frame.number = holds.count in
            record {
              front = s.front;
              rest = s.rest;
              split = s.split;
              leads = ⊎_elim
                  (λ (within : p < frame.count). subst (λ (o : Option Frame). IsFirst pages s.rest o) (sym (own within)) (let first : IsFirstOf pages s.rest here = record {
                    later = drop (p + 1) (places_in pages frame.number) ++ s.leads.rest;
                    places_is = s.leads.places_is ∙ ap (λ (x : List Place). x ++ s.leads.rest) (places_more pages Index frame.number p (omega arith));
                    holds = s.leads.holds;
                    within = within;
                  } in first))
                  (λ (past : frame.count ≤ p). subst (λ (o : Option Frame). IsFirst pages s.rest o) (sym (above past))
                  (left_first pages levels f.left_at 0 s.rest f.asked f.budget (leaf_passed pages Index levels f.frames here s.rest f.asked f.budget s.leads past)))
                  (cases_lt p frame.count);
            }

-- what is left of a page that is met
module _ (frame : Frame) (p : ℕ) (above left : Option Frame) (own : p < frame.count → left ≡ Some (record frame { at = p })) (passed : frame.count ≤ p → left ≡ above) where
  pub left_some : (P : Frame → Type 0) → P (record frame { at = p }) → IfSome above P → IfSome left P
  left_some P here before = ⊎_elim
      (λ (within : p < frame.count). subst (λ (o : Option Frame). IfSome o P) (sym (own within)) here)
      (λ (past : frame.count ≤ p). subst (λ (o : Option Frame). IfSome o P) (sym (passed past)) before)
      (cases_lt p frame.count)

  pub left_within : IfSome above (λ it. it.at < it.count) → IfSome left (λ it. it.at < it.count)
  left_within before = ⊎_elim
      (λ (within : p < frame.count). subst (λ (o : Option Frame). IfSome o (λ it. it.at < it.count)) (sym (own within)) within)
      (λ (past : frame.count ≤ p). subst (λ (o : Option Frame). IfSome o (λ it. it.at < it.count)) (sym (passed past)) before)
      (cases_lt p frame.count)

-- an order of a key and an entry
after_tie : (o : Ordering) → is_eq o ≡ true → stands_before true o ≡ true
after_tie Less is = cc
after_tie Equal is = refl
after_tie Greater is = refl

passed_none : (o : Ordering) → stands_before false o ≡ true → is_eq o ≡ false
passed_none Less is = refl
passed_none Equal is = cc
passed_none Greater is = refl

between : (o : Ordering) → stands_before false o ≡ false → stands_before true o ≡ true → is_eq o ≡ true
between Less unpassed is = cc
between Equal unpassed is = refl
between Greater unpassed is = cc

no_tie : (b : Bool) → (b ≡ true → ⊥) → b ≡ false
no_tie true h = absurd (h refl)
no_tie false h = refl

module _ {X : Type 0} (test : X → Bool) where
  find_past : (front rest : List X) → ((x : X) → Contains front x → test x ≡ false) → find test (front ++ rest) ≡ find test rest
  find_past [] rest none = refl
  find_past (x ∷ xs) rest none =
      let first : test x ≡ false = none x (in_head x xs) in
      rw first (find_past xs rest (λ y h. none y (in_tail x y xs h)))

  find_none : (xs : List X) → ((x : X) → Contains xs x → test x ≡ false) → find test xs ≡ None
  find_none xs none = ap (λ (l : List X). find test l) (sym (append-nil xs)) ∙ find_past xs [] none

  find_here : (x : X) (xs : List X) → test x ≡ true → find test (x ∷ xs) ≡ Some x
  find_here x xs is = rw is refl

-- what a search that stands at a key or after it goes by
cut_test : (s : IndexKey) (descends : List Bool) (cut : Cut) → s.descends.now ≡ descends → sought s ≡ cut → (v : List Datum) → comes_before s v ≡ is_before descends cut v
cut_test s descends cut same is v = λ i. is_before (same i) (is i) v

module _ (pages : Pages) (descends : List Bool) (key : List Datum) (values : Place → List Datum) (levels root : ℕ) (index : IsSearchableIndex pages descends values levels root)
    (at : IndexKey) (at_same : at.descends.now ≡ descends) (at_is : sought at ≡ record { key = key; behind = false })
    (IsLeading : List Place → Type 0) (s : AreEntriesSought pages at values levels root IsLeading) where
  abbrev ties : Place → Bool
  ties place = agrees descends key (values place)

  abbrev entries : List Place
  entries = places_under pages Index levels root

  at_test : (x : Place) → comes_before at (values x) ≡ stands_before false (key_cmp descends key (values x))
  at_test x = cut_test at descends (record { key = key; behind = false }) at_same at_is (values x)

  front_fails : (x : Place) → Contains s.front x → ties x ≡ false
  front_fails x h =
      let c = All-contains (IsCellThat IsAtPlace (λ place. comes_before at (values place)) pages Index true) s.front x s.split.come_before h in
      let is : comes_before at (values x) ≡ true = subst (λ (y : Place). comes_before at (values y) ≡ true) c.is.1 c.is.2 in
      passed_none _ (sym (at_test x) ∙ is)

  from_rest : find ties entries ≡ find ties s.rest
  from_rest = ap (λ (l : List Place). find ties l) s.split.all_is ∙ find_past ties s.front s.rest front_fails

  -- all entries come before the key
  pub none_after : s.rest ≡ [] → find ties entries ≡ None
  none_after empty = from_rest ∙ ap (λ (l : List Place). find ties l) empty

  module _ (first : Place) (later : List Place) (rest_is : s.rest ≡ first ∷ later) where
    in_rest : (x : Place) → Contains (first ∷ later) x → IsCellThat IsAtPlace (λ place. comes_before at (values place)) pages Index false x
    in_rest x h = All-contains (IsCellThat IsAtPlace (λ place. comes_before at (values place)) pages Index false) s.rest x s.split.do_not
        (subst (λ (l : List Place). Contains l x) (sym rest_is) h)

    pub first_there : Contains entries first
    first_there =
        subst (λ (l : List Place). Contains l first) (sym (s.split.all_is ∙ ap (λ (l : List Place). s.front ++ l) rest_is))
        (Contains-append_right s.front (first ∷ later) first (in_head first later))

    pub first_place : IsPlaceOf pages Index root first
    first_place = sound pages Index levels root index.tree.shape first first_there

    -- the cell that stands there has its values
    pub first_record : (cell : CellData) → IsEntryAt pages Index first cell → HasRecord pages cell (values first)
    first_record cell is =
        let at = first_place in
        let has = (index.entries at.level first.page at.reaches at.page).each first.index at.within in
        let same : has.cell ≡ cell = one_entry pages Index first has.cell cell (entry_at_place pages at.level first.page first.index has.cell at.page has.is) is in
        subst (λ (c : CellData). HasRecord pages c (values first)) same has.has

    -- what is tested of it, and of each later one
    module _ (after : IndexKey) (after_same : after.descends.now ≡ descends) (after_is : sought after ≡ record { key = key; behind = true }) where
      after_test : (x : Place) → comes_before after (values x) ≡ stands_before true (key_cmp descends key (values x))
      after_test x = cut_test after descends (record { key = key; behind = true }) after_same after_is (values x)

      -- the first that doesn't come before the key agrees with it
      pub first_ties : comes_before after (values first) ≡ true → find ties entries ≡ Some first
      first_ties is =
          let c = in_rest first (in_head first later) in
          let later_too : comes_before at (values first) ≡ false = subst (λ (y : Place). comes_before at (values y) ≡ false) c.is.1 c.is.2 in
          from_rest ∙ ap (λ (l : List Place). find ties l) rest_is
          ∙ find_here ties first later (between _ (sym (at_test first) ∙ later_too) (sym (after_test first) ∙ is))

      -- or it doesn't, and then no later one does
      pub none_ties : comes_before after (values first) ≡ false → find ties entries ≡ None
      none_ties is =
          from_rest ∙ ap (λ (l : List Place). find ties l) rest_is ∙ find_none ties (first ∷ later) (λ x h. ⊎_elim
          (λ (same : first ≡ x). subst (λ (y : Place). ties y ≡ false) same (differs first (λ tie. tie)))
          (λ (more : Contains later x). differs x (λ tie.
          let one = in_rest first (in_head first later) in
          let other = in_rest x h in
          let pairs = subst (λ (l : List Place). Pairs (KeyBefore IsAtPlace (Earlier descends values) pages Index) l) (s.split.all_is ∙ ap (λ (l : List Place). s.front ++ l) rest_is)
          (root_rises IsAtPlace (Earlier descends values) (Earlier descends values) pages Index root (entry_keys descends values pages) index.order levels index.tree.shape) in
          let less = pairs_later (KeyBefore IsAtPlace (Earlier descends values) pages Index) s.front first later pairs x more one.level other.level first x
          one.page one.within other.page other.within refl refl in
          before_too descends key (values first) (values x) true (earlier descends values first x less) tie))
          (cons_cases first x later h))
        where
          differs : (x : Place) → (stands_before true (key_cmp descends key (values x)) ≡ true → stands_before true (key_cmp descends key (values first)) ≡ true) → ties x ≡ false
          differs x up = no_tie (ties x) (λ tie.
              let yes : stands_before true (key_cmp descends key (values first)) ≡ true = up (after_tie _ tie) in
              let both : true ≡ false = sym yes ∙ sym (after_test first) ∙ is in
              cc)

-- the faults of a comparison are those of a search
pub compare_fault : (root n : ℕ) (e : Fault) → IsCompareFault n e → IsIndexFault root e
compare_fault root n ReadFailed is = tt
compare_fault root n NoMemory is = tt
compare_fault root n (BadPage m) is = tt
compare_fault root n (BadChain m) is = tt
compare_fault root n (BadRecord m) is = tt
compare_fault root n FloatValue is = tt
compare_fault root n BadText is = tt
compare_fault root n other is = absurd is
