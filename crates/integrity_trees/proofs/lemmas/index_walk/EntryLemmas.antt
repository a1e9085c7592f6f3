-- An entry that is read whole and comes behind the last one, and the entries of a page.
use Rattle.std.proofs.Common.{◌≡◌, ◌≢◌, ℕ, zero, suc, ◌+◌, ◌<◌, ◌≤◌, ◌∷◌, [], ◌++◌, Bool, List, append-nil, append_assoc, length, map, Option, None, Some, inl, inr, refl, sym, ◌∙◌, subst, ⊎_elim, arith}
use Rattle.std.specs.List.{AllZip, range_with_len}
use Rattle.std.proofs.lemmas.List.FromFn.{map-range_with_len_more}
use Rattle.values.specs.Datum.{Datum}
use Rattle.values.specs.declared.fault.Fault.{Fault}
use Rattle.values.specs.declared.fault.Fault.TheVariants.{BadOrder}
use Rattle.pager.specs.Calls.{IsReadFault}
use Rattle.records.specs.Record.{IsRecord}
use Rattle.btree.specs.declared.image.kind.TreeKind.TheVariants.{Index}
use Rattle.btree.specs.declared.image.kind.Level.{Level}
use Rattle.btree.specs.declared.image.kind.Level.TheVariants.{Leaf, Interior}
use Rattle.btree.specs.image.Cell.{CellData}
use Rattle.btree.specs.image.Chain.{HasBytes}
use Rattle.btree.specs.image.Pages.{Pages}
use Rattle.btree.specs.image.Shape.{place_at}
use Rattle.btree.specs.image.Tree.{HasEntries, IsPageOf, Place, count_at, top}
use Rattle.btree.specs.Bytes.{IsEntryCell}
use Rattle.btree.specs.ViewData.{ViewData}
use Rattle.btree_cursor.specs.index_entries.Entries.{BreaksCell, HasValues, IsViewIn}
use Rattle.btree_cursor.proofs.lemmas.index_entries.EntryLemmas.{cell_breaks, entry_at_place, entry_on, record_broken}
use Rattle.btree.specs.page_use.Links.{MarksPayload}
use Rattle.integrity_trees.specs.tree_walk.Cells.{IsTwiceOn}
use Rattle.integrity_trees.proofs.lemmas.tree_walk.UsedLemmas.{MarksPart, part_cell, payload_twice}
use Rattle.integrity_trees.specs.declared.index_walk.tree.EntryWidths.{EntryWidths}
use Rattle.integrity_trees.specs.declared.entry_prefixes.counting.Prefixes.{Prefixes}
use Rattle.integrity_trees.specs.entry_prefixes.Counting.{EndsWith, IsCounted}
use Rattle.integrity_trees.specs.index_walk.Widths.{IsOfWidth}
use Rattle.integrity_trees.specs.index_walk.Checked.{HoldsValues, index_tree}
use Rattle.integrity_trees.specs.index_walk.Last.{AscendFrom, ComesAfter, CountsRows, FollowsNot, HasLast, IsBefore, IsFrom, IsIndexOrder, IsLastAt, IsLastUnder, LastData, blamed_at, last_of}
use Rattle.integrity_trees.specs.index_walk.Walked.{BreaksWidth, IsDisordered, IsEntryCause, IsEntryRead, IsEntryStop, IsEntryTwice, IsEntryWalked, IsLeafCause, IsLeafWalked, IsRecordOf, IsEntryRunFrom}

all_entries : (level : Level) → HasEntries Index level
all_entries level = tt

module _ (pages : Pages) (n : ℕ) (view : ViewData) (of : IsViewIn pages n view) (most i : ℕ) (size : pages.size ≡ most) (cell : CellData)
    (entry : IsEntryCell view.at most view.level view.page i cell) (widths : EntryWidths) where
  pub entry_read : (bytes found : List ℕ) → HasBytes pages cell.payload bytes → found ≡ bytes → IsRecordOf widths found
      → (old new : List Bool) → MarksPayload pages cell.payload old new → IsEntryRead pages widths view.level n i bytes old new
  entry_read bytes found whole same is old new marks = record {
    cell = cell;
    is = entry_on pages n view of most i size cell entry;
    whole = whole;
    values = is.0;
    record_is = subst (λ (b : List ℕ). IsRecord b is.0) same is.1;
    width_is = is.2;
    marks = marks;
  }

  pub entry_broken : i < count_at pages n → (bytes found : List ℕ) → HasBytes pages cell.payload bytes → found ≡ bytes → (e : Fault) → BreaksWidth widths found n e
      → (marks : List Bool) → IsEntryCause pages widths view.level n i marks e
  entry_broken within bytes found whole same e (inl broken) marks = ⊎_elim
      (λ (read : IsReadFault e). inl read)
      (λ (breaks : BreaksCell pages n cell e). inr (inl (inl (cell_breaks pages view.level n i cell within (entry_on pages n view of most i size cell entry) e breaks))))
      (record_broken pages cell n bytes found whole same e broken)
  entry_broken within bytes found whole same e (inr (is, (values, record_is, other))) marks = inr (inl (inr (
    is,
    record {
      i = i;
      cell = cell;
      within = within;
      is = entry_on pages n view of most i size cell entry;
      such = (
        values,
        record { bytes = found; whole = subst (λ (b : List ℕ). HasBytes pages cell.payload b) (sym same) whole; record_is = record_is },
        other,
      );
    },
  )))

-- an entry that was read has its values
module _ (pages : Pages) (widths : EntryWidths) (level : Level) (n i : ℕ) (bytes : List ℕ) (old new : List Bool) (read : IsEntryRead pages widths level n i bytes old new) where
  pub values_of : HasValues pages level n i read.values
  values_of = record { cell = read.cell; is = read.is; has = record { bytes = bytes; whole = read.whole; record_is = read.record_is } }

  pub held_of : IsPageOf pages Index level n → HoldsValues pages widths (place_at n i) read.values
  held_of page = record { level = level; page = page; has = values_of; width_is = read.width_is }

  -- why it doesn't come behind the last one
  pub stop_of : (descends : List Bool) (last : LastData) (fault : Fault) (marks : List Bool) → FollowsNot widths descends last bytes (blamed_at level n last.page) fault
      → IsEntryStop pages widths descends level n i last marks fault
  stop_of descends last fault marks (inl memory) = inl (inl (inr memory))
  stop_of descends last fault marks (inr (is, some, not)) = inr (
    is,
    record { values = read.values; has = values_of; some = some; not = λ x record_is long. not x read.values record_is long read.record_is read.width_is },
  )

-- an entry that was walked is the last one
module _ (pages : Pages) (widths : EntryWidths) (descends : List Bool) (level : Level) (n i : ℕ) (old new : List Bool) (last next : LastData)
    (walked : IsEntryWalked pages widths descends level n i old new last next) where
  some_page : next.page ≢ None
  some_page e = let f : Some n ≡ None = sym walked.follows.page_is ∙ e in cc

  bytes_here : IsRecord next.bytes walked.read.values
  bytes_here = subst (λ (b : List ℕ). IsRecord b walked.read.values) (sym walked.follows.bytes_is) walked.read.record_is

  pub last_here : IsPageOf pages Index level n → i < count_at pages n → IsLastAt pages widths next level n i
  last_here page within = record {
    page_is = walked.follows.page_is;
    values = walked.read.values;
    record_is = bytes_here;
    width_is = walked.read.width_is;
    has = values_of pages widths level n i walked.bytes old new walked.read;
    page = page;
    within = within;
  }

  comes_after : (values : Option (List Datum)) → HasLast widths last values → ComesAfter widths descends values walked.read.values
  comes_after None has = tt
  comes_after (Some x) has = walked.follows.after x walked.read.values has.0 has.1 has.2 walked.read.record_is walked.read.width_is

  -- so that its place alone is a run
  pub one_run : IsPageOf pages Index level n → IsEntryRunFrom pages widths descends (place_at n i ∷ []) last next
  one_run page values has = record {
    rows = walked.read.values ∷ [];
    each = (held_of pages widths level n i walked.bytes old new walked.read page, tt);
    ascend = (comes_after values has, tt);
    ends = (some_page, bytes_here, walked.read.width_is);
    counts = λ few. walked.follows.counts values walked.read.values has walked.read.record_is walked.read.width_is few;
  }

-- what entries show where none was counted, and where some were counted after others
counts_none : (prefixes : Prefixes) (last : Option (List Datum)) → CountsRows prefixes prefixes last []
counts_none prefixes last = record {
  long = refl;
  counted = λ before ends are. subst (λ (l : List (List Datum)). IsCounted l prefixes) (sym (append-nil before)) are;
}

ends_after : (before : List (List Datum)) (last : Option (List Datum)) (rows : List (List Datum)) → EndsWith before last → EndsWith (before ++ rows) (last_of last rows)
ends_after before last [] ends = subst (λ (l : List (List Datum)). EndsWith l last) (sym (append-nil before)) ends
ends_after before last (x ∷ rows) ends =
    subst (λ (l : List (List Datum)). EndsWith l (last_of (Some x) rows)) (append_assoc before (x ∷ []) rows) (ends_after (before ++ x ∷ []) (Some x) rows (before, refl))

counts_after : (old mid new : Prefixes) (last : Option (List Datum)) (xs ys : List (List Datum)) → CountsRows old mid last xs → CountsRows mid new (last_of last xs) ys
    → CountsRows old new last (xs ++ ys)
counts_after old mid new last xs ys one other = record {
  long = other.long ∙ one.long;
  counted = λ before ends are.
      subst (λ (l : List (List Datum)). IsCounted l new) (append_assoc before xs ys)
      (other.counted (before ++ xs) (ends_after before last xs ends) (one.counted before ends are));
}

-- the first entry was counted, or one after the last
module _ (widths : EntryWidths) (old : LastData) (bytes : List ℕ) (new : Prefixes) (long : length new.distinct.items ≡ length old.prefixes.distinct.items) where
  pub first_next : old.page ≡ None → ((row : List Datum) → IsCounted [] old.prefixes → IsCounted (row ∷ []) new)
      → (last : Option (List Datum)) (row : List Datum) → HasLast widths old last → IsRecord bytes row → IsOfWidth widths row
      → length old.prefixes.distinct.items ≤ widths.key → CountsRows old.prefixes new last (row ∷ [])
  first_next none first None row has is wide few = record {
    long = long;
    counted = λ before ends are.
        let empty : before ≡ [] = ends in
        subst (λ (l : List (List Datum)). IsCounted (l ++ row ∷ []) new) (sym empty)
        (first row (subst (λ (l : List (List Datum)). IsCounted l old.prefixes) empty are));
  }
  first_next none first (Some x) row has is wide few = absurd (has.0 none)

  pub later_next : (old.page ≢ None)
      → ((rows : List (List Datum)) (one row : List Datum) → EndsWith rows (Some one) → IsRecord old.bytes one → IsOfWidth widths one → IsRecord bytes row
      → IsOfWidth widths row → length old.prefixes.distinct.items ≤ widths.key → IsCounted rows old.prefixes → IsCounted (rows ++ row ∷ []) new)
      → (last : Option (List Datum)) (row : List Datum) → HasLast widths old last → IsRecord bytes row → IsOfWidth widths row
      → length old.prefixes.distinct.items ≤ widths.key → CountsRows old.prefixes new last (row ∷ [])
  later_next some later None row has is wide few = absurd (some has)
  later_next some later (Some one) row has is wide few = record {
    long = long;
    counted = λ before ends are. later before one row ends has.1 has.2 is wide few are;
  }

-- one run after another
module _ (pages : Pages) (widths : EntryWidths) (descends : List Bool) where
  zip_append : (P : Place → List Datum → Type 0) (ps qs : List Place) (xs ys : List (List Datum)) → AllZip P ps xs → AllZip P qs ys → AllZip P (ps ++ qs) (xs ++ ys)
  zip_append P [] qs [] ys a b = b
  zip_append P [] qs (x ∷ xs) ys a b = absurd a
  zip_append P (p ∷ ps) qs [] ys a b = absurd a
  zip_append P (p ∷ ps) qs (x ∷ xs) ys a b = (a.0, zip_append P ps qs xs ys a.1 b)

  last_append : (v : Option (List Datum)) (xs ys : List (List Datum)) → last_of v (xs ++ ys) ≡ last_of (last_of v xs) ys
  last_append v [] ys = refl
  last_append v (x ∷ xs) ys = last_append (Some x) xs ys

  ascend_append : (v : Option (List Datum)) (xs ys : List (List Datum)) → AscendFrom widths descends v xs → AscendFrom widths descends (last_of v xs) ys → AscendFrom widths descends v (xs ++ ys)
  ascend_append v [] ys a b = b
  ascend_append v (x ∷ xs) ys a b = (a.0, ascend_append (Some x) xs ys a.1 b)

  pub no_run : (last : LastData) → IsEntryRunFrom pages widths descends [] last last
  no_run last values has = record { rows = []; each = tt; ascend = tt; ends = has; counts = λ few. counts_none last.prefixes values }

  pub run_after : (ps qs : List Place) (last mid next : LastData) → IsEntryRunFrom pages widths descends ps last mid → IsEntryRunFrom pages widths descends qs mid next
      → IsEntryRunFrom pages widths descends (ps ++ qs) last next
  run_after ps qs last mid next one other values has =
      let first = one values has in
      let second = other (last_of values first.rows) first.ends in
      record {
        rows = first.rows ++ second.rows;
        each = zip_append (HoldsValues pages widths) ps qs first.rows second.rows first.each second.each;
        ascend = ascend_append values first.rows second.rows first.ascend second.ascend;
        ends = subst (λ (v : Option (List Datum)). HasLast widths next v) (sym (last_append values first.rows second.rows)) second.ends;
        counts = λ few.
            let counted = first.counts few in
            let long = counted.long in
            counts_after last.prefixes mid.prefixes next.prefixes values first.rows second.rows counted (second.counts (omega (arith, few, long)));
      }

-- one entry more of a leaf
pub leaf_more : (pages : Pages) (widths : EntryWidths) (descends : List Bool) (n i : ℕ) (last mid next : LastData)
    → IsEntryRunFrom pages widths descends (map (place_at n) (range_with_len 0 i)) last mid → IsEntryRunFrom pages widths descends (place_at n i ∷ []) mid next
    → IsEntryRunFrom pages widths descends (map (place_at n) (range_with_len 0 (i + 1))) last next
leaf_more pages widths descends n i last mid next before here =
    subst (λ (ps : List Place). IsEntryRunFrom pages widths descends ps last next) (sym (map-range_with_len_more (place_at n) 0 i i (omega arith)))
    (run_after pages widths descends (map (place_at n) (range_with_len 0 i)) (place_at n i ∷ []) last mid next before here)

-- the page that a fault of an entry names is used twice by its page, where the entries before it were gone through
pub entry_twice : (pages : Pages) (root : ℕ) (level : Level) (n i : ℕ) (marked now : List Bool) → IsPageOf pages Index level n → i < count_at pages n
    → MarksPart pages (index_tree root) level n 0 i 0 marked now → (fault : Fault) → IsEntryTwice pages level n i now fault
    → IsTwiceOn pages (index_tree root) level n marked fault
entry_twice pages root level n i marked now page within part fault twice =
    payload_twice pages (index_tree root) level n 0 i 0 marked now part twice.cell (entry_at_place pages level n i twice.cell page twice.is) (all_entries level) within fault twice.twice

-- one entry more
pub part_more : (pages : Pages) (widths : EntryWidths) (root : ℕ) (level : Level) (n i : ℕ) (bytes : List ℕ) (marked now later : List Bool) → IsPageOf pages Index level n → i < count_at pages n
    → MarksPart pages (index_tree root) level n 0 i 0 marked now → IsEntryRead pages widths level n i bytes now later
    → MarksPart pages (index_tree root) level n 0 (i + 1) 0 marked later
part_more pages widths root level n i bytes marked now later page within part read =
    part_cell pages (index_tree root) level n 0 i 0 marked now part read.cell (entry_at_place pages level n i read.cell page read.is) (all_entries level) within later read.marks

-- what a last entry that bounds another one says of the order of a page
module _ (pages : Pages) (widths : EntryWidths) (descends : List Bool) (level : Level) (n i : ℕ) (last : LastData) (stop : IsDisordered pages widths descends level n i last) where
  pub disordered : (other : Level) (m j : ℕ) (at : IsLastAt pages widths last other m j) → (IsBefore widths descends at.values stop.values) → ⊥
  disordered other m j at before = stop.not at.values at.record_is at.width_is before

-- what the walk of a leaf knows of the last entry before entry i
abbrev pub IsLastBefore : Pages → EntryWidths → ℕ → ℕ → LastData → LastData → Type 0
IsLastBefore pages widths n zero from last = last ≡ from
IsLastBefore pages widths n (suc i) from last = IsLastAt pages widths last Leaf n i

-- a leaf's entry that doesn't come behind the last one isn't in order
pub leaf_disordered : (pages : Pages) (widths : EntryWidths) (descends : List Bool) (root n i : ℕ) (from last : LastData) → IsPageOf pages Index Leaf n → i < count_at pages n
    → IsFrom pages widths root from n → IsLastBefore pages widths n i from last → IsDisordered pages widths descends Leaf n i last
    → ¬ IsIndexOrder pages widths descends root n
leaf_disordered pages widths descends root n zero from last page within (inl none) before stop order =
    stop.some (subst (λ (l : LastData). l.page ≡ None) (sym before) none)
leaf_disordered pages widths descends root n zero from last page within (inr (a, k, at, reaches, under)) before stop order =
    let here = subst (λ (l : LastData). IsDisordered pages widths descends Leaf n 0 l) before stop in
    disordered pages widths descends Leaf n 0 from here Interior a k at
    (order.above Leaf a k 0 at.values here.values reaches under page within at.has here.has)
leaf_disordered pages widths descends root n (suc i) from last page within from_is at stop order =
    disordered pages widths descends Leaf n (suc i) last stop Leaf n i at (order.ascends Leaf i (suc i) at.values stop.values page (omega arith) within at.has stop.has)

-- why the walk of a leaf stops at an entry
pub leaf_stop : (pages : Pages) (widths : EntryWidths) (descends : List Bool) (root n i : ℕ) (from last : LastData) (marked now : List Bool) → IsPageOf pages Index Leaf n → i < count_at pages n
    → IsFrom pages widths root from n → IsLastBefore pages widths n i from last → MarksPart pages (index_tree root) Leaf n 0 i 0 marked now
    → (fault : Fault) → IsEntryStop pages widths descends Leaf n i last now fault → IsLeafCause pages widths descends root n marked fault
leaf_stop pages widths descends root n i from last marked now page within from_is before part fault stop = ⊎_elim
    (λ (cause : IsEntryCause pages widths Leaf n i now fault). ⊎_elim inl
    (λ why. inr (⊎_elim inl
    (λ (twice : IsEntryTwice pages Leaf n i now fault). inr (inl (entry_twice pages root Leaf n i marked now page within part fault twice)))
    why))
    cause)
    (λ (other : (fault ≡ BadOrder n) × IsDisordered pages widths descends Leaf n i last).
    inr (inr (inr (other.0, leaf_disordered pages widths descends root n i from last page within from_is before other.1))))
    stop

-- all entries of a leaf were walked
pub leaf_ends : (pages : Pages) (widths : EntryWidths) (descends : List Bool) (n i : ℕ) (from last : LastData) → i ≡ count_at pages n
    → IsEntryRunFrom pages widths descends (map (place_at n) (range_with_len 0 i)) from last → IsLastBefore pages widths n i from last
    → IsLeafWalked pages widths descends n from last
leaf_ends pages widths descends n i from last end run before = record {
  run = subst (λ (k : ℕ). IsEntryRunFrom pages widths descends (map (place_at n) (range_with_len 0 k)) from last) end run;
  ends = λ some. last_under i (omega (arith, some, end)) before;
}
  where
    last_under : (i : ℕ) → 0 < i → IsLastBefore pages widths n i from last → IsLastUnder pages widths last n
    last_under zero some at = absurd (omega (arith, some))
    last_under (suc j) some at = record { level = Leaf; m = n; j = j; at = at; reaches = (1, top) }
