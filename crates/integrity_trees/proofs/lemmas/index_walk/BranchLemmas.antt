-- The steps of a walk over the tree of an index.
use Rattle.std.proofs.Common.{◌≡◌, ◌≢◌, ◌⊎◌, ℕ, zero, suc, ◌+◌, ◌<◌, ◌≤◌, ◌∷◌, [], ◌++◌, Bool, List, length, length-append, append_assoc, min, nat_lt, false, Option, inl, inr, refl, sym, ◌∙◌, ap, subst, ⊎_elim, arith, add-one}
use Rattle.std.specs.List.{flat_map, range_with_len}
use Rattle.std.proofs.lemmas.Bool.{cases_lt, cond-false, cond-true, lt-ltb}
use Rattle.std.proofs.lemmas.List.{append-nil}
use Rattle.std.proofs.lemmas.List.FromFn.{length-map-range_with_len}
use Rattle.values.specs.declared.fault.Fault.{Fault}
use Rattle.values.specs.declared.fault.Fault.TheVariants.{BadDepth, BadOrder, BadPage}
use Rattle.btree.specs.declared.image.kind.TreeKind.TheVariants.{Index}
use Rattle.btree.specs.declared.image.kind.Level.TheVariants.{Leaf, Interior}
use Rattle.btree.specs.image.Broken.{IsSound}
use Rattle.btree.specs.image.Pages.{IsNumber, Pages}
use Rattle.btree.specs.image.Shape.{HasShape, IsBranch, IsFilled, most_levels, own_places, place_at, places_under}
use Rattle.btree.specs.image.Tree.{IsChild, IsPageOf, Place, Reaches, StandsAt, below, child_at, count_at, top}
use Rattle.btree.specs.image.Use.{Use, Users}
use Rattle.btree.proofs.lemmas.image.OrderLemmas.{joined}
use Rattle.btree.proofs.lemmas.image.ShapeLemmas.{not_both, one_level}
use Rattle.btree.specs.page_use.Marks.{AreTreeMarks, IsNewPlace, is_marked}
use Rattle.integrity_trees.specs.declared.tree_walk.counts.TreeCounts.{TreeCounts}
use Rattle.integrity_trees.specs.tree_walk.Cells.{IsTwiceOn, MarksCells}
use Rattle.values.specs.Bounds.{counted}
use Rattle.integrity_trees.specs.tree_walk.Counts.{AreCounts, cells_before, places_at_child, size_before}
use Rattle.integrity_trees.specs.tree_walk.Used.{IsUnderTwice}
use Rattle.integrity_trees.proofs.lemmas.tree_walk.CountLemmas.{cells_all, cells_step, size_all, size_step}
use Rattle.integrity_trees.proofs.lemmas.tree_walk.LinkLemmas.{link_within}
use Rattle.integrity_trees.proofs.lemmas.tree_walk.ShapeLemmas as shapes
use Rattle.integrity_trees.proofs.lemmas.tree_walk.UsedLemmas as walks
use Rattle.integrity_trees.specs.declared.index_walk.tree.EntryWidths.{EntryWidths}
use Rattle.integrity_trees.specs.index_walk.Broken.{BreaksIndexEntry, IsBrokenIndex, IsBrokenTree}
use Rattle.integrity_trees.specs.index_walk.Checked.{index_tree}
use Rattle.integrity_trees.specs.index_walk.Last.{IsFrom, IsIndexOrder, IsLastAt, IsLastUnder, LastData, blamed_at}
use Rattle.integrity_trees.specs.index_walk.Walked.{AreOwnWalked, IsDisordered, IsEntryCause, IsEntryStop, IsEntryTwice, IsLeafCause, IsLeafWalked, IsEntryRunFrom, IsWalkCause, IsWalked}
use Rattle.btree_cursor.proofs.lemmas.index_entries.EntryLemmas.{entry_at_place}
use Rattle.integrity_trees.proofs.lemmas.index_walk.EntryLemmas.{disordered, last_here, no_run, one_run, run_after}

-- one list more of those that are made over a run of numbers
fan_more : {X : Type 0} (f : ℕ → List X) (m i : ℕ) → flat_map f (range_with_len i (suc m)) ≡ flat_map f (range_with_len i m) ++ f (i + m)
fan_more {X = X} f zero i = append-nil (f i) ∙ ap f (omega arith)
fan_more {X = X} f (suc m) i =
    ap (λ (k : List X). f i ++ k) (fan_more f m (i + 1)) ∙ sym (append_assoc (f i) (flat_map f (range_with_len (i + 1) m)) (f ((i + 1) + m)))
    ∙ ap (λ (k : ℕ). (f i ++ flat_map f (range_with_len (i + 1) m)) ++ f k) (omega arith)

pub own_is : (pages : Pages) (n i : ℕ) → i < count_at pages n → own_places pages n i ≡ place_at n i ∷ []
own_is pages n i within = cond-true _ _ _ (lt-ltb i (count_at pages n) within)

pub own_none : (pages : Pages) (n i : ℕ) → count_at pages n ≤ i → own_places pages n i ≡ []
own_none pages n i past = cond-false _ _ _ (let e : nat_lt i (count_at pages n) ≡ false = grind arith in e)

-- where a page stands that is walked
module _ (pages : Pages) (root depth n : ℕ) (stands : StandsAt pages Index root depth n) where
  pub too_deep : most_levels < depth → IsBrokenTree pages Index root (BadDepth root)
  too_deep deep = (refl, inr (record { page = n; depth = depth; stands = stands; deep = deep }))

  pub bad_child : (i : ℕ) → IsPageOf pages Index Interior n → i ≤ count_at pages n → ¬ IsNumber pages (child_at pages n i) → IsBrokenTree pages Index root (BadPage n)
  bad_child i page within not =
      ((depth, stands), λ (sound : IsSound pages Index root n). not (sound.children (one_level pages Index sound.level Interior n sound.page page) i within))

  child_of : (i m : ℕ) → IsPageOf pages Index Interior n → i ≤ count_at pages n → m ≡ child_at pages n i → IsNumber pages m → IsChild pages Index n i m
  child_of i m page within is number = record { interior = page; within = within; is = sym is; number = number }

  pub child_stands : (i m : ℕ) → IsPageOf pages Index Interior n → i ≤ count_at pages n → m ≡ child_at pages n i → IsNumber pages m
      → StandsAt pages Index root (depth + 1) m
  child_stands i m page within is number = rw add-one (below i stands (child_of i m page within is number))

-- the root of a tree with an interior page is one
root_interior : (pages : Pages) (root : ℕ) {depth n : ℕ} → StandsAt pages Index root depth n → IsPageOf pages Index Interior n → IsPageOf pages Index Interior root
root_interior pages root top interior = interior
root_interior pages root (below i stands c) interior = root_interior pages root stands c.interior

-- a page of the tree isn't in order
bad_order : (pages : Pages) (widths : EntryWidths) (descends : List Bool) (root n : ℕ) (fault : Fault) → Reaches pages Index root n → fault ≡ BadOrder n
    → (¬ IsIndexOrder pages widths descends root n) → IsBrokenIndex pages widths descends root fault
bad_order pages widths descends root n fault reaches is not =
    subst (λ (f : Fault). IsBrokenIndex pages widths descends root f) (sym is) (inr (inr (reaches, not)))

-- what a walk found under a page is a branch below an interior page: a leaf there isn't the root, and is filled
branch_of : (pages : Pages) (root levels m : ℕ) → IsPageOf pages Index Interior root → IsNumber pages m → HasShape pages Index levels m
    → (m ≢ root → IsFilled pages levels m) → IsBranch pages Index levels m
branch_of pages root zero m interior number shape filled =
    (number, shape, filled (λ e. not_both pages Index m shape (subst (λ (x : ℕ). IsPageOf pages Index Interior x) (sym e) interior)))
branch_of pages root (suc levels) m interior number shape filled = (number, shape, tt)

-- Of an interior page n the children before child i were walked, each with the entry behind it, and this was counted.
pub record AreBranches (pages : Pages) (widths : EntryWidths) (descends : List Bool) (root n i : ℕ) (counts : TreeCounts) (old now : List Bool) (from last : LastData) : Type 0 where
  pub branches : (k : ℕ) → k < i → IsBranch pages Index counts.levels (child_at pages n k)
  pub run : IsEntryRunFrom pages widths descends (flat_map (places_at_child pages Index counts.levels n) (range_with_len 0 i)) from last
  pub none : i ≡ 0 → last ≡ from
  pub own : (k : ℕ) → i ≡ suc k → i ≤ count_at pages n → IsLastAt pages widths last Interior n k
  pub ends : count_at pages n < i → IsLastUnder pages widths last n
  pub cells_is : counts.cells ≡ counted (cells_before pages Index counts.levels n i)
  pub size_is : counts.pages ≡ counted (size_before pages counts.levels n i)
  pub marks : walks.IsPartWalked pages (index_tree root) Interior n i (min i (count_at pages n)) counts.levels old now

-- the marks of a page that a place names
abbrev MarksPage : Pages → ℕ → List Bool → List Bool → Type 0
MarksPage pages n old marked = (users : Users) (done : List Use) (place : Use) → AreTreeMarks pages users done old → IsNewPlace pages users done place n
    → AreTreeMarks pages users (done ++ place ∷ []) marked

module _ (pages : Pages) (widths : EntryWidths) (descends : List Bool) (root n : ℕ) (old marked : List Bool) (blank : is_marked old n ≡ false) (marks : MarksPage pages n old marked) where
  pub none_branched : (counts : TreeCounts) (from : LastData) → counts.cells ≡ 0 → counts.pages ≡ 1 → AreBranches pages widths descends root n 0 counts old marked from from
  none_branched counts from no_cells one_page = record {
    branches = λ k less. absurd (omega (arith, less));
    run = no_run pages widths descends from;
    none = λ e. refl;
    own = λ k e. absurd (omega (arith, e));
    ends = λ less. absurd (omega (arith, less));
    cells_is = no_cells;
    size_is = one_page;
    marks = subst (λ (c : ℕ). walks.IsPartWalked pages (index_tree root) Interior n 0 c counts.levels old marked) (omega arith)
        (walks.none_walked pages (index_tree root) Interior n counts.levels old marked blank marks);
  }

  -- a leaf
  module _ (depth : ℕ) (stands : StandsAt pages Index root depth n) (page : IsPageOf pages Index Leaf n) where
    abbrev opened : walks.IsPartWalked pages (index_tree root) Leaf n 0 0 0 old marked
    opened = record { marked = marked; blank = blank; marks = marks; part = walks.part_none pages (index_tree root) Leaf n 0 marked }

    pub leaf_walked : (count : ℕ) → count ≡ count_at pages n → count ≤ 65535 → (n ≢ root → 0 < count_at pages n) → (from last : LastData)
        → IsLeafWalked pages widths descends n from last → (new : List Bool) → MarksCells pages (index_tree root) Leaf n marked new
        → IsWalked pages widths descends root n (record { levels = 0; cells = count; pages = 1 }) old new from last
    leaf_walked count is few filled from last leaf new cells = record {
      shape = page;
      filled = filled;
      run = leaf.run;
      ends = leaf.ends;
      counts_are =
          let all : length (places_under pages Index 0 n) ≡ count_at pages n = length-map-range_with_len (place_at n) 0 (count_at pages n) in
          record { cells_is = omega (arith, is, all, few); size_is = omega arith };
      marks = walks.cells_walked pages (index_tree root) Leaf n 0 0 0 old marked opened page (depth, stands) refl new cells;
    }

    pub leaf_cause : (fault : Fault) → IsLeafCause pages widths descends root n marked fault → IsWalkCause pages widths descends root n old fault
    leaf_cause fault cause = ⊎_elim inl
        (λ why. inr (⊎_elim
        (λ (broken : BreaksIndexEntry pages widths Leaf n fault). inl (inr (inl (record { level = Leaf; n = n; reaches = (depth, stands); page = page; broken = broken }))))
        (λ other. ⊎_elim
        (λ (twice : IsTwiceOn pages (index_tree root) Leaf n marked fault).
        inr (walks.twice_under pages (index_tree root) Leaf n 0 0 0 old marked opened page (depth, stands) fault twice))
        (λ (order : (fault ≡ BadOrder n) × (¬ IsIndexOrder pages widths descends root n)). inl (bad_order pages widths descends root n fault (depth, stands) order.0 order.1))
        other)
        why))
        cause

-- a step at child i of an interior page
module _ (pages : Pages) (widths : EntryWidths) (descends : List Bool) (root depth n : ℕ) (stands : StandsAt pages Index root depth n) (page : IsPageOf pages Index Interior n)
    (i : ℕ) (counts : TreeCounts) (old now : List Bool) (from last : LastData) (befores : AreBranches pages widths descends root n i counts old now from last) where
  -- all children were walked
  pub all_walked : i ≡ count_at pages n + 1
      → IsWalked pages widths descends root n (record { levels = counts.levels + 1; cells = counts.cells; pages = counts.pages }) old now from last
  all_walked end =
      let e : counts.levels + 1 ≡ suc counts.levels = add-one counts.levels in
      subst (λ (l : ℕ). IsWalked pages widths descends root n (record { levels = l; cells = counts.cells; pages = counts.pages }) old now from last) (sym e)
      (record {
        shape = shapes.inner_shape pages Index n i counts.levels page end befores.branches;
        filled = λ other. tt;
        run = subst (λ (k : ℕ). IsEntryRunFrom pages widths descends (flat_map (places_at_child pages Index counts.levels n) (range_with_len 0 k)) from last)
            (end ∙ add-one (count_at pages n)) befores.run;
        ends = λ filled. befores.ends (omega (arith, end));
        counts_are = record {
          cells_is = befores.cells_is ∙ ap counted (cells_all pages Index n counts.levels i end);
          size_is = befores.size_is ∙ ap counted (size_all pages Index n counts.levels i end);
        };
        marks = walks.inner_walked pages (index_tree root) Interior n i (min i (count_at pages n)) counts.levels old now befores.marks page (depth, stands) refl end
            (λ users j k m names. let within = link_within pages users Index Interior n page j k m names in omega (arith, within, end));
      })

  module _ (within : i ≤ count_at pages n) (m : ℕ) (m_is : m ≡ child_at pages n i) (number : IsNumber pages m) where
    child_here : (k : ℕ) → i ≡ k → IsChild pages Index n k m
    child_here k e = subst (λ (x : ℕ). IsChild pages Index n x m) e (record { interior = page; within = within; is = sym m_is; number = number })

    -- where the walk of child i comes from
    pub child_from : IsFrom pages widths root from n → IsFrom pages widths root last m
    child_from from_is = ⊎_elim
        (λ (first : i ≡ 0). subst (λ (l : LastData). IsFrom pages widths root l m) (sym (befores.none first)) (first_from from_is))
        (λ (later : (k : ℕ) × (i ≡ suc k)).
        let k = later.0 in
        inr (n, k, befores.own k later.1 within, (depth, stands), record { head = m; is = child_here (k + 1) (later.1 ∙ sym (add-one k)); reaches = (1, top) }))
        (zero_or i)
      where
        zero_or : (i : ℕ) → (i ≡ 0) ⊎ ((k : ℕ) × (i ≡ suc k))
        zero_or zero = inl refl
        zero_or (suc k) = inr (k, refl)

        first_from : IsFrom pages widths root from n → IsFrom pages widths root from m
        first_from (inl none) = inl none
        first_from (inr (a, k, at, reaches, under)) =
            inr (a, k, at, reaches, record { head = under.head; is = under.is; reaches = (suc under.reaches.0, below i under.reaches.1 (child_here i refl)) })

    pub child_cause : (fault : Fault) → IsWalkCause pages widths descends root m now fault → IsWalkCause pages widths descends root n old fault
    child_cause fault cause = ⊎_elim inl
        (λ why. inr (⊎_elim
        (λ (broken : IsBrokenIndex pages widths descends root fault). inl broken)
        (λ (twice : IsUnderTwice pages (index_tree root) m now fault).
        inr (walks.child_twice pages (index_tree root) Interior n i (min i (count_at pages n)) counts.levels old now befores.marks page (depth, stands) refl m m_is within number fault twice))
        why))
        cause

    module _ (under : TreeCounts) (mid : List Bool) (then : LastData) (walked : IsWalked pages widths descends root m under now mid last then) where
      branch_here : IsBranch pages Index under.levels (child_at pages n i)
      branch_here = subst (λ (x : ℕ). IsBranch pages Index under.levels x) m_is
          (branch_of pages root under.levels m (root_interior pages root stands page) number walked.shape walked.filled)

      pub uneven_here : 0 < i → under.levels ≢ counts.levels → IsBrokenTree pages Index root (BadDepth root)
      uneven_here some differ = (refl, inl (shapes.uneven pages Index root depth n i counts.levels under.levels stands page within (befores.branches 0 some) branch_here differ))

      -- the last entry is under child i
      last_there : IsLastUnder pages widths then m
      last_there = walked.ends (subst (λ (x : ℕ). IsFilled pages under.levels x) (sym m_is) branch_here.2)

      reaches_here : Reaches pages Index n last_there.m
      reaches_here = joined pages Index n (below i top (child_here i refl)) last_there.reaches.1

      -- the child alone, as it was walked
      module _ (same : 0 < i → counts.levels ≡ under.levels) where
        child_marks : walks.IsPartWalked pages (index_tree root) Interior n (i + 1) i under.levels old mid
        child_marks =
            let c : min i (count_at pages n) ≡ i = omega (arith, within) in
            walks.child_walked pages (index_tree root) Interior n i i counts.levels old now
            (subst (λ (x : ℕ). walks.IsPartWalked pages (index_tree root) Interior n i x counts.levels old now) c befores.marks)
            page (depth, stands) refl m m_is within number mid under.levels same walked.marks

        -- an entry that doesn't come behind the last one under its child: that one isn't in order
        order_cause : i < count_at pages n → (fault : Fault) → fault ≡ BadOrder (blamed_at Interior n then.page) → IsDisordered pages widths descends Interior n i then
            → IsBrokenIndex pages widths descends root fault
        order_cause less fault is stop =
            let end = last_there in
            let blamed : blamed_at Interior n then.page ≡ end.m = ap (λ (p : Option ℕ). blamed_at Interior n p) end.at.page_is in
            bad_order pages widths descends root end.m fault (joined pages Index root stands reaches_here.1) (is ∙ ap BadOrder blamed)
            (λ (order : IsIndexOrder pages widths descends root end.m).
            disordered pages widths descends Interior n i then stop end.level end.m end.j end.at
            (order.most end.level n i end.j stop.values end.at.values (depth, stands) (record { head = m; is = child_here i refl; reaches = end.reaches }) less end.at.page end.at.within stop.has end.at.has))

        pub own_cause : i < count_at pages n → (fault : Fault) → IsEntryStop pages widths descends Interior n i then mid fault → IsWalkCause pages widths descends root n old fault
        own_cause less fault stop = ⊎_elim
            (λ (cause : IsEntryCause pages widths Interior n i mid fault). ⊎_elim inl
            (λ why. inr (⊎_elim
            (λ (broken : BreaksIndexEntry pages widths Interior n fault).
            inl (inr (inl (record { level = Interior; n = n; reaches = (depth, stands); page = page; broken = broken }))))
            (λ (twice : IsEntryTwice pages Interior n i mid fault).
            inr (walks.cell_twice pages (index_tree root) Interior n (i + 1) i under.levels old mid child_marks page (depth, stands) twice.cell
            (entry_at_place pages Interior n i twice.cell page twice.is) tt less fault twice.twice))
            why))
            cause)
            (λ (order : (fault ≡ BadOrder (blamed_at Interior n then.page)) × IsDisordered pages widths descends Interior n i then).
            inr (inl (order_cause less fault order.0 order.1)))
            stop

        module _ (own : ℕ) (new : List Bool) (next : LastData) (owns : AreOwnWalked pages widths descends Interior n i own mid new then next) where
          own_marks : walks.IsPartWalked pages (index_tree root) Interior n (i + 1) (min (i + 1) (count_at pages n)) under.levels old new
          own_marks = ⊎_elim
              (λ (less : i < count_at pages n).
              let read = (owns.some less).read in
              subst (λ (x : ℕ). walks.IsPartWalked pages (index_tree root) Interior n (i + 1) x under.levels old new) (omega (arith, less))
              (walks.cell_walked pages (index_tree root) Interior n (i + 1) i under.levels old mid child_marks page (depth, stands) read.cell
              (entry_at_place pages Interior n i read.cell page read.is) tt less new read.marks))
              (λ (past : count_at pages n ≤ i).
              subst (λ (l : List Bool). walks.IsPartWalked pages (index_tree root) Interior n (i + 1) (min (i + 1) (count_at pages n)) under.levels old l) (sym (owns.none past).0)
              (subst (λ (x : ℕ). walks.IsPartWalked pages (index_tree root) Interior n (i + 1) x under.levels old mid) (omega (arith, past, within)) child_marks))
              (cases_lt i (count_at pages n))

          own_run : IsEntryRunFrom pages widths descends (own_places pages n i) then next
          own_run = ⊎_elim
              (λ (less : i < count_at pages n). subst (λ (l : List Place). IsEntryRunFrom pages widths descends l then next) (sym (own_is pages n i less))
              (one_run pages widths descends Interior n i mid new then next (owns.some less) page))
              (λ (past : count_at pages n ≤ i). subst (λ (l : List Place). IsEntryRunFrom pages widths descends l then next) (sym (own_none pages n i past))
              (subst (λ (l : LastData). IsEntryRunFrom pages widths descends [] then l) (sym (owns.none past).1) (no_run pages widths descends then)))
              (cases_lt i (count_at pages n))

          at_child : IsEntryRunFrom pages widths descends (places_at_child pages Index under.levels n i) last next
          at_child = run_after pages widths descends (places_under pages Index under.levels (child_at pages n i)) (own_places pages n i) last then next
              (subst (λ (x : ℕ). IsEntryRunFrom pages widths descends (places_under pages Index under.levels x) last then) m_is walked.run) own_run

          -- before the first child no levels matter
          run_before : IsEntryRunFrom pages widths descends (flat_map (places_at_child pages Index under.levels n) (range_with_len 0 i)) from last
          run_before = go i same befores.run
            where
              go : (j : ℕ) → (0 < j → counts.levels ≡ under.levels)
                  → IsEntryRunFrom pages widths descends (flat_map (places_at_child pages Index counts.levels n) (range_with_len 0 j)) from last
                  → IsEntryRunFrom pages widths descends (flat_map (places_at_child pages Index under.levels n) (range_with_len 0 j)) from last
              go zero even run = run
              go (suc j) even run = subst (λ (l : ℕ). IsEntryRunFrom pages widths descends (flat_map (places_at_child pages Index l n) (range_with_len 0 (suc j))) from last)
                  (even (omega arith)) run

          run_more : IsEntryRunFrom pages widths descends (flat_map (places_at_child pages Index under.levels n) (range_with_len 0 (i + 1))) from next
          run_more =
              let f = places_at_child pages Index under.levels n in
              let all : flat_map f (range_with_len 0 (i + 1)) ≡ flat_map f (range_with_len 0 i) ++ f i =
              ap (λ (k : ℕ). flat_map f (range_with_len 0 k)) (add-one i) ∙ fan_more f i 0 ∙ ap (λ (k : ℕ). flat_map f (range_with_len 0 i) ++ f k) (omega arith) in
              subst (λ (l : List Place). IsEntryRunFrom pages widths descends l from next) (sym all)
              (run_after pages widths descends (flat_map f (range_with_len 0 i)) (f i) from last next run_before at_child)

          ends_more : count_at pages n < i + 1 → IsLastUnder pages widths next n
          ends_more past =
              let end = last_there in
              let done : count_at pages n ≤ i = omega (arith, past) in
              subst (λ (l : LastData). IsLastUnder pages widths l n) (sym (owns.none done).1)
              (record { level = end.level; m = end.m; j = end.j; at = end.at; reaches = reaches_here })

          own_more : (k : ℕ) → i + 1 ≡ suc k → i + 1 ≤ count_at pages n → IsLastAt pages widths next Interior n k
          own_more k e less =
              let here : i < count_at pages n = omega (arith, less) in
              let is : i ≡ k = omega (arith, e) in
              subst (λ (x : ℕ). IsLastAt pages widths next Interior n x) is
              (last_here pages widths descends Interior n i mid new then next (owns.some here) page here)

          counts_here : AreCounts pages Index under.levels (child_at pages n i) under.cells under.pages
          counts_here = subst (λ (x : ℕ). AreCounts pages Index under.levels x under.cells under.pages) m_is walked.counts_are

          with_own : counted (under.cells + own) ≡ counted (length (places_at_child pages Index under.levels n i))
          with_own =
              let a = counts_here.cells_is in
              let b = owns.own_is in
              let l = length-append (places_under pages Index under.levels (child_at pages n i)) (own_places pages n i) in
              omega (arith, a, b, l)

          pub branches_more : (cells size : ℕ) → cells ≡ counted (counts.cells + counted (under.cells + own)) → size ≡ counted (counts.pages + under.pages)
              → AreBranches pages widths descends root n (i + 1) (record { levels = under.levels; cells = cells; pages = size }) old new from next
          branches_more cells size cells_sum size_sum = record {
            branches = shapes.more_branches pages Index n i counts.levels under.levels same befores.branches branch_here;
            run = run_more;
            none = λ e. absurd (omega (arith, e));
            own = own_more;
            ends = ends_more;
            cells_is = cells_step pages Index n i counts.levels under.levels same counts.cells (counted (under.cells + own)) cells befores.cells_is with_own cells_sum;
            size_is = size_step pages Index n i counts.levels under.levels same counts.pages under.pages size befores.size_is counts_here.size_is size_sum;
            marks = own_marks;
          }
