-- Where the entries of a tree ascend from left to right, each of its pages is in order.
use Rattle.std.proofs.Common.{◌≡◌, ℕ, zero, suc, ◌+◌, ◌<◌, ◌≤◌, ◌⊎◌, ◌∷◌, [], ◌++◌, All, Bool, Contains, List, None, Option, Some, map, sym, subst, inl, inr, ⊎_elim, arith}
use Rattle.std.specs.List.{AllZip, flat_map, range_with_len}
use Rattle.std.proofs.lemmas.Bool.{cases_lt}
use Rattle.std.proofs.lemmas.List.Elements.{All-cons, All-nil, Contains-append_left, Contains-append_right}
use Rattle.values.specs.Datum.{Datum}
use Rattle.btree.specs.declared.image.kind.TreeKind.TheVariants.{Index}
use Rattle.btree.specs.declared.image.kind.Level.{Level}
use Rattle.btree.specs.declared.image.kind.Level.TheVariants.{Interior}
use Rattle.btree.specs.image.Cell.{CellData}
use Rattle.btree.specs.image.Pages.{Pages}
use Rattle.btree.specs.image.Shape.{HasShape, most_levels, own_places, place_at, places_under}
use Rattle.btree.specs.image.Tree.{IsChild, IsPageOf, IsUnder, Place, Reaches, StandsAt, below, child_at, count_at, top}
use Rattle.btree.proofs.lemmas.image.ListLemmas.{Pairs, cons_cases, in_head, to_fan, to_map}
use Rattle.btree.proofs.lemmas.image.PlaceLemmas.{complete}
use Rattle.btree.proofs.lemmas.image.ShapeLemmas.{not_both}
use Rattle.records.specs.Record.{IsRecord}
use Rattle.records.proofs.RecordLemmas.{one_record}
use Rattle.btree.proofs.lemmas.image.ChainLemmas.{one_payload}
use Rattle.btree_cursor.proofs.lemmas.key_ranges.RunLemmas.{key_after}
use Rattle.btree_cursor.specs.index_entries.Entries.{HasRecord, HasValues}
use Rattle.integrity_trees.specs.declared.tree_walk.counts.TreeCounts.{TreeCounts}
use Rattle.integrity_trees.specs.tree_walk.Counts.{places_at_child}
use Rattle.integrity_trees.proofs.lemmas.tree_walk.ShapeLemmas.{sound_of_shape}
use Rattle.btree.proofs.KindLemmas.{one_entry}
use Rattle.integrity_trees.specs.declared.index_walk.tree.EntryWidths.{EntryWidths}
use Rattle.integrity_trees.specs.index_walk.Checked.{HoldsEntry, HoldsValues, IsCheckedIndex}
use Rattle.integrity_trees.specs.index_walk.Widths.{key_of}
use Rattle.integrity_trees.specs.index_walk.Last.{AscendFrom, HasLast, IsBefore, IsIndexOrder, LastData}
use Rattle.integrity_trees.specs.index_walk.Walked.{IsWalked}
use Rattle.integrity_trees.proofs.lemmas.index_walk.BranchLemmas.{own_is}
use Rattle.btree_cursor.proofs.lemmas.index_entries.EntryLemmas.{entry_at_place}

same_or : (i j : ℕ) → i ≤ j → (i ≡ j) ⊎ (i < j)
same_or i j least = ⊎_elim (λ (less : i < j). inr less) (λ (most : j ≤ i). inl (omega (arith, least, most))) (cases_lt i j)

-- ---- pairs of a list of lists

module _ {X : Type 0} (R : X → X → Type 0) where
  pairs_left : (xs ys : List X) → Pairs R (xs ++ ys) → Pairs R xs
  pairs_left [] ys pairs = tt
  pairs_left (x ∷ xs) ys pairs = (λ y h. pairs.0 y (Contains-append_left xs ys y h), pairs_left xs ys pairs.1)

  pairs_right : (xs ys : List X) → Pairs R (xs ++ ys) → Pairs R ys
  pairs_right [] ys pairs = pairs
  pairs_right (x ∷ xs) ys pairs = pairs_right xs ys pairs.1

  pairs_across : (xs ys : List X) → Pairs R (xs ++ ys) → (x y : X) → Contains xs x → Contains ys y → R x y
  pairs_across [] ys pairs x y in_x in_y = absurd (omega (arith, in_x.1))
  pairs_across (z ∷ xs) ys pairs x y in_x in_y = ⊎_elim
      (λ (e : z ≡ x). subst (λ (w : X). R w y) e (pairs.0 y (Contains-append_right xs ys y in_y)))
      (λ (h : Contains xs x). pairs_across xs ys pairs.1 x y h in_y)
      (cons_cases z x xs in_x)

  -- one of the lists that are made over a run of numbers
  fan_one : (f : ℕ → List X) (m i j : ℕ) → i ≤ j → j < i + m → Pairs R (flat_map f (range_with_len i m)) → Pairs R (f j)
  fan_one f zero i j least most pairs = absurd (omega (arith, least, most))
  fan_one f (suc m) i j least most pairs = ⊎_elim
      (λ (e : i ≡ j). subst (λ (k : ℕ). Pairs R (f k)) e (pairs_left (f i) (flat_map f (range_with_len (i + 1) m)) pairs))
      (λ (more : i < j). fan_one f m (i + 1) j (omega (arith, more)) (omega (arith, most)) (pairs_right (f i) (flat_map f (range_with_len (i + 1) m)) pairs))
      (same_or i j least)

  fan_across : (f : ℕ → List X) (m i j k : ℕ) → i ≤ j → j < k → k < i + m → Pairs R (flat_map f (range_with_len i m)) → (x y : X) → Contains (f j) x → Contains (f k) y → R x y
  fan_across f zero i j k least less most pairs x y in_x in_y = absurd (omega (arith, least, less, most))
  fan_across f (suc m) i j k least less most pairs x y in_x in_y = ⊎_elim
      (λ (e : i ≡ j). pairs_across (f i) (flat_map f (range_with_len (i + 1) m)) pairs x y (subst (λ (l : ℕ). Contains (f l) x) (sym e) in_x)
      (to_fan f y m (i + 1) k (omega (arith, e, less)) (omega (arith, most)) in_y))
      (λ (more : i < j). fan_across f m (i + 1) j k (omega (arith, more)) less (omega (arith, most)) (pairs_right (f i) (flat_map f (range_with_len (i + 1) m)) pairs) x y in_x in_y)
      (same_or i j least)

  map_across : (f : ℕ → X) (m i j k : ℕ) → i ≤ j → j < k → k < i + m → Pairs R (map f (range_with_len i m)) → R (f j) (f k)
  map_across f zero i j k least less most pairs = absurd (omega (arith, least, less, most))
  map_across f (suc m) i j k least less most pairs = ⊎_elim
      (λ (e : i ≡ j). subst (λ (l : ℕ). R (f l) (f k)) e (pairs.0 (f k) (to_map f m (i + 1) k (omega (arith, e, less)) (omega (arith, most)))))
      (λ (more : i < j). map_across f m (i + 1) j k (omega (arith, more)) less (omega (arith, most)) pairs.1)
      (same_or i j least)

-- ---- the values of places

module _ (pages : Pages) (widths : EntryWidths) where
  -- a place has one list of values
  same_values : (place : Place) (v a : List Datum) → HoldsValues pages widths place v → (level : Level) → IsPageOf pages Index level place.page
      → HasValues pages level place.page place.index a → v ≡ a
  same_values place v a held level page has =
      let same : held.has.cell ≡ has.cell = one_entry pages Index place held.has.cell has.cell
      (entry_at_place pages held.level place.page place.index held.has.cell held.page held.has.is) (entry_at_place pages level place.page place.index has.cell page has.is) in
      let there = subst (λ (c : CellData). HasRecord pages c v) same held.has.has in
      let bytes = one_payload pages has.cell.payload there.bytes has.has.bytes there.whole has.has.whole in
      one_record has.has.bytes v a (subst (λ (b : List ℕ). IsRecord b v) bytes there.record_is) has.has.record_is

  pub all_held : (places : List Place) (rows : List (List Datum)) → AllZip (HoldsValues pages widths) places rows → All (HoldsEntry pages widths) places
  all_held [] [] each = All-nil (HoldsEntry pages widths)
  all_held [] (r ∷ rows) each = absurd each
  all_held (p ∷ places) [] each = absurd each
  all_held (p ∷ places) (r ∷ rows) each = All-cons (HoldsEntry pages widths) p places (r, each.0) (all_held places rows each.1)

  module _ (descends : List Bool) where
    -- the entry at one place comes before that at another
    abbrev PlaceBefore : Place → Place → Type 0
    PlaceBefore x y = (level other : Level) (a b : List Datum) → IsPageOf pages Index level x.page → IsPageOf pages Index other y.page
        → HasValues pages level x.page x.index a → HasValues pages other y.page y.index b → IsBefore widths descends a b

    each_after : (x : List Datum) (places : List Place) (rows : List (List Datum)) → AllZip (HoldsValues pages widths) places rows → AscendFrom widths descends (Some x) rows
        → (y : Place) → Contains places y → (b : List Datum) × HoldsValues pages widths y b × IsBefore widths descends x b
    each_after x [] [] each ascend y h = absurd (omega (arith, h.1))
    each_after x [] (r ∷ rows) each ascend y h = absurd each
    each_after x (p ∷ places) [] each ascend y h = absurd each
    each_after x (p ∷ places) (r ∷ rows) each ascend y h = ⊎_elim
        (λ (e : p ≡ y). (r, subst (λ (q : Place). HoldsValues pages widths q r) e each.0, ascend.0))
        (λ (later : Contains places y). let t = each_after r places rows each.1 ascend.1 y later in (t.0, t.1, key_after descends (key_of widths x) (key_of widths r) (key_of widths t.0) ascend.0 t.2))
        (cons_cases p y places h)

    pub pairs_of_run : (last : Option (List Datum)) (places : List Place) (rows : List (List Datum)) → AllZip (HoldsValues pages widths) places rows → AscendFrom widths descends last rows
        → Pairs PlaceBefore places
    pairs_of_run last [] [] each ascend = tt
    pairs_of_run last [] (r ∷ rows) each ascend = absurd each
    pairs_of_run last (p ∷ places) [] each ascend = absurd each
    pairs_of_run last (p ∷ places) (r ∷ rows) each ascend = (
      λ y h level other a b page_a page_b has_a has_b.
          let t = each_after r places rows each.1 ascend.1 y h in
          subst (λ (v : List Datum). IsBefore widths descends v b) (same_values p r a each.0 level page_a has_a)
          (subst (λ (v : List Datum). IsBefore widths descends r v) (same_values y t.0 b t.1 other page_b has_b) t.2),
      pairs_of_run (Some r) places rows each.1 ascend.1,
    )

    -- ---- pages

    abbrev fan : ℕ → ℕ → ℕ → List Place
    fan height n i = places_at_child pages Index height n i

    record IsSorted (n : ℕ) : Type 0 where
      height : ℕ
      shape : HasShape pages Index height n
      pairs : Pairs PlaceBefore (places_under pages Index height n)

    sorted_child : (n i m height : ℕ) → HasShape pages Index height n → Pairs PlaceBefore (places_under pages Index height n) → IsChild pages Index n i m → IsSorted m
    sorted_child n i m zero shape pairs c = absurd (not_both pages Index n shape c.interior)
    sorted_child n i m (suc height) shape pairs c =
        let within = c.within in
        let here = fan_one PlaceBefore (fan height n) (suc (count_at pages n)) 0 i (omega arith) (omega (arith, within)) pairs in
        record {
          height = height;
          shape = subst (λ (x : ℕ). HasShape pages Index height x) c.is (shape.1 i c.within).1;
          pairs = subst (λ (x : ℕ). Pairs PlaceBefore (places_under pages Index height x)) c.is
              (pairs_left PlaceBefore (places_under pages Index height (child_at pages n i)) (own_places pages n i) here);
        }

    sorted_at : (levels root : ℕ) → HasShape pages Index levels root → Pairs PlaceBefore (places_under pages Index levels root)
        → {depth n : ℕ} → StandsAt pages Index root depth n → IsSorted n
    sorted_at levels root shape pairs top = record { height = levels; shape = shape; pairs = pairs }
    sorted_at levels root shape pairs (below {depth} {n} {m} i stands c) =
        let up = sorted_at levels root shape pairs stands in sorted_child n i m up.height up.shape up.pairs c

    in_own : (height n i : ℕ) → i < count_at pages n → Contains (own_places pages n i) (place_at n i)
    in_own height n i within = subst (λ (l : List Place). Contains l (place_at n i)) (sym (own_is pages n i within)) (in_head (place_at n i) [])

    own_in_fan : (height n i : ℕ) → i < count_at pages n → Contains (fan height n i) (place_at n i)
    own_in_fan height n i within =
        Contains-append_right (places_under pages Index height (child_at pages n i)) (own_places pages n i) (place_at n i) (in_own height n i within)

    -- an entry under a child
    under_child : (height a i n j : ℕ) (level : Level) → HasShape pages Index (suc height) a → IsUnder pages Index a i n → IsPageOf pages Index level n → j < count_at pages n
        → Contains (places_under pages Index height (child_at pages a i)) (place_at n j)
    under_child height a i n j level shape under page within =
        complete pages Index height (child_at pages a i) (shape.1 i under.is.within).1 (place_at n j)
        (record { level = level; entries = tt; reaches = subst (λ (x : ℕ). Reaches pages Index x n) (sym under.is.is) under.reaches; page = page; within = within })

    on_page : (height n : ℕ) → HasShape pages Index height n → Pairs PlaceBefore (places_under pages Index height n) → (i j : ℕ) → i < j → j < count_at pages n
        → PlaceBefore (place_at n i) (place_at n j)
    on_page zero n shape pairs i j less within = map_across PlaceBefore (place_at n) (count_at pages n) 0 i j (omega arith) less (omega (arith, within)) pairs
    on_page (suc height) n shape pairs i j less within =
        fan_across PlaceBefore (fan height n) (suc (count_at pages n)) 0 i j (omega arith) less (omega (arith, within)) pairs (place_at n i) (place_at n j)
        (own_in_fan height n i (omega (arith, less, within))) (own_in_fan height n j within)

    at_most : (height a i n j : ℕ) (level : Level) → HasShape pages Index height a → Pairs PlaceBefore (places_under pages Index height a) → IsUnder pages Index a i n
        → i < count_at pages a → IsPageOf pages Index level n → j < count_at pages n → PlaceBefore (place_at n j) (place_at a i)
    at_most zero a i n j level shape pairs under inside page within = absurd (not_both pages Index a shape under.is.interior)
    at_most (suc height) a i n j level shape pairs under inside page within =
        pairs_across PlaceBefore (places_under pages Index height (child_at pages a i)) (own_places pages a i)
        (fan_one PlaceBefore (fan height a) (suc (count_at pages a)) 0 i (omega arith) (omega (arith, inside)) pairs) (place_at n j) (place_at a i)
        (under_child height a i n j level shape under page within) (in_own height a i inside)

    is_above : (height a i n j : ℕ) (level : Level) → HasShape pages Index height a → Pairs PlaceBefore (places_under pages Index height a) → IsUnder pages Index a (i + 1) n
        → IsPageOf pages Index level n → j < count_at pages n → PlaceBefore (place_at a i) (place_at n j)
    is_above zero a i n j level shape pairs under page within = absurd (not_both pages Index a shape under.is.interior)
    is_above (suc height) a i n j level shape pairs under page within =
        let last : i + 1 ≤ count_at pages a = under.is.within in
        fan_across PlaceBefore (fan height a) (suc (count_at pages a)) 0 i (i + 1) (omega arith) (omega arith) (omega (arith, last)) pairs (place_at a i) (place_at n j)
        (own_in_fan height a i (omega (arith, last)))
        (Contains-append_left (places_under pages Index height (child_at pages a (i + 1))) (own_places pages a (i + 1)) (place_at n j)
        (under_child height a (i + 1) n j level shape under page within))

    pub in_order : (levels root : ℕ) → HasShape pages Index levels root → Pairs PlaceBefore (places_under pages Index levels root)
        → (n : ℕ) → Reaches pages Index root n → IsIndexOrder pages widths descends root n
    in_order levels root shape pairs n reaches = record {
      ascends = λ level i j x y page less within hx hy.
          let here = sorted_at levels root shape pairs reaches.1 in
          on_page here.height n here.shape here.pairs i j less within level level x y page page hx hy;
      most = λ level a i j x y up under inside page within hx hy.
          let here = sorted_at levels root shape pairs up.1 in
          at_most here.height a i n j level here.shape here.pairs under inside page within level Interior y x page under.is.interior hy hx;
      above = λ level a i j x y up under page within hx hy.
          let here = sorted_at levels root shape pairs up.1 in
          is_above here.height a i n j level here.shape here.pairs under page within Interior level x y under.is.interior page hx hy;
    }

-- the tree of an index that was walked from its root down, from before its first entry on
pub checked_index : (pages : Pages) (widths : EntryWidths) (descends : List Bool) (root : ℕ) (counts : TreeCounts) (old new : List Bool) (last next : LastData)
    → counts.levels < most_levels → HasLast widths last None → IsWalked pages widths descends root root counts old new last next
    → IsCheckedIndex pages widths descends root counts
checked_index pages widths descends root counts old new last next few none walked =
    let run = walked.run None none in
    record {
      few = few;
      sound = sound_of_shape pages Index counts.levels root few walked.shape;
      shape = walked.shape;
      entries = all_held pages widths (places_under pages Index counts.levels root) run.rows run.each;
      order = in_order pages widths descends counts.levels root walked.shape
          (pairs_of_run pages widths descends None (places_under pages Index counts.levels root) run.rows run.each run.ascend);
      counts_are = walked.counts_are;
    }
