-- A search on its way down: the cells that were left behind come before what is sought, and those after the page don't.
use Rattle.std.proofs.Common.{◌≡◌, ℕ, zero, suc, ◌+◌, ◌-◌, ◌<◌, ◌≤◌, Bool, true, false, Contains, List, [], ◌∷◌, ◌++◌, refl, sym, ◌∙◌, ap, subst, append_assoc, ⊎_elim, arith}
use Rattle.std.specs.List.{range_with_len, flat_map}
use Rattle.std.proofs.lemmas.List.Elements.{Contains-append_cases}
use Rattle.btree.specs.declared.image.kind.TreeKind.{TreeKind}
use Rattle.btree.specs.declared.image.kind.TreeKind.TheVariants.{Table, Index}
use Rattle.btree.specs.declared.image.kind.Level.{Level}
use Rattle.btree.specs.declared.image.kind.Level.TheVariants.{Interior}
use Rattle.btree.specs.image.Pages.{Pages}
use Rattle.btree.specs.image.Tree.{Place, HasEntries, IsPageOf, StandsAt, below, Reaches, count_at, child_at}
use Rattle.btree.specs.image.Shape.{HasShape, places_under, size_under, own_places, with_own}
use Rattle.btree.specs.image.Broken.{IsInOrder}
use Rattle.btree.specs.image.Search.{IsCellThat, IsBoundary, IsCut}
use Rattle.btree.proofs.lemmas.image.ListLemmas.{in_none, from_fan}
use Rattle.btree.proofs.lemmas.image.ShapeLemmas.{shape_child}
use Rattle.btree.proofs.lemmas.image.PlaceLemmas.{branch, from_own, with_own_cases}
use Rattle.btree.proofs.lemmas.image.OrderLemmas.{AreKeys}
use Rattle.btree.proofs.lemmas.image.SearchLemmas.{own_behind, under_before, under_behind, under_here}
use Rattle.btree_cursor.specs.declared.cursor.cursor.Frame.{Frame}
use Rattle.btree_cursor.specs.cursor.Rest.{places_from, places_after, size_from, Holds, IsStep, IsLeft, HasCellsFrom}
use Rattle.btree_cursor.proofs.lemmas.cursor.RestLemmas.{not_both, size_step, size_all, places_all, down_to}

-- a table's interior pages have no cell of their own
in_table : (kind : TreeKind) (under own : List Place) (x : Place) → kind ≡ Table → Contains (with_own kind under own) x → Contains under x
in_table Table under own x is h = h
in_table Index under own x is h = absurd cc

module _ (pages : Pages) (kind : TreeKind) (height n : ℕ) where
  -- the cells under the children before child p, and of the page's own
  abbrev pub skipped : ℕ → List Place
  skipped zero = []
  skipped (suc p) = skipped p ++ branch pages kind height n p

  from_step : (p : ℕ) → p ≤ count_at pages n → places_from pages kind height n p ≡ branch pages kind height n p ++ places_from pages kind height n (suc p)
  from_step p within =
      let a : suc (count_at pages n) - p ≡ suc (count_at pages n - p) = omega arith in
      let b : suc (count_at pages n) - suc p ≡ count_at pages n - p = omega arith in
      let c : p + 1 ≡ suc p = omega arith in
      rw (a, b) (ap (λ (k : ℕ). branch pages kind height n p ++ flat_map (branch pages kind height n) (range_with_len k (count_at pages n - p))) c)

  skipped_then : (p : ℕ) → p ≤ count_at pages n → places_from pages kind height n 0 ≡ skipped p ++ places_from pages kind height n p
  skipped_then zero within = refl
  skipped_then (suc p) within =
      skipped_then p (omega arith) ∙ ap (λ x. skipped p ++ x) (from_step p (omega arith))
      ∙ sym (append_assoc (skipped p) (branch pages kind height n p) (places_from pages kind height n (suc p)))

  in_skipped : (p : ℕ) (x : Place) → Contains (skipped p) x → (i : ℕ) × (i < p) × Contains (branch pages kind height n i) x
  in_skipped zero x h = absurd (in_none x h)
  in_skipped (suc p) x h = ⊎_elim
      (λ (a : Contains (skipped p) x). let r = in_skipped p x a in (r.0, omega (arith, r.1), r.2))
      (λ (b : Contains (branch pages kind height n p) x). (p, omega arith, b))
      (Contains-append_cases (skipped p) (branch pages kind height n p) x h)

  size_less : (p : ℕ) → p ≤ count_at pages n → size_from pages height n p ≤ size_from pages height n 0
  size_less zero within = omega arith
  size_less (suc p) within =
      let here = size_less p (omega arith) in
      let c : size_from pages height n (p + 1) ≡ size_from pages height n (suc p) = ap (λ (k : ℕ). size_from pages height n k) (let e : p + 1 ≡ suc p = omega arith in e) in
      omega (arith, here, c, size_step pages kind height n p (omega arith))

module _ {K : Type 0} (HasKey : Level → ℕ → ℕ → K → Type 0) (IsBefore IsAtMost : K → K → Type 0) (pages : Pages) (kind : TreeKind) (root : ℕ)
    (keys : AreKeys HasKey IsBefore IsAtMost pages kind) (one : (level : Level) (n i : ℕ) (a b : K) → HasKey level n i a → HasKey level n i b → a ≡ b)
    (order : (n : ℕ) → Reaches pages kind root n → IsInOrder HasKey IsBefore IsAtMost pages kind root n)
    (before : K → Bool) (cut : IsCut IsBefore IsAtMost before) (total : ℕ) (all : List Place) where
  abbrev CellThat : Bool → Place → Type 0
  CellThat = IsCellThat HasKey before pages kind

  -- the first cell that doesn't come before what is sought, wherever it stands
  pub record IsNext (place : Place) : Type 0 where
    pub is : CellThat false place
    pub first : (y : K) → IsBefore y is.is.0 → before y ≡ true

  -- a search that asks for page n next
  pub record IsSeeking (frames : List Frame) (n : ℕ) (asked budget : ℕ) : Type 0 where
    pub depth : ℕ
    pub stands : StandsAt pages kind root depth n
    pub front : List Place
    pub places : List Place
    pub all_is : all ≡ front ++ places
    pub come_before : (x : Place) → Contains front x → CellThat true x
    pub heading : HasCellsFrom pages kind total frames n places asked budget
    pub do_not : (x : Place) → Contains heading.rest x → CellThat false x
    pub found : kind ≡ Table → (x : Place) → IsNext x → Contains all x → Contains (places_under pages kind heading.levels n) x

  module _ (frames : List Frame) (frame : Frame) (asked now budget : ℕ) (page : IsPageOf pages kind Interior frame.number) (holds : Holds pages frame) (level : frame.level ≡ Interior)
      (b : IsBoundary HasKey before pages kind Interior frame.number frame.at) (more : now ≤ asked + 1) where
    down_from : (height depth : ℕ) (front places rest : List Place) → StandsAt pages kind root depth frame.number → HasShape pages kind height frame.number
        → IsLeft pages kind total height frames rest (asked + size_under pages height frame.number) budget → places ≡ places_under pages kind height frame.number ++ rest
        → all ≡ front ++ places → ((x : Place) → Contains front x → CellThat true x) → ((x : Place) → Contains rest x → CellThat false x)
        → (kind ≡ Table → (x : Place) → IsNext x → Contains all x → Contains (places_under pages kind height frame.number) x)
        → IsSeeking (frames ++ frame ∷ []) (child_at pages frame.number frame.at) now budget
    unfolding down_to
    down_from zero depth front places rest stands shape left places_is all_is come not found = absurd (not_both pages kind frame.number shape page)
    down_from (suc height) depth front places rest stands shape left places_is all_is come not found =
        let n = frame.number in
        let p = frame.at in
        let within : p ≤ count_at pages n = b.within in
        let asks : (asked + size_under pages (suc height) n) + left.ahead ≤ budget = left.asks in
        let less : IsLeft pages kind total (suc height) frames rest ((asked + 1) + size_from pages height n p) budget =
        record { shallow = left.shallow; ahead = left.ahead; stack = left.stack; asks = omega (arith, size_all pages kind total height n, size_less pages kind height n p within) } in
        let step : IsStep pages kind height frame = record { holds = holds; level = level; page = page; within = within; children = shape.1 } in
        let skip = skipped pages kind height n p in
        let later = places_from pages kind height n p in
        record {
          depth = suc depth;
          stands = below p stands (shape_child pages kind height n p shape within);
          front = front ++ skip;
          places = later ++ rest;
          all_is =
              all_is ∙ ap (λ x. front ++ x) (places_is ∙ ap (λ x. x ++ rest) (places_all pages kind total height n ∙ skipped_then pages kind height n p within)
              ∙ append_assoc skip later rest) ∙ sym (append_assoc front skip (later ++ rest));
          come_before = λ x h. ⊎_elim
              (λ (a : Contains front x). come x a)
              (λ (s : Contains skip x).
              let r = in_skipped pages kind height n p x s in
              under_before HasKey IsBefore IsAtMost pages kind root keys one order before cut height depth n stands shape p b r.0 r.1 x r.2)
              (Contains-append_cases front skip x h);
          heading = down_to pages kind total frames frame height rest (asked + 1) now budget less step more;
          do_not = λ x h. ⊎_elim
              (λ (after : Contains (places_after pages kind height n p) x). after_child height depth stands shape x after)
              (λ (r : Contains rest x). not x r)
              (Contains-append_cases (places_after pages kind height n p) rest x h);
          found = λ table x next h.
              let r = from_fan (branch pages kind height n) x (suc (count_at pages n)) 0 (found table x next h) in
              let inside : r.0 ≤ count_at pages n = omega (arith, r.2) in
              let here = under_here HasKey IsBefore IsAtMost pages kind root keys one order before cut height depth n stands shape p b r.0 inside x r.3 next.is next.first in
              in_table kind _ _ x table (subst (λ (i : ℕ). Contains (branch pages kind height n i) x) here r.3);
        }
      where
        after_child : (height depth : ℕ) → StandsAt pages kind root depth frame.number → HasShape pages kind (suc height) frame.number → (x : Place)
            → Contains (places_after pages kind height frame.number frame.at) x → CellThat false x
        after_child height depth stands shape x after = ⊎_elim
            (λ (own : Contains (with_own kind [] (own_places pages frame.number frame.at)) x). ⊎_elim
            (λ (none : Contains [] x). absurd (in_none x none))
            (λ (here : HasEntries kind Interior × Contains (own_places pages frame.number frame.at) x).
            let o = from_own pages frame.number frame.at x here.1 in
            subst (λ (y : Place). CellThat false y) o.1
            (own_behind HasKey IsBefore IsAtMost pages kind root keys one order before cut depth frame.number stands Interior page frame.at b frame.at (omega arith) o.0))
            (with_own_cases kind [] (own_places pages frame.number frame.at) x own))
            (λ (later : Contains (places_from pages kind height frame.number (frame.at + 1)) x).
            let r = from_fan (branch pages kind height frame.number) x (suc (count_at pages frame.number) - (frame.at + 1)) (frame.at + 1) later in
            under_behind HasKey IsBefore IsAtMost pages kind root keys one order before cut height depth frame.number stands shape frame.at b r.0 (omega (arith, r.1)) (omega (arith, r.1, r.2)) x r.3)
            (Contains-append_cases (with_own kind [] (own_places pages frame.number frame.at)) (places_from pages kind height frame.number (frame.at + 1)) x after)

    -- down to the child at the boundary
    pub seeking_down : IsSeeking frames frame.number asked budget → IsSeeking (frames ++ frame ∷ []) (child_at pages frame.number frame.at) now budget
    seeking_down s = down_from s.heading.levels s.depth s.front s.places s.heading.rest s.stands s.heading.shape s.heading.left s.heading.places_is s.all_is s.come_before s.do_not s.found
