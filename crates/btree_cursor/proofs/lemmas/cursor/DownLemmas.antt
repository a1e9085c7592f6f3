-- The steps of a search, in a tree of either kind and by any keys.
use Rattle.std.proofs.Common.{◌≡◌, ℕ, zero, suc, ◌+◌, ◌-◌, ◌<◌, ◌≤◌, All, Bool, true, false, Contains, List, [], ◌∷◌, ◌++◌, drop, length, refl, sym, ◌∙◌, ap, subst, append_assoc, ⊎_elim, arith}
use Rattle.std.proofs.lemmas.Bool.{cases_lt}
use Rattle.std.proofs.lemmas.List.Elements.{All-nil, All-cons, Contains-append_cases}
use Rattle.btree.specs.declared.image.kind.TreeKind.{TreeKind}
use Rattle.btree.specs.declared.image.kind.TreeKind.TheVariants.{Table}
use Rattle.btree.specs.declared.image.kind.Level.{Level}
use Rattle.btree.specs.declared.image.kind.Level.TheVariants.{Leaf, Interior}
use Rattle.btree.specs.image.Broken.{IsInOrder}
use Rattle.btree.specs.image.Pages.{Pages, IsNumber}
use Rattle.btree.specs.image.Search.{IsBoundary, IsCellThat, IsCut}
use Rattle.btree.specs.image.Shape.{HasShape, place_at, places_in, places_under, size_under}
use Rattle.btree.specs.image.Tree.{Place, HasHeader, IsPageOf, Reaches, StandsAt, top, child_at, count_at}
use Rattle.btree.proofs.lemmas.image.ListLemmas.{in_head, in_none, in_tail, cons_cases}
use Rattle.btree.proofs.lemmas.image.OrderLemmas.{AreKeys}
use Rattle.btree.proofs.lemmas.image.SearchLemmas.{one_answer, own_before, own_behind}
use Rattle.btree_cursor.specs.cursor.Search.{IsSoughtBy}
use Rattle.btree_cursor.specs.cursor.Rest.{Holds, IsInLeaf, IsLeft}
use Rattle.btree_cursor.specs.declared.cursor.cursor.Frame.{Frame}
use Rattle.btree_cursor.proofs.lemmas.cursor.RestLemmas.{heading_first, heading_short, not_both, places_end, places_more}
use Rattle.btree_cursor.proofs.lemmas.cursor.SeekLemmas.{IsNext, IsSeeking, seeking_down}
use Rattle.btree_cursor.proofs.lemmas.cursor.SeenLemmas.{heading_header, heading_interior_page, heading_leaf_page}

all_of : {X : Type 0} (P : X → Type 0) (xs : List X) → ((x : X) → Contains xs x → P x) → All P xs
all_of P [] h = All-nil P
all_of P (x ∷ xs) h = All-cons P x xs (h x (in_head x xs)) (all_of P xs (λ y c. h y (in_tail x y xs c)))

-- a leaf's cells before one, and those from it on
module _ (pages : Pages) (n : ℕ) where
  abbrev taken : ℕ → List Place
  taken zero = []
  taken (suc p) = taken p ++ place_at n p ∷ []

  taken_then : (p : ℕ) → p ≤ count_at pages n → places_in pages n ≡ taken p ++ drop p (places_in pages n)
  taken_then zero within = refl
  taken_then (suc p) within =
      let next : p + 1 ≡ suc p = omega arith in
      taken_then p (omega arith)
      ∙ ap (λ (x : List Place). taken p ++ x) (places_more pages Table n p (omega arith) ∙ ap (λ (k : ℕ). place_at n p ∷ drop k (places_in pages n)) next)
      ∙ sym (append_assoc (taken p) (place_at n p ∷ []) (drop (suc p) (places_in pages n)))

  in_taken : (p : ℕ) (x : Place) → Contains (taken p) x → (i : ℕ) × (i < p) × (place_at n i ≡ x)
  in_taken zero x h = absurd (in_none x h)
  in_taken (suc p) x h = ⊎_elim
      (λ (a : Contains (taken p) x). let r = in_taken p x a in (r.0, omega (arith, r.1), r.2))
      (λ (b : Contains (place_at n p ∷ []) x). (p, omega arith, ⊎_elim (λ (e : place_at n p ≡ x). e) (λ (none : Contains [] x). absurd (in_none x none)) (cons_cases (place_at n p) x [] b)))
      (Contains-append_cases (taken p) (place_at n p ∷ []) x h)

  in_dropped : (k p : ℕ) → p + k ≡ count_at pages n → (x : Place) → Contains (drop p (places_in pages n)) x → (i : ℕ) × (p ≤ i) × (i < count_at pages n) × (place_at n i ≡ x)
  in_dropped zero p is x h = absurd (in_none x (subst (λ (l : List Place). Contains l x) (places_end pages Table n p (omega arith)) h))
  in_dropped (suc k) p is x h = ⊎_elim
      (λ (e : place_at n p ≡ x). (p, omega arith, omega arith, e))
      (λ (b : Contains (drop (p + 1) (places_in pages n)) x). let r = in_dropped k (p + 1) (omega arith) x b in (r.0, omega (arith, r.1), r.2, r.3))
      (cons_cases (place_at n p) x (drop (p + 1) (places_in pages n)) (subst (λ (l : List Place). Contains l x) (places_more pages Table n p (omega arith)) h))

module _ {K : Type 0} (HasKey : Level → ℕ → ℕ → K → Type 0) (IsBefore IsAtMost : K → K → Type 0) (pages : Pages) (kind : TreeKind) (root : ℕ)
    (keys : AreKeys HasKey IsBefore IsAtMost pages kind) (one : (level : Level) (n i : ℕ) (a b : K) → HasKey level n i a → HasKey level n i b → a ≡ b)
    (order : (n : ℕ) → Reaches pages kind root n → IsInOrder HasKey IsBefore IsAtMost pages kind root n)
    (before : K → Bool) (cut : IsCut IsBefore IsAtMost before) (levels : ℕ) where
  -- a search of this tree that asks for page n next
  abbrev pub IsSeekingIn : List Frame → ℕ → ℕ → ℕ → Type 0
  IsSeekingIn = IsSeeking HasKey IsBefore IsAtMost pages kind root keys one order before cut levels (places_under pages kind levels root)

  abbrev CellThat : Bool → Place → Type 0
  CellThat = IsCellThat HasKey before pages kind

  pub seek_first : (frames : List Frame) (asked : ℕ) → levels < 20 → IsNumber pages root → HasShape pages kind levels root → frames ≡ []
      → IsSeekingIn frames root asked (asked + size_under pages levels root)
  unfolding heading_first
  seek_first frames asked shallow number shape none = record {
    depth = 1;
    stands = top;
    front = [];
    places = places_under pages kind levels root;
    all_is = refl;
    come_before = λ x h. absurd (in_none x h);
    heading = heading_first pages kind levels root frames asked shallow shape number none;
    do_not = λ x h. absurd (in_none x h);
    found = λ table x next h. h;
  }

  abbrev pub IsNextIn : Place → Type 0
  IsNextIn = IsNext HasKey IsBefore IsAtMost pages kind root keys one order before cut levels (places_under pages kind levels root)

  module _ (frames : List Frame) (n asked budget : ℕ) (s : IsSeekingIn frames n asked budget) where
    pub seek_header : (level : Level) × HasHeader pages kind level n
    seek_header = heading_header pages kind levels frames n s.places asked budget s.heading

    pub seek_short : length frames < 20
    seek_short = heading_short pages kind levels frames n s.places asked budget s.heading

    page_here : (level : Level) → HasHeader pages kind level n → IsPageOf pages kind level n
    page_here Leaf header = heading_leaf_page pages kind levels frames n s.places asked budget s.heading header
    page_here Interior header = heading_interior_page pages kind levels frames n s.places asked budget s.heading header

    module _ (frame : Frame) (number : frame.number ≡ n) where
      pub seek_page : (level : Level) → HasHeader pages kind level n → IsPageOf pages kind level frame.number
      seek_page level header = subst (λ (x : ℕ). IsPageOf pages kind level x) (sym number) (page_here level header)

      seeks_here : IsSeekingIn frames frame.number asked budget
      seeks_here = subst (λ (x : ℕ). IsSeekingIn frames x asked budget) (sym number) s

      module _ (holds : Holds pages frame) (p now : ℕ) (more : now ≤ asked + 1) where
        moved : Holds pages (record frame { at = p })
        moved = record { long = holds.long; page = holds.page; count = holds.count }

        pub seek_down : frame.level ≡ Interior → HasHeader pages kind Interior n → IsBoundary HasKey before pages kind Interior frame.number p
            → IsSeekingIn (frames ++ (record frame { at = p }) ∷ []) (child_at pages frame.number p) now budget
        seek_down level header b =
            seeking_down HasKey IsBefore IsAtMost pages kind root keys one order before cut levels (places_under pages kind levels root)
            frames (record frame { at = p }) asked now budget (seek_page Interior header) moved level b more seeks_here

        leaf_from : (height depth : ℕ) (front places rest : List Place) → StandsAt pages kind root depth frame.number → HasShape pages kind height frame.number
            → IsLeft pages kind levels height frames rest (asked + size_under pages height frame.number) budget → places ≡ places_under pages kind height frame.number ++ rest
            → places_under pages kind levels root ≡ front ++ places → ((x : Place) → Contains front x → CellThat true x) → ((x : Place) → Contains rest x → CellThat false x)
            → IsPageOf pages kind Leaf frame.number → IsBoundary HasKey before pages kind Leaf frame.number p
            → IsSoughtBy HasKey before pages kind levels root (λ places. IsInLeaf pages kind levels frames (record frame { at = p }) places now budget)
        leaf_from (suc height) depth front places rest stands shape left places_is all_is come not page b = absurd (not_both pages kind frame.number page shape.0)
        leaf_from zero depth front places rest stands shape left places_is all_is come not page b =
            let m = frame.number in
            let within : p ≤ count_at pages m = b.within in
            let first = taken pages m p in
            let later = drop p (places_in pages m) in
            let asks : (asked + 1) + left.ahead ≤ budget = left.asks in
            let is : places_under pages kind levels root ≡ (front ++ first) ++ (later ++ rest) =
            all_is ∙ ap (λ x. front ++ x) (places_is ∙ ap (λ x. x ++ rest) (taken_then pages m p within) ∙ append_assoc first later rest) ∙ sym (append_assoc front first (later ++ rest)) in
            record {
              front = front ++ first;
              rest = later ++ rest;
              split = record {
                all_is = is;
                come_before = all_of (CellThat true) (front ++ first) (λ x h. ⊎_elim
                    (λ (a : Contains front x). come x a)
                    (λ (t : Contains first x).
                    let r = in_taken pages m p x t in
                    subst (λ (y : Place). CellThat true y) r.2
                    (own_before HasKey IsBefore IsAtMost pages kind root keys one order before cut depth m stands Leaf page p b r.0 r.1))
                    (Contains-append_cases front first x h));
                do_not = all_of (CellThat false) (later ++ rest) (λ x h. ⊎_elim
                    (λ (a : Contains later x).
                    let r = in_dropped pages m (count_at pages m - p) p (omega arith) x a in
                    subst (λ (y : Place). CellThat false y) r.3
                    (own_behind HasKey IsBefore IsAtMost pages kind root keys one order before cut depth m stands Leaf page p b r.0 r.1 r.2))
                    (λ (t : Contains rest x). not x t)
                    (Contains-append_cases later rest x h));
              };
              leads = record {
                rest = rest;
                left = record { shallow = left.shallow; ahead = left.ahead; stack = left.stack; asks = omega (arith, asks, more) };
                holds = moved;
                page = page;
                places_is = refl;
              };
            }

        pub seek_leaf : HasHeader pages kind Leaf n → IsBoundary HasKey before pages kind Leaf frame.number p
            → IsSoughtBy HasKey before pages kind levels root (λ places. IsInLeaf pages kind levels frames (record frame { at = p }) places now budget)
        seek_leaf header b =
            let h = seeks_here in
            leaf_from h.heading.levels h.depth h.front h.places h.heading.rest h.stands h.heading.shape h.heading.left h.heading.places_is h.all_is h.come_before h.do_not (seek_page Leaf header) b

        there_from : (height depth : ℕ) → StandsAt pages kind root depth frame.number → HasShape pages kind height frame.number → IsPageOf pages kind Leaf frame.number
            → IsBoundary HasKey before pages kind Leaf frame.number p → (x : Place) → IsNextIn x
            → Contains (places_under pages kind height frame.number) x → p < count_at pages frame.number
        there_from (suc height) depth stands shape page b x next h = absurd (not_both pages kind frame.number page shape.0)
        there_from zero depth stands shape page b x next h =
            let m = frame.number in
            let r = in_dropped pages m (count_at pages m) 0 (omega arith) x h in ⊎_elim
            (λ (less : r.0 < p). absurd (one_answer HasKey IsBefore IsAtMost pages kind root keys one order before cut x
            (subst (λ (y : Place). CellThat true y) r.3
            (own_before HasKey IsBefore IsAtMost pages kind root keys one order before cut depth m stands Leaf page p b r.0 less)) next.is))
            (λ (least : p ≤ r.0). omega (arith, least, r.2))
            (cases_lt r.0 p)

        -- the leaf has the first cell that doesn't come before, where the tree is a table and has one
        pub seek_there : kind ≡ Table → HasHeader pages kind Leaf n → IsBoundary HasKey before pages kind Leaf frame.number p → (x : Place) → IsNextIn x
            → Contains (places_under pages kind levels root) x → p < count_at pages frame.number
        seek_there table header b x next h =
            let s = seeks_here in
            there_from s.heading.levels s.depth s.stands s.heading.shape (seek_page Leaf header) b x next (s.found table x next h)
