-- The cells under a page, from left to right, are those of the tree that it heads.
use Rattle.std.proofs.Common.{◌≡◌, ℕ, zero, suc, ◌<◌, ◌≤◌, ◌⊎◌, List, [], ◌∷◌, Contains, nat_lt, false, sym, subst, inl, inr, ⊎_elim, arith}
use Rattle.std.proofs.lemmas.Bool.{cases_lt, lt-ltb, cond-true, cond-false}
use Rattle.std.proofs.lemmas.List.Elements.{Contains-append_left, Contains-append_right, Contains-append_cases}
use Rattle.btree.specs.declared.image.kind.TreeKind.{TreeKind}
use Rattle.btree.specs.declared.image.kind.TreeKind.TheVariants.{Table, Index}
use Rattle.btree.specs.declared.image.kind.Level.{Level}
use Rattle.btree.specs.declared.image.kind.Level.TheVariants.{Leaf, Interior}
use Rattle.btree.specs.image.Pages.{Pages}
use Rattle.btree.specs.image.Tree.{Place, IsPageOf, IsChild, StandsAt, top, below, HasEntries, IsPlaceOf, count_at, child_at}
use Rattle.btree.specs.image.Shape.{HasShape, place_at, places_under, with_own, own_places}
use Rattle.btree.proofs.lemmas.image.ListLemmas.{in_head, in_none, cons_cases, Pairs, pairs_append, from_map, to_map, from_fan, to_fan}
use Rattle.btree.proofs.lemmas.image.ShapeLemmas.{not_both, one_level, shape_child}

-- an interior page's cells are entries only in an index tree

pub leaf_entries : (kind : TreeKind) → HasEntries kind Leaf
leaf_entries Table = tt
leaf_entries Index = tt

under_with_own : (kind : TreeKind) (under own : List Place) (x : Place) → Contains under x
    → Contains (with_own kind under own) x
under_with_own Table under own x h = h
under_with_own Index under own x h = Contains-append_left under own x h

own_with_own : (kind : TreeKind) (under own : List Place) (x : Place) → HasEntries kind Interior → Contains own x
    → Contains (with_own kind under own) x
own_with_own Table under own x entries h = absurd entries
own_with_own Index under own x entries h = Contains-append_right under own x h

pub with_own_cases : (kind : TreeKind) (under own : List Place) (x : Place) → Contains (with_own kind under own) x
    → Contains under x ⊎ (HasEntries kind Interior × Contains own x)
with_own_cases Table under own x h = inl h
with_own_cases Index under own x h = ⊎_elim (λ (a : Contains under x). inl a) (λ (b : Contains own x). inr (tt, b)) (Contains-append_cases under own x h)

module _ (pages : Pages) where
  own_is : (n i : ℕ) → i < count_at pages n → own_places pages n i ≡ place_at n i ∷ []
  own_is n i within = cond-true _ _ _ (lt-ltb i (count_at pages n) within)

  own_none : (n i : ℕ) → count_at pages n ≤ i → own_places pages n i ≡ []
  own_none n i past = cond-false _ _ _ (let e : nat_lt i (count_at pages n) ≡ false = grind arith in e)

  pub from_own : (n i : ℕ) (x : Place) → Contains (own_places pages n i) x → (i < count_at pages n) × (place_at n i ≡ x)
  from_own n i x h = ⊎_elim
      (λ (within : i < count_at pages n). (
        within,
        ⊎_elim
            (λ (e : place_at n i ≡ x). e)
            (λ (b : Contains [] x). absurd (in_none x b))
            (cons_cases (place_at n i) x [] (subst (λ (l : List Place). Contains l x) (own_is n i within) h)),
      ))
      (λ (past : count_at pages n ≤ i). absurd (in_none x (subst (λ (l : List Place). Contains l x) (own_none n i past) h)))
      (cases_lt i (count_at pages n))

  to_own : (n i : ℕ) → i < count_at pages n → Contains (own_places pages n i) (place_at n i)
  to_own n i within = subst (λ (l : List Place). Contains l (place_at n i)) (sym (own_is n i within)) (in_head (place_at n i) [])

module _ (pages : Pages) (kind : TreeKind) where
  -- what stands under a child stands under its page
  stands_up : (n i c : ℕ) → IsChild pages kind n i c → {depth m : ℕ} → StandsAt pages kind c depth m
      → StandsAt pages kind n (suc depth) m
  stands_up n i c kid top = below i top kid
  stands_up n i c kid (below j stands last) = below j (stands_up n i c kid stands) last

  -- the cells under child i and, in an index tree, cell i
  abbrev pub branch : ℕ → ℕ → ℕ → List Place
  branch height n i = with_own kind (places_under pages kind height (child_at pages n i)) (own_places pages n i)

  place_up : (n i c : ℕ) → IsChild pages kind n i c → (x : Place) → IsPlaceOf pages kind c x → IsPlaceOf pages kind n x
  place_up n i c kid x place = record {
    level = place.level;
    entries = place.entries;
    reaches = (suc place.reaches.0, stands_up n i c kid place.reaches.1);
    page = place.page;
    within = place.within;
  }

  here_place : (level : Level) (n i : ℕ) → HasEntries kind level → IsPageOf pages kind level n → i < count_at pages n
      → IsPlaceOf pages kind n (place_at n i)
  here_place level n i entries page within = record { level = level; entries = entries; reaches = (1, top); page = page; within = within }

  pub sound : (levels n : ℕ) → HasShape pages kind levels n → (x : Place)
      → Contains (places_under pages kind levels n) x → IsPlaceOf pages kind n x
  sound zero n shape x h =
      let r = from_map (place_at n) x (count_at pages n) 0 h in
      let within : r.0 < count_at pages n = omega (arith, r.2) in
      subst (λ (y : Place). IsPlaceOf pages kind n y) r.3 (here_place Leaf n r.0 (leaf_entries kind) shape within)
  sound (suc height) n shape x h =
      let r = from_fan (branch height n) x (suc (count_at pages n)) 0 h in
      let within : r.0 ≤ count_at pages n = omega (arith, r.2) in
      ⊎_elim
      (λ (under : Contains (places_under pages kind height (child_at pages n r.0)) x).
      place_up n r.0 (child_at pages n r.0) (shape_child pages kind height n r.0 shape within) x
      (sound height (child_at pages n r.0) (shape.1 r.0 within).1 x under))
      (λ (own : HasEntries kind Interior × Contains (own_places pages n r.0) x).
      let o = from_own pages n r.0 x own.1 in
      subst (λ (y : Place). IsPlaceOf pages kind n y) o.1 (here_place Interior n r.0 own.0 shape.0 o.0))
      (with_own_cases kind (places_under pages kind height (child_at pages n r.0)) (own_places pages n r.0) x r.3)

  -- a page of a tree with a shape has one, and the cells under it are among those of the tree
  record IsAmong (head levels m : ℕ) : Type 0 where
    height : ℕ
    shape : HasShape pages kind height m
    among : (x : Place) → Contains (places_under pages kind height m) x
        → Contains (places_under pages kind levels head) x

  among_child : (head levels n i m height : ℕ) → HasShape pages kind height n
      → ((x : Place) → Contains (places_under pages kind height n) x → Contains (places_under pages kind levels head) x)
      → IsChild pages kind n i m → IsAmong head levels m
  among_child head levels n i m zero shape among c = absurd (not_both pages kind n shape c.interior)
  among_child head levels n i m (suc height) shape among c =
      let within : i ≤ count_at pages n = c.within in
      record {
        height = height;
        shape = subst (λ (k : ℕ). HasShape pages kind height k) c.is (shape.1 i within).1;
        among = λ x h.
            let under = subst (λ (k : ℕ). Contains (places_under pages kind height k) x) (sym c.is) h in
            let own = under_with_own kind (places_under pages kind height (child_at pages n i)) (own_places pages n i) x under in
            among x (to_fan (branch height n) x (suc (count_at pages n)) 0 i (omega arith) (omega arith) own);
      }

  among : (head levels : ℕ) → HasShape pages kind levels head → {depth m : ℕ} → StandsAt pages kind head depth m
      → IsAmong head levels m
  among head levels shape top = record { height = levels; shape = shape; among = λ x h. h }
  among head levels shape (below {depth} {n} {m} i stands c) =
      let up = among head levels shape stands in
      among_child head levels n i m up.height up.shape up.among c

  here_in : (level : Level) (height m i : ℕ) → HasShape pages kind height m → HasEntries kind level
      → IsPageOf pages kind level m → i < count_at pages m
      → Contains (places_under pages kind height m) (place_at m i)
  here_in level zero m i shape entries page within = to_map (place_at m) (count_at pages m) 0 i (omega arith) (omega arith)
  here_in level (suc height) m i shape entries page within =
      let inner = subst (λ (l : Level). HasEntries kind l) (one_level pages kind level Interior m page shape.0) entries in
      let own = own_with_own kind (places_under pages kind height (child_at pages m i)) (own_places pages m i) (place_at m i) inner (to_own pages m i within) in
      to_fan (branch height m) (place_at m i) (suc (count_at pages m)) 0 i (omega arith) (omega arith) own

  pub complete : (levels n : ℕ) → HasShape pages kind levels n → (x : Place) → IsPlaceOf pages kind n x
      → Contains (places_under pages kind levels n) x
  complete levels n shape x place =
      let up = among n levels shape place.reaches.1 in
      up.among x (here_in place.level up.height x.page x.index up.shape place.entries place.page place.within)

-- a relation of places, over the cells under a child and the cell behind it
joined_pairs : (kind : TreeKind) (R : Place → Place → Type 0) (under own : List Place) → Pairs R under → Pairs R own
    → (HasEntries kind Interior → (x y : Place) → Contains under x → Contains own y → R x y)
    → Pairs R (with_own kind under own)
joined_pairs Table R under own a b cross = a
joined_pairs Index R under own a b cross = pairs_append R under own a b (cross tt)

own_pairs : (pages : Pages) (R : Place → Place → Type 0) (n i : ℕ) → Pairs R (own_places pages n i)
own_pairs pages R n i = ⊎_elim
    (λ (within : i < count_at pages n). subst (λ (l : List Place). Pairs R l) (sym (own_is pages n i within)) (λ y h. absurd (in_none y h), tt))
    (λ (past : count_at pages n ≤ i). subst (λ (l : List Place). Pairs R l) (sym (own_none pages n i past)) tt)
    (cases_lt i (count_at pages n))

pub with_own_pairs : (pages : Pages) (kind : TreeKind) (R : Place → Place → Type 0) (height n i : ℕ)
    → Pairs R (places_under pages kind height (child_at pages n i))
    → (HasEntries kind Interior → (x y : Place) → Contains (places_under pages kind height (child_at pages n i)) x → Contains (own_places pages n i) y → R x y)
    → Pairs R (branch pages kind height n i)
with_own_pairs pages kind R height n i pairs cross =
    joined_pairs kind R (places_under pages kind height (child_at pages n i)) (own_places pages n i) pairs (own_pairs pages R n i) cross
