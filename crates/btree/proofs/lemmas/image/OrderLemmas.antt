-- Where the keys of a tree's pages ascend within the bounds above them, the keys under a page ascend from left to right.
use Rattle.std.proofs.Common.{◌≡◌, ℕ, zero, suc, ◌+◌, ◌-◌, ◌<◌, ◌≤◌, ◌⊎◌, Contains, refl, sym, subst, inl, inr, ⊎_elim, arith}
use Rattle.std.proofs.lemmas.Bool.{cases_lt}
use Rattle.btree.specs.declared.image.kind.TreeKind.{TreeKind}
use Rattle.btree.specs.declared.image.kind.Level.{Level}
use Rattle.btree.specs.declared.image.kind.Level.TheVariants.{Leaf, Interior}
use Rattle.btree.specs.image.Pages.{Pages}
use Rattle.btree.specs.image.Tree.{Place, IsPageOf, StandsAt, top, below, Reaches, IsUnder, HasEntries, ArePlacesOf, count_at, child_at}
use Rattle.btree.specs.image.Shape.{HasShape, place_at, places_under, own_places}
use Rattle.btree.specs.image.Broken.{IsInOrder}
use Rattle.btree.proofs.lemmas.image.ListLemmas.{Pairs, pairs_map, pairs_fan, pairs_once}
use Rattle.btree.proofs.lemmas.image.ShapeLemmas.{one_level, shape_child}
use Rattle.btree.proofs.lemmas.image.PlaceLemmas.{with_own_cases, with_own_pairs, from_own, branch, sound, complete}

-- the root reaches what stands below a page that it reaches
pub joined : (pages : Pages) (kind : TreeKind) (root : ℕ) {depth n : ℕ} → StandsAt pages kind root depth n
    → {low m : ℕ} → StandsAt pages kind n low m → Reaches pages kind root m
joined pages kind root {depth} stands top = (depth, stands)
joined pages kind root stands (below j more last) = let r = joined pages kind root stands more in (suc r.0, below j r.1 last)

-- what the keys of a tree have to keep
module _ {K : Type 0} (HasKey : Level → ℕ → ℕ → K → Type 0) (IsBefore IsAtMost : K → K → Type 0) (pages : Pages) (kind : TreeKind) where
  pub record AreKeys : Type 0 where
    pub after : (x y z : K) → IsBefore x y → IsBefore y z → IsBefore x z
    pub after_most : (x y z : K) → IsAtMost x y → IsBefore y z → IsBefore x z
    -- where an interior page's cells are entries too, what is under a child is before the cell
    pub strict : HasEntries kind Interior → (x y : K) → IsAtMost x y → IsBefore x y
    pub never : (x : K) → IsBefore x x → ⊥
    pub key_of : (level : Level) (n i : ℕ) → IsPageOf pages kind level n → i < count_at pages n
        → (key : K) × HasKey level n i key

-- the key of one place is before that of another
module _ {K : Type 0} (HasKey : Level → ℕ → ℕ → K → Type 0) (IsBefore : K → K → Type 0) (pages : Pages) (kind : TreeKind) where
  abbrev pub KeyBefore : Place → Place → Type 0
  KeyBefore x y =
      (level other : Level) (a b : K) → IsPageOf pages kind level x.page → x.index < count_at pages x.page → IsPageOf pages kind other y.page
      → y.index < count_at pages y.page → HasKey level x.page x.index a → HasKey other y.page y.index b → IsBefore a b

module _ {K : Type 0} (HasKey : Level → ℕ → ℕ → K → Type 0) (IsBefore IsAtMost : K → K → Type 0) (pages : Pages) (kind : TreeKind) (root : ℕ)
    (keys : AreKeys HasKey IsBefore IsAtMost pages kind)
    (order : (n : ℕ) → Reaches pages kind root n → IsInOrder HasKey IsBefore IsAtMost pages kind root n) where
  abbrev Before : Place → Place → Type 0
  Before = KeyBefore HasKey IsBefore pages kind

  -- a key is that of cell i of an interior page, or at most that
  abbrev pub UpTo : ℕ → ℕ → K → Type 0
  UpTo n i a = (key : K) × HasKey Interior n i key × (IsAtMost a key ⊎ (a ≡ key))

  -- one page's keys
  pub on_page : (depth n : ℕ) → StandsAt pages kind root depth n → (level : Level) → IsPageOf pages kind level n
      → (i j : ℕ) → i < j → j < count_at pages n
      → Before (place_at n i) (place_at n j)
  on_page depth n stands level page i j less most one other a b page_a within_a page_b within_b key_a key_b =
      (order n (depth, stands)).ascends level i j a b page less most
      (subst (λ (l : Level). HasKey l n i a) (one_level pages kind one level n page_a page) key_a)
      (subst (λ (l : Level). HasKey l n j b) (one_level pages kind other level n page_b page) key_b)

  under_child : (height n i : ℕ) → HasShape pages kind (suc height) n → i ≤ count_at pages n → (x : Place)
      → Contains (places_under pages kind height (child_at pages n i)) x → IsUnder pages kind n i x.page
  under_child height n i shape within x h = record {
    head = child_at pages n i;
    is = shape_child pages kind height n i shape within;
    reaches = (sound pages kind height (child_at pages n i) (shape.1 i within).1 x h).reaches;
  }

  under_root : (depth n i m : ℕ) → StandsAt pages kind root depth n → IsUnder pages kind n i m
      → Reaches pages kind root m
  under_root depth n i m stands under = joined pages kind root (below i stands under.is) under.reaches.1

  -- a key under child i, or of cell i itself
  pub up_to : (height depth n i : ℕ) → StandsAt pages kind root depth n → HasShape pages kind (suc height) n
      → i < count_at pages n → (x : Place)
      → Contains (branch pages kind height n i) x → (level : Level) (a : K) → IsPageOf pages kind level x.page
      → x.index < count_at pages x.page
      → HasKey level x.page x.index a → UpTo n i a
  up_to height depth n i stands shape within x h level a page inside key = ⊎_elim
      (λ (under : Contains (places_under pages kind height (child_at pages n i)) x).
      let here = keys.key_of Interior n i shape.0 within in
      let below_here = under_child height n i shape (omega arith) x under in
      let most = (order x.page (under_root depth n i x.page stands below_here)).most level n i x.index here.0 a (depth, stands) below_here within page inside here.1 key in
      (here.0, here.1, inl most))
      (λ (own : HasEntries kind Interior × Contains (own_places pages n i) x).
      let is = (from_own pages n i x own.1).1 in
      let page_here = subst (λ (y : Place). IsPageOf pages kind level y.page) (sym is) page in
      let key_here = subst (λ (y : Place). HasKey level y.page y.index a) (sym is) key in
      (a, subst (λ (l : Level). HasKey l n i a) (one_level pages kind level Interior n page_here shape.0) key_here, inr refl))
      (with_own_cases kind (places_under pages kind height (child_at pages n i)) (own_places pages n i) x h)

  -- a key under child i + 1, or of cell i + 1, is after that of cell i
  past_cell : (height depth n i : ℕ) → StandsAt pages kind root depth n → HasShape pages kind (suc height) n
      → i + 1 ≤ count_at pages n → (y : Place)
      → Contains (branch pages kind height n (i + 1)) y → (level : Level) (key b : K)
      → IsPageOf pages kind level y.page → y.index < count_at pages y.page
      → HasKey Interior n i key → HasKey level y.page y.index b → IsBefore key b
  past_cell height depth n i stands shape within y h level key b page inside key_here key_y = ⊎_elim
      (λ (under : Contains (places_under pages kind height (child_at pages n (i + 1))) y).
      let below_here = under_child height n (i + 1) shape within y under in
      (order y.page (under_root depth n (i + 1) y.page stands below_here)).above level n i y.index key b (depth, stands) below_here page inside key_here key_y)
      (λ (own : HasEntries kind Interior × Contains (own_places pages n (i + 1)) y).
      let is = from_own pages n (i + 1) y own.1 in
      let page_here = subst (λ (z : Place). IsPageOf pages kind level z.page) (sym is.1) page in
      let key_next = subst (λ (z : Place). HasKey level z.page z.index b) (sym is.1) key_y in
      on_page depth n stands Interior shape.0 i (i + 1) (omega arith) is.0 Interior level key b shape.0 (omega arith) page_here is.0 key_here key_next)
      (with_own_cases kind (places_under pages kind height (child_at pages n (i + 1))) (own_places pages n (i + 1)) y h)

  -- so is one further on
  pub past_cells : (height depth n i j : ℕ) → StandsAt pages kind root depth n → HasShape pages kind (suc height) n → i < j
      → j ≤ count_at pages n → (y : Place)
      → Contains (branch pages kind height n j) y → (level : Level) (key b : K) → IsPageOf pages kind level y.page
      → y.index < count_at pages y.page
      → HasKey Interior n i key → HasKey level y.page y.index b → IsBefore key b
  past_cells height depth n i j stands shape less most y h level key b page inside key_here key_y =
      let last = j - 1 in
      let next : j ≡ last + 1 = omega arith in
      let within : last < count_at pages n = omega arith in
      let h_next = subst (λ (k : ℕ). Contains (branch pages kind height n k) y) next h in
      ⊎_elim
      (λ (earlier : i < last).
      let there = keys.key_of Interior n last shape.0 within in
      keys.after key there.0 b
      (on_page depth n stands Interior shape.0 i last earlier within Interior Interior key there.0 shape.0 (omega arith) shape.0 within key_here there.1)
      (past_cell height depth n last stands shape (omega arith) y h_next level there.0 b page inside there.1 key_y))
      (λ (not_before : last ≤ i).
      let same : i ≡ last = omega arith in
      past_cell height depth n last stands shape (omega arith) y h_next level key b page inside (subst (λ (k : ℕ). HasKey Interior n k key) same key_here) key_y)
      (cases_lt i last)

  across : (height depth n i j : ℕ) → StandsAt pages kind root depth n → HasShape pages kind (suc height) n → i < j
      → j ≤ count_at pages n → (x y : Place)
      → Contains (branch pages kind height n i) x → Contains (branch pages kind height n j) y → Before x y
  across height depth n i j stands shape less most x y in_x in_y level other a b page_x inside_x page_y inside_y key_x key_y =
      let up = up_to height depth n i stands shape (omega arith) x in_x level a page_x inside_x key_x in
      let past = past_cells height depth n i j stands shape less most y in_y other up.0 b page_y inside_y up.1 key_y in
      ⊎_elim
      (λ (at_most : IsAtMost a up.0). keys.after_most a up.0 b at_most past)
      (λ (same : a ≡ up.0). subst (λ (k : K). IsBefore k b) (sym same) past)
      up.2

  -- in an index tree, what is under child i is before cell i
  before_own : (height depth n i : ℕ) → StandsAt pages kind root depth n → HasShape pages kind (suc height) n
      → i ≤ count_at pages n
      → HasEntries kind Interior → (x y : Place) → Contains (places_under pages kind height (child_at pages n i)) x
      → Contains (own_places pages n i) y
      → Before x y
  before_own height depth n i stands shape within entries x y under own level other a b page_x inside_x page_y inside_y key_x key_y =
      let is = from_own pages n i y own in
      let page_here = subst (λ (z : Place). IsPageOf pages kind other z.page) (sym is.1) page_y in
      let key_next = subst (λ (z : Place). HasKey other z.page z.index b) (sym is.1) key_y in
      let key_here = subst (λ (l : Level). HasKey l n i b) (one_level pages kind other Interior n page_here shape.0) key_next in
      let below_here = under_child height n i shape within x under in
      keys.strict entries a b
      ((order x.page (under_root depth n i x.page stands below_here)).most level n i x.index b a (depth, stands) below_here is.0 page_x inside_x key_here key_x)

  rises : (levels depth n : ℕ) → StandsAt pages kind root depth n → HasShape pages kind levels n
      → Pairs Before (places_under pages kind levels n)
  rises zero depth n stands shape =
      pairs_map Before (place_at n) (count_at pages n) 0 (λ i j least less most. on_page depth n stands Leaf shape i j less (omega arith))
  rises (suc height) depth n stands shape =
      pairs_fan Before (branch pages kind height n) (suc (count_at pages n)) 0
      (λ i least most.
      let within : i ≤ count_at pages n = omega arith in
      with_own_pairs pages kind Before height n i
      (rises height (suc depth) (child_at pages n i) (below i stands (shape_child pages kind height n i shape within)) (shape.1 i within).1)
      (before_own height depth n i stands shape within))
      (λ i j x y least less most. across height depth n i j stands shape less (omega arith) x y)

  pub root_rises : (levels : ℕ) → HasShape pages kind levels root → Pairs Before (places_under pages kind levels root)
  root_rises levels shape = rises levels 1 root top shape

  -- the cells under the root are the tree's, each once
  pub root_places : (levels : ℕ) → HasShape pages kind levels root
      → ArePlacesOf pages kind root (places_under pages kind levels root)
  root_places levels shape = record {
    sound = sound pages kind levels root shape;
    complete = complete pages kind levels root shape;
    once = pairs_once Before (places_under pages kind levels root) (root_rises levels shape) (λ x h before.
        let place = sound pages kind levels root shape x h in
        let key = keys.key_of place.level x.page x.index place.page place.within in
        keys.never key.0 (before place.level place.level key.0 key.0 place.page place.within place.page place.within key.1 key.1));
  }
