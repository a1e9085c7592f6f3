-- Where no page of a tree is named twice, the cells under its root from left to right are the tree's, each once.
use Rattle.std.proofs.Common.{◌≡◌, ℕ, zero, suc, ◌+◌, ◌<◌, ◌≤◌, Contains, refl, sym, ap, subst, ◌∙◌, ⊎_elim, arith}
use Rattle.btree.specs.declared.image.kind.TreeKind.{TreeKind}
use Rattle.btree.specs.declared.image.kind.Level.TheVariants.{Interior}
use Rattle.btree.specs.image.Pages.{Pages}
use Rattle.btree.specs.image.Tree.{Place, IsChild, StandsAt, top, below, Reaches, HasEntries, ArePlacesOf, count_at, child_at}
use Rattle.btree.specs.image.Shape.{HasShape, place_at, places_under, own_places}
use Rattle.btree.specs.image.Sound.{IsNamedOnce}
use Rattle.btree.proofs.lemmas.image.ListLemmas.{Pairs, pairs_map, pairs_fan, pairs_once}
use Rattle.btree.proofs.lemmas.image.ShapeLemmas.{not_both, shape_child}
use Rattle.btree.proofs.lemmas.image.PlaceLemmas.{with_own_cases, with_own_pairs, from_own, branch, sound, complete}
use Rattle.btree.proofs.lemmas.image.OrderLemmas.{joined}

abbrev Differ : Place → Place → Type 0
Differ x y = x ≡ y → ⊥

apart : (m n i j : ℕ) → i < j → Differ (place_at m i) (place_at n j)
apart m n i j less e = let same : i ≡ j = ap (λ (x : Place). x.index) e in omega arith

module _ (pages : Pages) (kind : TreeKind) where
  -- a page has one shape at most
  one_shape : (a b n : ℕ) → HasShape pages kind a n → HasShape pages kind b n → a ≡ b
  one_shape zero zero n s t = refl
  one_shape zero (suc b) n s t = absurd (not_both pages kind n s t.0)
  one_shape (suc a) zero n s t = absurd (not_both pages kind n t s.0)
  one_shape (suc a) (suc b) n s t =
      let within : 0 ≤ count_at pages n = omega arith in
      ap suc (one_shape a b (child_at pages n 0) (s.1 0 within).1 (t.1 0 within).1)

  shape_next : (head levels n i m depth height : ℕ) → height + depth ≡ suc levels → HasShape pages kind height n
      → IsChild pages kind n i m
      → (low : ℕ) × (low + suc depth ≡ suc levels) × HasShape pages kind low m
  shape_next head levels n i m depth zero e shape c = absurd (not_both pages kind n shape c.interior)
  shape_next head levels n i m depth (suc height) e shape c =
      let within : i ≤ count_at pages n = c.within in (height, omega arith, subst (λ (k : ℕ). HasShape pages kind height k) c.is (shape.1 i within).1)

  -- the levels below a page of a tree, by its depth
  shape_at : (head levels : ℕ) → HasShape pages kind levels head → {depth m : ℕ} → StandsAt pages kind head depth m
      → (height : ℕ) × (height + depth ≡ suc levels) × HasShape pages kind height m
  shape_at head levels shape top = (levels, omega arith, shape)
  shape_at head levels shape (below {depth} {n} {m} i stands c) =
      let up = shape_at head levels shape stands in
      shape_next head levels n i m depth up.0 up.1 up.2 c

  depth_some : (head : ℕ) {depth m : ℕ} → StandsAt pages kind head depth m → 0 < depth
  depth_some head top = omega arith
  depth_some head (below i stands c) = omega arith

  -- what has a child above it that heads a tree isn't in that tree
  not_below : (height n i : ℕ) → HasShape pages kind (suc height) n → i ≤ count_at pages n
      → Reaches pages kind (child_at pages n i) n → ⊥
  not_below height n i shape within reaches =
      let low = shape_at (child_at pages n i) height (shape.1 i within).1 reaches.1 in
      let same : low.0 ≡ suc height = one_shape low.0 (suc height) n low.2 shape in
      let some = depth_some (child_at pages n i) reaches.1 in
      omega (arith, low.1)

module _ (pages : Pages) (kind : TreeKind) (root : ℕ) (named : (m : ℕ) → IsNamedOnce pages kind root m) where
  -- a page stands at one depth below one page at most
  one_head : (c d : ℕ) → Reaches pages kind root c → Reaches pages kind root d → {depth m : ℕ}
      → StandsAt pages kind c depth m
      → {other n : ℕ} → StandsAt pages kind d other n → depth ≡ other → m ≡ n → c ≡ d
  one_head c d reach_c reach_d top top e s = s
  one_head c d reach_c reach_d top (below j more last) e s = absurd (let some = depth_some pages kind d more in omega arith)
  one_head c d reach_c reach_d (below i stands kid) top e s = absurd (let some = depth_some pages kind c stands in omega arith)
  one_head c d reach_c reach_d (below {depth} {n = p} {m} i stands kid) (below {depth = other} {n = q} {m = n} j more last) e s =
      let up_p = joined pages kind root reach_c.1 stands in
      let up_q = joined pages kind root reach_d.1 more in
      let same = (named n p q i j up_p up_q (subst (λ (k : ℕ). IsChild pages kind p i k) s kid) last).0 in
      one_head c d reach_c reach_d stands more (omega arith) same

  child_reached : (depth height n i : ℕ) → StandsAt pages kind root depth n → HasShape pages kind (suc height) n
      → i ≤ count_at pages n
      → Reaches pages kind root (child_at pages n i)
  child_reached depth height n i stands shape within = (suc depth, below i stands (shape_child pages kind height n i shape within))

  -- no page is in the trees under two children of a page
  children_apart : (depth height n i j m : ℕ) → StandsAt pages kind root depth n → HasShape pages kind (suc height) n
      → i < j → j ≤ count_at pages n
      → Reaches pages kind (child_at pages n i) m → Reaches pages kind (child_at pages n j) m → ⊥
  children_apart depth height n i j m stands shape less most in_i in_j =
      let within : i ≤ count_at pages n = omega arith in
      let low_i = shape_at pages kind (child_at pages n i) height (shape.1 i within).1 in_i.1 in
      let low_j = shape_at pages kind (child_at pages n j) height (shape.1 j most).1 in_j.1 in
      let level : low_i.0 ≡ low_j.0 = one_shape pages kind low_i.0 low_j.0 m low_i.2 low_j.2 in
      let same_depth : in_i.0 ≡ in_j.0 = omega (arith, low_i.1, low_j.1) in
      let same = one_head (child_at pages n i) (child_at pages n j) (child_reached depth height n i stands shape within)
      (child_reached depth height n j stands shape most) in_i.1 in_j.1 same_depth refl in
      let kid_i = subst (λ (k : ℕ). IsChild pages kind n i k) same (shape_child pages kind height n i shape within) in
      let one = (named (child_at pages n j) n n i j (depth, stands) (depth, stands) kid_i (shape_child pages kind height n j shape most)).1 in
      omega arith

  under_page : (height n i : ℕ) → HasShape pages kind (suc height) n → i ≤ count_at pages n → (x : Place)
      → Contains (places_under pages kind height (child_at pages n i)) x
      → Reaches pages kind (child_at pages n i) x.page
  under_page height n i shape within x h = (sound pages kind height (child_at pages n i) (shape.1 i within).1 x h).reaches

  -- what is under a child isn't a cell of its page
  under_own : (height n i j : ℕ) → HasShape pages kind (suc height) n → i ≤ count_at pages n → (x y : Place)
      → Contains (places_under pages kind height (child_at pages n i)) x → Contains (own_places pages n j) y
      → Differ x y
  under_own height n i j shape within x y in_x in_y e =
      let at_n : x.page ≡ n = ap (λ (z : Place). z.page) (e ∙ sym (from_own pages n j y in_y).1) in
      not_below pages kind height n i shape within
      (subst (λ (m : ℕ). Reaches pages kind (child_at pages n i) m) at_n (under_page height n i shape within x in_x))

  across_under : (depth height n i j : ℕ) → StandsAt pages kind root depth n → HasShape pages kind (suc height) n
      → i < j → j ≤ count_at pages n → (x y : Place)
      → Contains (places_under pages kind height (child_at pages n i)) x → Contains (branch pages kind height n j) y
      → Differ x y
  across_under depth height n i j stands shape less most x y in_x in_y e = ⊎_elim
      (λ (under : Contains (places_under pages kind height (child_at pages n j)) y).
      let page_y = subst (λ (z : Place). Reaches pages kind (child_at pages n j) z.page) (sym e) (under_page height n j shape most y under) in
      children_apart depth height n i j x.page stands shape less most (under_page height n i shape (omega arith) x in_x) page_y)
      (λ (own : HasEntries kind Interior × Contains (own_places pages n j) y). under_own height n i j shape (omega arith) x y in_x own.1 e)
      (with_own_cases kind (places_under pages kind height (child_at pages n j)) (own_places pages n j) y in_y)

  across_own : (height n i j : ℕ) → HasShape pages kind (suc height) n → i < j → j ≤ count_at pages n → (x y : Place)
      → Contains (own_places pages n i) x → Contains (branch pages kind height n j) y → Differ x y
  across_own height n i j shape less most x y in_x in_y e = ⊎_elim
      (λ (under : Contains (places_under pages kind height (child_at pages n j)) y). under_own height n j i shape most y x under in_x (sym e))
      (λ (own : HasEntries kind Interior × Contains (own_places pages n j) y).
      apart n n i j less ((from_own pages n i x in_x).1 ∙ e ∙ sym (from_own pages n j y own.1).1))
      (with_own_cases kind (places_under pages kind height (child_at pages n j)) (own_places pages n j) y in_y)

  across : (depth height n i j : ℕ) → StandsAt pages kind root depth n → HasShape pages kind (suc height) n → i < j
      → j ≤ count_at pages n → (x y : Place)
      → Contains (branch pages kind height n i) x → Contains (branch pages kind height n j) y → Differ x y
  across depth height n i j stands shape less most x y in_x in_y = ⊎_elim
      (λ (under : Contains (places_under pages kind height (child_at pages n i)) x). across_under depth height n i j stands shape less most x y under in_y)
      (λ (own : HasEntries kind Interior × Contains (own_places pages n i) x). across_own height n i j shape less most x y own.1 in_y)
      (with_own_cases kind (places_under pages kind height (child_at pages n i)) (own_places pages n i) x in_x)

  under_differ : (levels depth n : ℕ) → StandsAt pages kind root depth n → HasShape pages kind levels n
      → Pairs Differ (places_under pages kind levels n)
  under_differ zero depth n stands shape = pairs_map Differ (place_at n) (count_at pages n) 0 (λ i j least less most. apart n n i j less)
  under_differ (suc height) depth n stands shape =
      pairs_fan Differ (branch pages kind height n) (suc (count_at pages n)) 0
      (λ i least most.
      let within : i ≤ count_at pages n = omega arith in
      with_own_pairs pages kind Differ height n i
      (under_differ height (suc depth) (child_at pages n i) (below i stands (shape_child pages kind height n i shape within)) (shape.1 i within).1)
      (λ entries x y. under_own height n i i shape within x y))
      (λ i j x y least less most. across depth height n i j stands shape less (omega arith) x y)

  pub named_places : (levels : ℕ) → HasShape pages kind levels root
      → ArePlacesOf pages kind root (places_under pages kind levels root)
  named_places levels shape = record {
    sound = sound pages kind levels root shape;
    complete = complete pages kind levels root shape;
    once = pairs_once Differ (places_under pages kind levels root) (under_differ levels 1 root top shape) (λ x h apart_x. apart_x refl);
  }
