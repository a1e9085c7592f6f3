-- Where the keys of a tree are in order, the cell of a page at which a search goes down splits the cells under the page.
use Rattle.std.proofs.Common.{◌≡◌, ℕ, suc, ◌-◌, ◌<◌, ◌≤◌, Bool, true, false, Contains, refl, sym, ◌∙◌, subst, ⊎_elim, arith}
use Rattle.std.proofs.lemmas.Bool.{cases_lt, cases_eq}
use Rattle.btree.specs.declared.image.kind.TreeKind.{TreeKind}
use Rattle.btree.specs.declared.image.kind.Level.{Level}
use Rattle.btree.specs.declared.image.kind.Level.TheVariants.{Interior}
use Rattle.btree.specs.image.Pages.{Pages}
use Rattle.btree.specs.image.Tree.{Place, IsPageOf, StandsAt, Reaches, count_at, child_at}
use Rattle.btree.specs.image.Shape.{HasShape, place_at, places_under, own_places}
use Rattle.btree.specs.image.Broken.{IsInOrder}
use Rattle.btree.specs.image.Search.{IsCellThat, IsBoundary, IsCut}
use Rattle.btree.proofs.lemmas.image.ShapeLemmas.{one_level}
use Rattle.btree.proofs.lemmas.image.PlaceLemmas.{branch, sound, from_own, with_own_cases}
use Rattle.btree.proofs.lemmas.image.OrderLemmas.{AreKeys, up_to, past_cells, on_page}

true_false : (b : Bool) → b ≡ true → b ≡ false → ⊥
true_false b t f = let e : true ≡ false = sym t ∙ f in cc

not_true : (b : Bool) → (b ≡ true → ⊥) → b ≡ false
not_true true h = absurd (h refl)
not_true false h = refl

module _ {K : Type 0} (HasKey : Level → ℕ → ℕ → K → Type 0) (IsBefore IsAtMost : K → K → Type 0) (pages : Pages) (kind : TreeKind) (root : ℕ)
    (keys : AreKeys HasKey IsBefore IsAtMost pages kind) (one : (level : Level) (n i : ℕ) (a b : K) → HasKey level n i a → HasKey level n i b → a ≡ b)
    (order : (n : ℕ) → Reaches pages kind root n → IsInOrder HasKey IsBefore IsAtMost pages kind root n)
    (before : K → Bool) (cut : IsCut IsBefore IsAtMost before) where
  abbrev Boundary : Level → ℕ → ℕ → Type 0
  Boundary = IsBoundary HasKey before pages kind

  abbrev CellThat : Bool → Place → Type 0
  CellThat = IsCellThat HasKey before pages kind

  -- a cell answers in one way
  pub one_answer : (x : Place) → CellThat true x → CellThat false x → ⊥
  one_answer x before_it behind_it =
      let same = one_level pages kind before_it.level behind_it.level x.page before_it.page behind_it.page in
      let key = subst (λ (l : Level). HasKey l x.page x.index before_it.is.0) same before_it.is.1 in
      let e = one behind_it.level x.page x.index before_it.is.0 behind_it.is.0 key behind_it.is.1 in
      true_false (before behind_it.is.0) (subst (λ (k : K). before k ≡ true) e before_it.is.2) behind_it.is.2

  module _ (depth n : ℕ) (stands : StandsAt pages kind root depth n) (level : Level) (page : IsPageOf pages kind level n) (p : ℕ) (b : Boundary level n p) where
    -- each cell before the boundary comes before what is sought, whichever of its keys is taken
    key_before : (i : ℕ) → i < p → (a : K) → HasKey level n i a → before a ≡ true
    key_before i less a has =
        let within : p ≤ count_at pages n = b.within in
        let last = b.last (omega arith) in
        ⊎_elim
        (λ (same : i ≡ p - 1). subst (λ (x : K). before x ≡ true) (one level n (p - 1) last.0 a last.1 (subst (λ (k : ℕ). HasKey level n k a) same has)) last.2)
        (λ (other : i ≡ p - 1 → ⊥). cut.less a last.0
        (on_page HasKey IsBefore IsAtMost pages kind root keys order depth n stands level page i (p - 1) (omega arith) (omega arith) level level a last.0 page (omega arith) page (omega arith) has last.1) last.2)
        (cases_eq i (p - 1))

    key_behind : (i : ℕ) → p ≤ i → i < count_at pages n → (a : K) → HasKey level n i a → before a ≡ false
    key_behind i least within a has =
        let next = b.next (omega arith) in
        ⊎_elim
        (λ (same : i ≡ p). subst (λ (x : K). before x ≡ false) (one level n p next.0 a next.1 (subst (λ (k : ℕ). HasKey level n k a) same has)) next.2)
        (λ (other : i ≡ p → ⊥). not_true (before a) (λ is. true_false (before next.0) (cut.less next.0 a
        (on_page HasKey IsBefore IsAtMost pages kind root keys order depth n stands level page p i (omega arith) within level level next.0 a page (omega arith) page within next.1 has) is) next.2))
        (cases_eq i p)

    -- the cells of this page
    pub own_before : (i : ℕ) → i < p → CellThat true (place_at n i)
    own_before i less =
        let within : p ≤ count_at pages n = b.within in
        let key = keys.key_of level n i page (omega arith) in
        record { level = level; page = page; within = omega arith; is = (key.0, key.1, key_before i less key.0 key.1) }

    pub own_behind : (i : ℕ) → p ≤ i → i < count_at pages n → CellThat false (place_at n i)
    own_behind i least within =
        let key = keys.key_of level n i page within in
        record { level = level; page = page; within = within; is = (key.0, key.1, key_behind i least within key.0 key.1) }

  -- the cells under the children of an interior page
  module _ (height depth n : ℕ) (stands : StandsAt pages kind root depth n) (shape : HasShape pages kind (suc height) n) (p : ℕ) (b : Boundary Interior n p) where
    place_of : (i : ℕ) → i ≤ count_at pages n → (x : Place) → Contains (branch pages kind height n i) x
        → (level : Level) × IsPageOf pages kind level x.page × (x.index < count_at pages x.page)
    place_of i within x h = ⊎_elim
        (λ (under : Contains (places_under pages kind height (child_at pages n i)) x).
        let is = sound pages kind height (child_at pages n i) (shape.1 i within).1 x under in (is.level, is.page, is.within))
        (λ own.
        let o = from_own pages n i x own.1 in
        subst (λ (y : Place). (level : Level) × IsPageOf pages kind level y.page × (y.index < count_at pages y.page)) o.1 (Interior, shape.0, o.0))
        (with_own_cases kind (places_under pages kind height (child_at pages n i)) (own_places pages n i) x h)

    -- those under a child before the boundary, and of their cells
    pub under_before : (i : ℕ) → i < p → (x : Place) → Contains (branch pages kind height n i) x → CellThat true x
    under_before i less x h =
        let within : p ≤ count_at pages n = b.within in
        let at = place_of i (omega arith) x h in
        let key = keys.key_of at.0 x.page x.index at.1 at.2 in
        let up = up_to HasKey IsBefore IsAtMost pages kind root keys order height depth n i stands shape (omega arith) x h at.0 key.0 at.1 at.2 key.1 in
        let above = key_before depth n stands Interior shape.0 p b i less up.0 up.1 in
        record {
          level = at.0;
          page = at.1;
          within = at.2;
          is = (
            key.0,
            key.1,
            ⊎_elim
                (λ (most : IsAtMost key.0 up.0). cut.most key.0 up.0 most above)
                (λ (same : key.0 ≡ up.0). subst (λ (k : K). before k ≡ true) (sym same) above)
                up.2,
          );
        }

    -- those under a child behind the boundary, and of their cells
    pub under_behind : (i : ℕ) → p < i → i ≤ count_at pages n → (x : Place) → Contains (branch pages kind height n i) x → CellThat false x
    under_behind i more within x h =
        let at = place_of i within x h in
        let key = keys.key_of at.0 x.page x.index at.1 at.2 in
        let next = b.next (omega arith) in
        record {
          level = at.0;
          page = at.1;
          within = at.2;
          is = (
            key.0,
            key.1,
            not_true (before key.0) (λ is. true_false (before next.0) (cut.less next.0 key.0
                (past_cells HasKey IsBefore IsAtMost pages kind root keys order height depth n p i stands shape more within x h at.0 next.0 key.0 at.1 at.2 next.1 key.1) is) next.2),
          );
        }

    -- A cell that is the first behind what is sought stands under the child at the boundary, or is that child's own cell.
    pub under_here : (i : ℕ) → i ≤ count_at pages n → (x : Place) → Contains (branch pages kind height n i) x → (behind : CellThat false x)
        → ((y : K) → IsBefore y behind.is.0 → before y ≡ true) → i ≡ p
    under_here i within x h behind first = ⊎_elim
        (λ (less : i < p). absurd (one_answer x (under_before i less x h) behind))
        (λ (least : p ≤ i). ⊎_elim
        (λ (more : p < i).
        let next = b.next (omega arith) in
        let past = past_cells HasKey IsBefore IsAtMost pages kind root keys order height depth n p i stands shape more within x h behind.level next.0 behind.is.0 behind.page behind.within next.1 behind.is.1 in
        absurd (true_false (before next.0) (first next.0 past) next.2))
        (λ (most : i ≤ p). omega arith)
        (cases_lt p i))
        (cases_lt i p)
