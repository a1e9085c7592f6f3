-- The freelist, trunk page by trunk page.
use Rattle.std.proofs.Common.{◌≡◌, ◌≢◌, ℕ, zero, suc, ◌+◌, ◌<◌, ◌≤◌, refl, sym, ap, ◌∙◌, subst, ⊎_elim, arith}
use Rattle.std.proofs.lemmas.Bool.{cases_lt}
use Rattle.btree.specs.image.Pages.{Pages, IsNumber}
use Rattle.btree.specs.image.Freelist.{IsFreelist, IsSoundTrunk, free_before, leaf_count, next_trunk, trunk_at}
use Rattle.btree.specs.page_use.FreeWalk.{IsFreeWalk}

module _ (pages : Pages) (first total : ℕ) where
  pub walk_none : IsFreeWalk pages first total 0 first total
  walk_none = record { next_is = refl; sound = λ j less. absurd (omega (arith, less)); left_is = omega arith }

  -- the first trunk pages are no more than more of them
  fewer : (j k : ℕ) → j ≤ k → free_before pages first j ≤ free_before pages first k
  fewer j zero most = let e : j ≡ 0 = omega (arith, most) in subst (λ (x : ℕ). free_before pages first x ≤ 0) (sym e) (omega arith)
  fewer j (suc k) most = ⊎_elim
      (λ (less : j < suc k). let h : free_before pages first j ≤ free_before pages first k = fewer j k (omega (arith, less)) in omega (arith, h))
      (λ (least : suc k ≤ j). let e : j ≡ suc k = omega arith in subst (λ (x : ℕ). free_before pages first x ≤ free_before pages first (suc k)) (sym e) (omega arith))
      (cases_lt j (suc k))

  no_zero : IsSoundTrunk pages 0 → ⊥
  no_zero sound = let n : IsNumber pages 0 = sound.trunk.number in omega (arith, n.0)

  module _ (k next left : ℕ) (walk : IsFreeWalk pages first total k next left) where
    -- a freelist doesn't end before the trunk pages that were gone through
    least_count : (free : IsFreelist pages first total) → k ≤ free.count
    least_count free = ⊎_elim
        (λ (less : free.count < k). absurd (no_zero (subst (λ (x : ℕ). IsSoundTrunk pages x) free.last (walk.sound free.count less))))
        (λ (least : k ≤ free.count). least)
        (cases_lt free.count k)

    goes_on : (free : IsFreelist pages first total) → next ≢ 0 → k < free.count
    goes_on free some = ⊎_elim
        (λ (less : k < free.count). less)
        (λ (most : free.count ≤ k).
        let least : k ≤ free.count = least_count free in
        let e : k ≡ free.count = omega arith in
        absurd (some (walk.next_is ∙ ap (λ (x : ℕ). trunk_at pages first x) e ∙ free.last)))
        (cases_lt k free.count)

    pub bad_trunk : next ≢ 0 → ¬ IsSoundTrunk pages next → ¬ IsFreelist pages first total
    bad_trunk some none free = none (subst (λ (x : ℕ). IsSoundTrunk pages x) (sym walk.next_is) (free.trunks k (goes_on free some)))

    pub too_few : next ≢ 0 → left < 1 + leaf_count pages next → ¬ IsFreelist pages first total
    too_few some less free =
        let all : free_before pages first (suc k) ≤ free_before pages first free.count = fewer (suc k) free.count (goes_on free some) in
        let count : leaf_count pages next ≡ leaf_count pages (trunk_at pages first k) = ap (λ (x : ℕ). leaf_count pages x) walk.next_is in
        omega (arith, all, count, less, walk.left_is, free.total_is)

    pub walk_more : (after fewer_left : ℕ) → IsSoundTrunk pages next → after ≡ next_trunk pages next → fewer_left + (1 + leaf_count pages next) ≡ left
        → IsFreeWalk pages first total (suc k) after fewer_left
    walk_more after fewer_left sound after_is left_is =
        let count : leaf_count pages next ≡ leaf_count pages (trunk_at pages first k) = ap (λ (x : ℕ). leaf_count pages x) walk.next_is in
        record {
          next_is = after_is ∙ ap (λ (x : ℕ). next_trunk pages x) walk.next_is;
          sound = λ j less. ⊎_elim
              (λ (before : j < k). walk.sound j before)
              (λ (least : k ≤ j). let e : j ≡ k = omega (arith, less) in
              subst (λ (x : ℕ). IsSoundTrunk pages x) (walk.next_is ∙ ap (λ (x : ℕ). trunk_at pages first x) (sym e)) sound)
              (cases_lt j k);
          left_is = omega (arith, count, left_is, walk.left_is);
        }

    pub whole : next ≡ 0 → left ≡ 0 → IsFreelist pages first total
    whole last none = record { count = k; trunks = walk.sound; last = sym walk.next_is ∙ last; total_is = omega (arith, none, walk.left_is) }

    pub some_left : next ≡ 0 → left ≢ 0 → ¬ IsFreelist pages first total
    some_left last some free =
        let least : k ≤ free.count = least_count free in
        ⊎_elim
        (λ (more : k < free.count). no_zero (subst (λ (x : ℕ). IsSoundTrunk pages x) (sym walk.next_is ∙ last) (free.trunks k more)))
        (λ (most : free.count ≤ k).
        let e : k ≡ free.count = omega arith in
        let same : free_before pages first k ≡ free_before pages first free.count = ap (λ (x : ℕ). free_before pages first x) e in
        some (omega (arith, same, walk.left_is, free.total_is)))
        (cases_lt k free.count)
