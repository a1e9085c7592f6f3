-- Values put one after the other.
use Rattle.std.proofs.Common.{◌≡◌, ◌∙◌, ◌≢◌, ◌+◌, ◌<◌, ℕ, zero, suc, ◌⊎◌, inl, inr, List, get_or, length, set, Option, Some, refl, sym, ap, subst, arith}
use Rattle.std.specs.List.{range_with_len}
use Rattle.std.proofs.lemmas.List.{get_or-set_other, get_or-set_same, get_or_default}
use Rattle.values.specs.Datum.{Datum, null}
use Rattle.semantics.specs.Sequence.{value_at}
use Rattle.windows.specs.window_results.Put.{PutsEach}

same_or_other : (j i : ℕ) → (j ≡ i) ⊎ (j ≢ i)
same_or_other zero zero = inl refl
same_or_other zero (suc i) = inr (λ e. omega (arith, e))
same_or_other (suc j) zero = inr (λ e. omega (arith, e))
same_or_other (suc j) (suc i) = elim (same_or_other j i) [ inl e ↦ inl (ap suc e) | inr apart ↦ inr (λ e. apart (omega (arith, e))) ]

last_or_before : (k n : ℕ) → k < n + 1 → (k < n) ⊎ (n ≡ k)
last_or_before zero zero h = inr (omega arith)
last_or_before zero (suc n) h = inl (omega arith)
last_or_before (suc k) zero h = absurd (omega (arith, h))
last_or_before (suc k) (suc n) h = elim (last_or_before k n (omega (arith, h))) [ inl p ↦ inl (omega (arith, p)) | inr p ↦ inr (omega (arith, p)) ]

-- so many of them are put
pub record ArePut (want : ℕ → Option Datum) (numbers : List ℕ) (before after : List Datum) (n : ℕ) : Type 0 where
  pub kept : (i : ℕ) → want i ≡ Some (value_at before i) → want i ≡ Some (value_at after i)
  pub put : (k : ℕ) → k < n → want (get_or numbers k 0) ≡ Some (value_at after (get_or numbers k 0))

module _ (want : ℕ → Option Datum) (numbers : List ℕ) (before : List Datum) where
  pub none_put : ArePut want numbers before before 0
  none_put = record { kept = λ i is. is; put = λ k h. absurd (omega (arith, h)) }

  module _ (after : List Datum) (n i : ℕ) (v : Datum) (inside : i < length after) (at : get_or numbers n 0 ≡ i) (is : want i ≡ Some v) where
    stays : (j : ℕ) → want j ≡ Some (value_at after j) → want j ≡ Some (value_at (set after i v) j)
    stays j right = elim (same_or_other j i) [
      | inl e ↦ ap want e ∙ is ∙ ap Some (sym (get_or-set_same after i v null inside)) ∙ ap (λ k. Some (value_at (set after i v) k)) (sym e)
      | inr apart ↦ right ∙ ap Some (sym (get_or-set_other after i j v null apart))
    ]

    pub one_more_put : ArePut want numbers before after n → ArePut want numbers before (set after i v) (n + 1)
    one_more_put so_far = record {
      kept = λ j right. stays j (so_far.kept j right);
      put = λ k h. elim (last_or_before k n h) [
        | inl low ↦ stays (get_or numbers k 0) (so_far.put k low)
        | inr same ↦
            let here : get_or numbers k 0 ≡ i = ap (λ m. get_or numbers m 0) (sym same) ∙ at in
            ap want here ∙ is ∙ ap Some (sym (get_or-set_same after i v null inside)) ∙ ap (λ k. Some (value_at (set after i v) k)) (sym here)
      ];
    }

  pub all_put : (after : List Datum) (n : ℕ) → n ≡ length numbers → ArePut want numbers before after n → PutsEach want numbers before after
  all_put after n all are = record {
    kept = are.kept;
    put = λ k d h.
        let same = get_or_default numbers k d 0 h in
        subst (λ i. want i ≡ Some (value_at after i)) (sym same) (are.put k (omega (arith, all, h)));
  }

-- ---- places

pub range_at : (n a i d : ℕ) → i < n → get_or (range_with_len a n) i d ≡ a + i
range_at zero a i d h = absurd (omega (arith, h))
range_at (suc n) a zero d h = let none : a ≡ a + 0 = omega arith in none
range_at (suc n) a (suc i) d h = let next : a + 1 + i ≡ a + suc i = omega arith in range_at n (a + 1) i d (omega (arith, h)) ∙ next

pub length-range : (n a : ℕ) → length (range_with_len a n) ≡ n
length-range zero a = refl
length-range (suc n) a = ap suc (length-range n (a + 1))
