-- Places in a list that ascends.
use Rattle.std.proofs.Common.{◌≡◌, ◌∙◌, ◌+◌, ◌<◌, ◌≤◌, ◌++◌, Bool, true, false, cond, ℕ, zero, suc, List, [], ◌∷◌, drop, filter, get_or, length, take, refl, sym, ap, subst, arith}
use Rattle.std.proofs.lemmas.Bool.{false≢true}
use Rattle.std.proofs.lemmas.List.{get_or-drop, get_or-take, length-append, length-drop, length-take-le, take-append-drop}
use Rattle.std.proofs.lemmas.List.Elements.{filter-append}
use Rattle.windows.specs.window_partitions.Tagged.{tagged}
use Rattle.windows.proofs.lemmas.window_partitions.KeptLemmas.{kept_at, none_kept}

-- ---- elements with their numbers

module _ {X : Type 0} (p : X × ℕ → Bool) where
  low_first : (n : ℕ) (x : X) (L : List (X × ℕ)) (d : X × ℕ) → ((a : ℕ) → a < length L → n + 1 ≤ (get_or L a d).1) → (k : ℕ) → k < length ((x, n) ∷ L)
      → n ≤ (get_or ((x, n) ∷ L) k d).1
  low_first n x L d rest zero inside = omega arith
  low_first n x L d rest (suc k) inside = let ih = rest k (omega (arith, inside)) in omega (arith, ih)

  low : (n : ℕ) (xs : List X) (d : X × ℕ) (a : ℕ) → a < length (filter p (tagged n xs)) → n ≤ (get_or (filter p (tagged n xs)) a d).1
  low n [] d a h = absurd (omega (arith, h))
  low n (x ∷ xs) d a h =
      let ih = low (n + 1) xs d in
      elim (p (x, n)) as (λ b. a < length (cond b ((x, n) ∷ filter p (tagged (n + 1) xs)) (filter p (tagged (n + 1) xs)))
      → n ≤ (get_or (cond b ((x, n) ∷ filter p (tagged (n + 1) xs)) (filter p (tagged (n + 1) xs))) a d).1) [
        | true ↦ low_first n x (filter p (tagged (n + 1) xs)) d ih a
        | false ↦ λ inside. let one = ih a inside in omega (arith, one)
      ] h

  one_first : (n : ℕ) (x : X) (L : List (X × ℕ)) (d : X × ℕ) → ((a : ℕ) → a < length L → n + 1 ≤ (get_or L a d).1)
      → ((a b : ℕ) → a < length L → b < length L → (get_or L a d).1 ≡ (get_or L b d).1 → a ≡ b)
      → (k l : ℕ) → k < length ((x, n) ∷ L) → l < length ((x, n) ∷ L) → (get_or ((x, n) ∷ L) k d).1 ≡ (get_or ((x, n) ∷ L) l d).1 → k ≡ l
  one_first n x L d least one zero zero q r same = refl
  one_first n x L d least one zero (suc l) q r same = let ih = least l (omega (arith, r)) in absurd (omega (arith, ih, same))
  one_first n x L d least one (suc k) zero q r same = let ih = least k (omega (arith, q)) in absurd (omega (arith, ih, same))
  one_first n x L d least one (suc k) (suc l) q r same = ap suc (one k l (omega (arith, q)) (omega (arith, r)) same)

  -- a number is met once
  one_place : (n : ℕ) (xs : List X) (d : X × ℕ) (a b : ℕ) → a < length (filter p (tagged n xs)) → b < length (filter p (tagged n xs))
      → (get_or (filter p (tagged n xs)) a d).1 ≡ (get_or (filter p (tagged n xs)) b d).1 → a ≡ b
  one_place n [] d a b h i e = absurd (omega (arith, h))
  one_place n (x ∷ xs) d a b h i e =
      let ih = one_place (n + 1) xs d in
      let L = filter p (tagged (n + 1) xs) in
      elim (p (x, n)) as (λ c. a < length (cond c ((x, n) ∷ filter p (tagged (n + 1) xs)) (filter p (tagged (n + 1) xs)))
      → b < length (cond c ((x, n) ∷ filter p (tagged (n + 1) xs)) (filter p (tagged (n + 1) xs)))
      → (get_or (cond c ((x, n) ∷ filter p (tagged (n + 1) xs)) (filter p (tagged (n + 1) xs))) a d).1
      ≡ (get_or (cond c ((x, n) ∷ filter p (tagged (n + 1) xs)) (filter p (tagged (n + 1) xs))) b d).1 → a ≡ b) [
        | true ↦ one_first n x L d (low (n + 1) xs d) ih a b
        | false ↦ ih a b
      ] h i e

pub length-tagged : {X : Type 0} (n : ℕ) (xs : List X) → length (tagged n xs) ≡ length xs
length-tagged n [] = refl
length-tagged n (x ∷ xs) = ap suc (length-tagged (n + 1) xs)

pub tagged_at : {X : Type 0} (n : ℕ) (xs : List X) (i : ℕ) (d : X × ℕ) (e : X) → i < length xs → get_or (tagged n xs) i d ≡ (get_or xs i e, n + i)
tagged_at n [] i d e h = absurd (omega (arith, h))
tagged_at n (x ∷ xs) zero d e h = let none : n ≡ n + 0 = omega arith in ap (λ k. (x, k)) none
tagged_at n (x ∷ xs) (suc i) d e h =
    let next : n + 1 + i ≡ n + suc i = omega arith in
    tagged_at (n + 1) xs i d e (omega (arith, h)) ∙ ap (λ k. (get_or xs i e, k)) next

pub kept_of_tagged : {X : Type 0} (p : X → Bool) (n : ℕ) (xs : List X) (i : ℕ) → length (filter (λ (t : X × ℕ). p t.0) (take i (tagged n xs))) ≡ length (filter p (take i xs))
kept_of_tagged p n xs zero = refl
kept_of_tagged p n [] (suc i) = refl
kept_of_tagged {X} p n (x ∷ xs) (suc i) =
    elim (p x) as (λ b. length (cond b ((x, n) ∷ filter (λ (t : X × ℕ). p t.0) (take i (tagged (n + 1) xs))) (filter (λ (t : X × ℕ). p t.0) (take i (tagged (n + 1) xs))))
    ≡ length (cond b (x ∷ filter p (take i xs)) (filter p (take i xs)))) [
      | true ↦ ap suc (kept_of_tagged p (n + 1) xs i)
      | false ↦ kept_of_tagged p (n + 1) xs i
    ]

-- of equal elements in two lists that hold them in one order, as many stand before one
pub same_before : {X : Type 0} (p : X → Bool) (xs : List X) (T : List (X × ℕ)) (j : ℕ) (t : X × ℕ) (d : X) → j < length T → get_or T j t ≡ t → p t.0 ≡ true
    → t.1 < length xs → get_or xs t.1 d ≡ t.0 → filter (λ (s : X × ℕ). p s.0) T ≡ filter (λ (s : X × ℕ). p s.0) (tagged 0 xs)
    → length (filter (λ (s : X × ℕ). p s.0) (take j T)) ≡ length (filter p (take t.1 xs))
same_before {X} p xs T j t d inside is holds within there same =
    let q : X × ℕ → Bool = λ s. p s.0 in
    let low_side = kept_at q T j t inside (ap q is ∙ holds) in
    let at : get_or (tagged 0 xs) t.1 t ≡ t = tagged_at 0 xs t.1 t d within ∙ (λ i. (there i, nothing t.1 i)) in
    let size = length-tagged 0 xs in
    let high_side = kept_at q (tagged 0 xs) t.1 t (omega (arith, within, size)) (ap q at ∙ holds) in
    let a = length (filter q (take j T)) in
    let b = length (filter q (take t.1 (tagged 0 xs))) in
    let first : a < length (filter q (tagged 0 xs)) = subst (λ l. a < length l) same low_side.0 in
    let one : a ≡ b = one_place q 0 xs t a b first high_side.0
    (ap (λ l. (get_or l a t).1) (sym same) ∙ ap (λ (s : X × ℕ). s.1) (low_side.1 ∙ is) ∙ sym (ap (λ (s : X × ℕ). s.1) (high_side.1 ∙ at))) in
    one ∙ kept_of_tagged p 0 xs t.1
  where
    nothing : (n : ℕ) → 0 + n ≡ n
    nothing n = omega arith

-- ---- an element of an ascending list

module _ {X : Type 0} (lt eq : X → X → Bool) (r : X) (apart : (x : X) → eq r x ≡ true → lt x r ≡ false)
    (ties : (x : X) → lt x r ≡ false → lt r x ≡ false → eq r x ≡ true) where
  each_before : (b e : Bool) (n m l : ℕ) → (e ≡ true → b ≡ false) → (b ≡ false → e ≡ true) → n + m ≡ l → cond b (suc n) n + cond e (suc m) m ≡ suc l
  each_before true true n m l f g is = absurd (false≢true (sym (f refl)))
  each_before true false n m l f g is = omega (arith, is)
  each_before false true n m l f g is = omega (arith, is)
  each_before false false n m l f g is = absurd (false≢true (g refl))

  length_cond : (b : Bool) (x : X) (xs : List X) → length (cond b (x ∷ xs) xs) ≡ cond b (suc (length xs)) (length xs)
  length_cond true x xs = refl
  length_cond false x xs = refl

  all_before : (xs : List X) → ((k : ℕ) (d : X) → k < length xs → lt r (get_or xs k d) ≡ false) → length (filter (λ o. lt o r) xs) + length (filter (eq r) xs) ≡ length xs
  all_before [] h = refl
  all_before (x ∷ xs) h =
      let ih = all_before xs (λ k d low. h (suc k) d (omega (arith, low))) in
      (λ i. length_cond (lt x r) x (filter (λ o. lt o r) xs) i + length_cond (eq r x) x (filter (eq r) xs) i)
      ∙ each_before (lt x r) (eq r x) (length (filter (λ o. lt o r) xs)) (length (filter (eq r) xs)) (length xs) (apart x) (λ no. ties x no (h 0 x (omega arith))) ih

  -- its place is behind the lesser ones, and behind the equal ones before it
  pub place_in : (xs : List X) (j : ℕ) → j < length xs → ((k : ℕ) (d : X) → k < j → lt r (get_or xs k d) ≡ false)
      → ((k : ℕ) (d : X) → j ≤ k → k < length xs → lt (get_or xs k d) r ≡ false) → length (filter (λ o. lt o r) xs) + length (filter (eq r) (take j xs)) ≡ j
  place_in xs j inside before behind =
      let front = length-take-le j xs (omega (arith, inside)) in
      let back = length-drop j xs in
      let first = all_before (take j xs) (λ k d h. ap (lt r) (get_or-take j xs k d (omega (arith, h, front))) ∙ before k d (omega (arith, h, front))) in
      let rest : filter (λ o. lt o r) (drop j xs) ≡ [] = none_kept (λ o. lt o r) (drop j xs)
      (λ k d h. ap (λ x. lt x r) (get_or-drop j xs k d) ∙ behind (j + k) d (omega arith) (omega (arith, h, back))) in
      let whole : filter (λ o. lt o r) xs ≡ filter (λ o. lt o r) (take j xs) ++ [] = ap (filter (λ o. lt o r)) (sym (take-append-drop j xs))
      ∙ filter-append (λ o. lt o r) (take j xs) (drop j xs) ∙ ap (λ l. filter (λ o. lt o r) (take j xs) ++ l) rest in
      let size = ap length whole ∙ length-append (filter (λ o. lt o r) (take j xs)) [] in
      omega (arith, size, first, front)
