-- Along a sequence peer groups are numbered one after the other.
use Rattle.std.proofs.Common.{◌≡◌, ◌∙◌, ◌+◌, ◌-◌, ◌<◌, ◌≤◌, ◌||◌, ◌⊎◌, inl, inr, min, Bool, true, false, ℕ, zero, suc, Ordering, Less, Equal, Greater, List, [], ◌∷◌, filter, length, if◌then◌else◌, cond, refl, sym, ap, subst, arith, IsPermutation}
use native.Mathlib.Numerals.{add-one}
use Rattle.std.proofs.lemmas.Bool.{false≢true}
use Rattle.std.proofs.lemmas.Bool.Decides.{nat_tests}
use Rattle.std.proofs.lemmas.List.Sorted.{length_permutation}
use Rattle.std.specs.Cmp.{IsTotalOrder, tied_itself}
use Rattle.std.specs.Ordering.{is_lt, is_ne, nat_cmp, ordering_reverse, ordering_then}
use Rattle.values.specs.Datum.{Datum}
use Rattle.values.specs.Order.{datum_cmp}
use Rattle.values.specs.OrderLaws.{datum_cmp-IsAntisymmetric}
use Rattle.values.specs.Row.{Row}
use Rattle.semantics.specs.Query.{Direction}
use Rattle.semantics.specs.Sequence.{along, directed_cmp, keys_cmp}
use Rattle.semantics.specs.Times.{once, same_row, times}
use Rattle.semantics.specs.Windows.{earlier, peer_group, row_at}
use Rattle.semantics.proofs.KeyLemmas.{keys_cmp_total}
use Rattle.semantics.proofs.TimesLemmas.{bags_are_times, same_row-itself, same_row-reads, times-once}
use Rattle.windows_groups.specs.window_order.Entries.{IsInWindowOrder}
use Rattle.windows_groups.specs.window_order.Groups.{groups_made}

-- ---- keys that tie are equal

both_tie : (o p : Ordering) → ordering_then o p ≡ Equal → (o ≡ Equal) × (p ≡ Equal)
both_tie Less p e = absurd cc
both_tie Equal p e = (refl, e)
both_tie Greater p e = absurd cc

along-ties : (descending : Bool) (a b : Datum) → along descending datum_cmp a b ≡ Equal → a ≡ b
along-ties true a b e = sym (datum_cmp-IsAntisymmetric b a e)
along-ties false a b e = datum_cmp-IsAntisymmetric a b e

pub directed-ties : (d : Direction) (a b : Datum) → directed_cmp d a b ≡ Equal → a ≡ b
directed-ties d a b e = along-ties d.descending a b (both_tie _ _ e).1

pub keys-ties : (ds : List Direction) (x y : Row) → length x ≡ length ds → length y ≡ length ds → keys_cmp ds x y ≡ Equal → x ≡ y
keys-ties [] [] [] p q e = refl
keys-ties [] (a ∷ x) y p q e = absurd (omega (arith, p))
keys-ties [] [] (b ∷ y) p q e = absurd (omega (arith, q))
keys-ties (d ∷ ds) [] y p q e = absurd (omega (arith, p))
keys-ties (d ∷ ds) (a ∷ x) [] p q e = absurd (omega (arith, q))
keys-ties (d ∷ ds) (a ∷ x) (b ∷ y) p q e =
    let tie = both_tie (directed_cmp d a b) (keys_cmp ds x y) e in
    let first = directed-ties d a b tie.0 in
    let rest = keys-ties ds x y (omega (arith, p)) (omega (arith, q)) tie.1 in
    (λ i. first i ∷ rest i)

-- ---- rows of a list

nothing_more : (n : ℕ) → 0 + n ≡ n
nothing_more n = omega arith

within_kept : (b : Bool) (n : ℕ) → cond b n 0 ≡ cond b (0 + n) 0
within_kept true n = omega arith
within_kept false n = refl

times-filter : (p : Row → Bool) (r : Row) (xs : List Row) → times r (filter p xs) ≡ (if p r then times r xs else 0)
times-filter p r [] = elim (p r) as (λ b. ◌≡◌ {A = ℕ} 0 (cond b 0 0)) [ true ↦ refl | false ↦ refl ]
times-filter p r (x ∷ xs) =
    elim (same_row r x) as (λ s. same_row r x ≡ s → times r (filter p (x ∷ xs)) ≡ cond (p r) (cond s 1 0 + times r xs) 0) [
      | true ↦ λ e.
          let same : p r ≡ p x = ap p (same_row-reads r x e) in
          elim (p x) as (λ b. p x ≡ b → times r (cond b (x ∷ filter p xs) (filter p xs)) ≡ cond (p r) (1 + times r xs) 0) [
            | true ↦ λ h. let yes : p r ≡ true = same ∙ h in let ih = times-filter p r xs in
                rw e (rw ih (rw yes refl))
            | false ↦ λ h. let no : p r ≡ false = same ∙ h in let ih = times-filter p r xs in
                rw ih (rw no refl)
          ] refl
      | false ↦ λ e.
          let ih = times-filter p r xs in
          elim (p x) as (λ b. times r (cond b (x ∷ filter p xs) (filter p xs)) ≡ cond (p r) (0 + times r xs) 0) [
            | true ↦ rw e (nothing_more (times r (filter p xs)) ∙ ih ∙ within_kept (p r) (times r xs))
            | false ↦ ih ∙ within_kept (p r) (times r xs)
          ]
    ] refl

-- a place of a row that is held
times-place : (r : Row) (xs : List Row) → 0 < times r xs → (j : ℕ) × (j < length xs) × (row_at xs j ≡ r)
times-place r [] h = absurd (omega (arith, h))
times-place r (x ∷ xs) h =
    elim (same_row r x) as (λ s. same_row r x ≡ s → 0 < cond s 1 0 + times r xs → (j : ℕ) × (j < length (x ∷ xs)) × (row_at (x ∷ xs) j ≡ r)) [
      | true ↦ λ e p. (0, omega arith, sym (same_row-reads r x e))
      | false ↦ λ e p. let later = times-place r xs (omega (arith, p)) in (suc later.0, omega (arith, later.1), later.2)
    ] refl h

held : (xs : List Row) (j : ℕ) → j < length xs → 0 < times (row_at xs j) xs
held [] j h = absurd (omega (arith, h))
held (x ∷ xs) zero h = rw (same_row-itself x) (omega arith)
held (x ∷ xs) (suc j) h = let ih = held xs j (omega (arith, h)) in omega (arith, ih)

none_kept : (p : Row → Bool) (xs : List Row) → ((j : ℕ) → j < length xs → p (row_at xs j) ≡ false) → filter p xs ≡ []
none_kept p [] h = refl
none_kept p (x ∷ xs) h = rw (h 0 (omega arith)) (none_kept p xs (λ j low. h (suc j) (omega (arith, low))))

-- ---- a key more

module _ (ds : List Direction) (keys : List Row) (k next : Row) (has : 0 < times k keys)
    (splits : (r : Row) → 0 < times r keys → is_lt (keys_cmp ds r next) ≡ (is_lt (keys_cmp ds r k) || same_row r k)) where
  itself : is_lt (keys_cmp ds k k) ≡ false
  itself = ap is_lt (tied_itself (keys_cmp_total ds) k)

  count_of : (n : ℕ) (a b s : Bool) → (0 < n → a ≡ (b || s)) → (s ≡ true → (b ≡ false) × (0 < n)) → min 1 (cond a n 0) ≡ cond s 1 0 + min 1 (cond b n 0)
  count_of zero a b true split one = absurd (omega (arith, (one refl).1))
  count_of zero true true false split one = refl
  count_of zero true false false split one = refl
  count_of zero false true false split one = refl
  count_of zero false false false split one = refl
  count_of (suc n) a b true split one =
      let no = (one refl).0 in
      let yes : a ≡ true = split (omega arith) ∙ ap (λ c. c || true) no in
      rw (yes, no) (omega arith)
  count_of (suc n) a true false split one = rw (split (omega arith)) (omega arith)
  count_of (suc n) a false false split one = rw (split (omega arith)) (omega arith)

  one_more : (r : Row) → times r (once (earlier ds keys next)) ≡ times r (k ∷ once (earlier ds keys k))
  one_more r =
      times-once r (earlier ds keys next) ∙ ap (min 1) (times-filter (λ other. is_lt (keys_cmp ds other next)) r keys)
      ∙ count_of (times r keys) (is_lt (keys_cmp ds r next)) (is_lt (keys_cmp ds r k)) (same_row r k) (splits r)
      (λ e. let same = same_row-reads r k e in (ap (λ x. is_lt (keys_cmp ds x k)) same ∙ itself, subst (λ x. 0 < times x keys) (sym same) has))
      ∙ sym (ap (λ n. cond (same_row r k) 1 0 + n) (times-once r (earlier ds keys k) ∙ ap (min 1) (times-filter (λ other. is_lt (keys_cmp ds other k)) r keys)))

  pub key_more : length (once (earlier ds keys next)) ≡ length (once (earlier ds keys k)) + 1
  key_more =
      let same : IsPermutation (once (earlier ds keys next)) (k ∷ once (earlier ds keys k)) = (bags_are_times _ _).1 one_more in
      let size = length_permutation _ _ same in
      omega (arith, size)

-- ---- the groups of a sequence

reaches : (i j : ℕ) → (j ≤ i) ⊎ (i + 1 ≤ j)
reaches i zero = inl (omega arith)
reaches zero (suc j) = inr (omega arith)
reaches (suc i) (suc j) = elim (reaches i j) [ inl h ↦ inl (omega (arith, h)) | inr h ↦ inr (omega (arith, h)) ]

is_Less : (o : Ordering) → is_ne o ≡ true → is_lt (ordering_reverse o) ≡ false → o ≡ Less
is_Less Less p q = refl
is_Less Equal p q = absurd cc
is_Less Greater p q = absurd cc

is_Equal : (o : Ordering) → is_ne o ≡ false → o ≡ Equal
is_Equal Less p = absurd cc
is_Equal Equal p = refl
is_Equal Greater p = absurd cc

module _ (ds : List Direction) (keys : List Row) (up : IsInWindowOrder ds keys) where
  R : Row → Row → Ordering
  R = keys_cmp ds

  o : IsTotalOrder (keys_cmp ds)
  o = keys_cmp_total ds

  -- of a key at a place or before it
  low_side : (c : Ordering) (r k next : Row) → keys_cmp ds r k ≡ c → is_lt (keys_cmp ds k r) ≡ false → keys_cmp ds k next ≡ Less → (c ≡ Equal → r ≡ k)
      → is_lt (keys_cmp ds r next) ≡ (is_lt (keys_cmp ds r k) || same_row r k)
  low_side Less r k next is not_back less tie = ap is_lt (o.trans r k next is less) ∙ sym (ap (λ x. is_lt x || same_row r k) is)
  low_side Equal r k next is not_back less tie =
      let same = tie refl in
      ap is_lt (o.congr r k next is ∙ less) ∙ sym (ap (λ x. is_lt x || same_row r k) is ∙ ap (λ x. same_row x k) same ∙ same_row-itself k)
  low_side Greater r k next is not_back less tie = absurd (false≢true (sym not_back ∙ ap is_lt (o.antisymm k r ∙ ap ordering_reverse is)))

  -- of one behind it
  high_side : (b s : Bool) (r k next : Row) → is_lt (keys_cmp ds r k) ≡ b → same_row r k ≡ s → is_lt (keys_cmp ds r next) ≡ false → keys_cmp ds k next ≡ Less
      → is_lt (keys_cmp ds r next) ≡ (b || s)
  high_side true s r k next is eq not_less less = absurd (false≢true (sym not_less ∙ ap is_lt (o.trans r k next (is_less (keys_cmp ds r k) is) less)))
    where
      is_less : (o : Ordering) → is_lt o ≡ true → o ≡ Less
      is_less Less e = refl
      is_less Equal e = absurd cc
      is_less Greater e = absurd cc
  high_side false true r k next is eq not_less less = absurd (false≢true (sym not_less ∙ ap is_lt (ap (λ x. keys_cmp ds x next) (same_row-reads r k eq) ∙ less)))
  high_side false false r k next is eq not_less less = not_less

  splits_at : (i : ℕ) → i + 1 < length keys → keys_cmp ds (row_at keys i) (row_at keys (i + 1)) ≡ Less → (r : Row) → 0 < times r keys
      → is_lt (keys_cmp ds r (row_at keys (i + 1))) ≡ (is_lt (keys_cmp ds r (row_at keys i)) || same_row r (row_at keys i))
  splits_at i within less r has =
      let at = times-place r keys has in
      let j = at.0 in
      let inside : j < length keys = at.1 in
      let k = row_at keys i in
      let next = row_at keys (i + 1) in
      subst (λ x. is_lt (keys_cmp ds x next) ≡ (is_lt (keys_cmp ds x k) || same_row x k)) at.2
      (elim (reaches i j) [
        | inl h ↦ low_side (keys_cmp ds (row_at keys j) k) (row_at keys j) k next refl (up.rises j i h (omega (arith, within))) less
            (λ e. keys-ties ds (row_at keys j) k (up.whole j inside) (up.whole i (omega (arith, within))) e)
        | inr h ↦ high_side (is_lt (keys_cmp ds (row_at keys j) k)) (same_row (row_at keys j) k) (row_at keys j) k next refl refl (up.rises (i + 1) j h inside) less
      ])

  pub made-first : groups_made ds keys 1 ≡ 1
  made-first =
      let none : earlier ds keys (row_at keys 0) ≡ [] = none_kept _ keys (λ j low. up.rises 0 j (omega arith) low) in
      ap (λ l. length (once l) + 1) none

  made_by : (b : Bool) (i : ℕ) → i + 1 < length keys → is_ne (keys_cmp ds (row_at keys i) (row_at keys (i + 1))) ≡ b
      → peer_group ds keys (i + 1) ≡ (if b then peer_group ds keys i + 1 else peer_group ds keys i)
  made_by true i within is =
      let less : keys_cmp ds (row_at keys i) (row_at keys (i + 1)) ≡ Less =
      is_Less _ is (ap is_lt (sym (o.antisymm (row_at keys (i + 1)) (row_at keys i))) ∙ up.rises i (i + 1) (omega arith) within) in
      key_more ds keys (row_at keys i) (row_at keys (i + 1)) (held keys i (omega (arith, within))) (splits_at i within less)
  made_by false i within is =
      let same : row_at keys i ≡ row_at keys (i + 1) = keys-ties ds _ _ (up.whole i (omega (arith, within))) (up.whole (i + 1) within) (is_Equal _ is) in
      ap (λ k. length (once (earlier ds keys k))) (sym same)

  if-more : (b : Bool) (n m : ℕ) → n ≡ (if b then m + 1 else m) → n + 1 ≡ (if b then (m + 1) + 1 else m + 1)
  if-more true n m e = ap (λ x. x + 1) e
  if-more false n m e = ap (λ x. x + 1) e

  pub made-next : (at : ℕ) (b : Bool) → 0 < at → at < length keys → b ≡ is_ne (keys_cmp ds (row_at keys (at - 1)) (row_at keys at))
      → groups_made ds keys (at + 1) ≡ (if b then groups_made ds keys at + 1 else groups_made ds keys at)
  made-next zero b some within is = absurd (omega (arith, some))
  made-next (suc i) b some within is =
      let one : suc i ≡ i + 1 = omega arith in
      let back : suc i - 1 ≡ i = omega arith in
      ap (groups_made ds keys) (add-one (suc i))
      ∙ if-more b (peer_group ds keys (suc i)) (peer_group ds keys i)
      (ap (peer_group ds keys) one ∙ made_by b i (omega (arith, within)) (sym (is ∙ (λ j. is_ne (keys_cmp ds (row_at keys (back j)) (row_at keys (one j)))))))

  -- ---- the order of keys and of the numbers of groups

  number-rises : (i d : ℕ) → i + d < length keys → peer_group ds keys i ≤ peer_group ds keys (i + d)
  number-rises i zero within = let same : i + 0 ≡ i = omega arith in rw same (omega arith)
  number-rises i (suc d) within =
      let next : i + suc d ≡ i + d + 1 = omega arith in
      let ih = number-rises i d (omega (arith, within)) in
      let step = made_by (is_ne (keys_cmp ds (row_at keys (i + d)) (row_at keys (i + d + 1)))) (i + d) (omega (arith, within)) refl in
      rw next (up_or_same (is_ne (keys_cmp ds (row_at keys (i + d)) (row_at keys (i + d + 1)))) _ _ _ ih step)
    where
      up_or_same : (b : Bool) (n m l : ℕ) → n ≤ m → l ≡ (if b then m + 1 else m) → n ≤ l
      up_or_same true n m l p q = omega (arith, p, q)
      up_or_same false n m l p q = omega (arith, p, q)

  -- a lesser key has a lesser number
  number-less_by : (i d : ℕ) → i + d < length keys → is_lt (keys_cmp ds (row_at keys i) (row_at keys (i + d))) ≡ true → peer_group ds keys i < peer_group ds keys (i + d)
  number-less_by i zero within less =
      let same : i + 0 ≡ i = omega arith in
      absurd (false≢true (sym (ap is_lt (tied_itself (keys_cmp_total ds) (row_at keys i))) ∙ ap (λ k. is_lt (keys_cmp ds (row_at keys i) (row_at keys k))) (sym same) ∙ less))
  number-less_by i (suc d) within less =
      let next : i + suc d ≡ i + d + 1 = omega arith in
      let inside : i + d + 1 < length keys = omega (arith, within) in
      let low = number-rises i d (omega (arith, inside)) in
      let ih = number-less_by i d (omega (arith, inside)) in
      let less_next : is_lt (keys_cmp ds (row_at keys i) (row_at keys (i + d + 1))) ≡ true = ap (λ k. is_lt (keys_cmp ds (row_at keys i) (row_at keys k))) (sym next) ∙ less in
      rw next (by_step (is_ne (keys_cmp ds (row_at keys (i + d)) (row_at keys (i + d + 1)))) refl inside low ih less_next)
    where
      by_step : (b : Bool) → is_ne (keys_cmp ds (row_at keys (i + d)) (row_at keys (i + d + 1))) ≡ b → i + d + 1 < length keys → peer_group ds keys i ≤ peer_group ds keys (i + d)
          → (is_lt (keys_cmp ds (row_at keys i) (row_at keys (i + d))) ≡ true → peer_group ds keys i < peer_group ds keys (i + d))
          → is_lt (keys_cmp ds (row_at keys i) (row_at keys (i + d + 1))) ≡ true → peer_group ds keys i < peer_group ds keys (i + d + 1)
      by_step true is inside low ih less = let step = made_by true (i + d) inside is in omega (arith, low, step)
      by_step false is inside low ih less =
          let step = made_by false (i + d) inside is in
          let same : row_at keys (i + d) ≡ row_at keys (i + d + 1) = keys-ties ds _ _ (up.whole (i + d) (omega (arith, inside))) (up.whole (i + d + 1) inside) (is_Equal _ is) in
          let earlier_less = ih (ap (λ k. is_lt (keys_cmp ds (row_at keys i) k)) same ∙ less) in
          omega (arith, earlier_less, step)

  number-less : (i j : ℕ) → i < length keys → j < length keys → keys_cmp ds (row_at keys i) (row_at keys j) ≡ Less → peer_group ds keys i < peer_group ds keys j
  number-less i j hi hj less = elim (reaches i j) [
    | inl low ↦ absurd (false≢true (sym (up.rises j i low hi) ∙ ap is_lt less))
    | inr high ↦
        let same : i + (j - i) ≡ j = omega (arith, high) in
        subst (λ k. peer_group ds keys i < peer_group ds keys k) same
        (number-less_by i (j - i) (omega (arith, high, hj)) (ap (λ k. is_lt (keys_cmp ds (row_at keys i) (row_at keys k))) same ∙ ap is_lt less))
  ]

  -- two keys stand as the numbers of their groups do
  pub keys-as_numbers : (i j : ℕ) → i < length keys → j < length keys → keys_cmp ds (row_at keys i) (row_at keys j) ≡ nat_cmp (peer_group ds keys i) (peer_group ds keys j)
  keys-as_numbers i j hi hj = by (keys_cmp ds (row_at keys i) (row_at keys j)) refl
    where
      by : (c : Ordering) → keys_cmp ds (row_at keys i) (row_at keys j) ≡ c → c ≡ nat_cmp (peer_group ds keys i) (peer_group ds keys j)
      by Less is = let less = number-less i j hi hj is in grind (arith, nat_tests, less)
      by Equal is =
          let same : row_at keys i ≡ row_at keys j = keys-ties ds _ _ (up.whole i hi) (up.whole j hj) is in
          let number : peer_group ds keys i ≡ peer_group ds keys j = ap (λ k. length (once (earlier ds keys k))) same in
          grind (arith, nat_tests, number)
      by Greater is =
          let back : keys_cmp ds (row_at keys j) (row_at keys i) ≡ Less = o.antisymm _ _ ∙ ap ordering_reverse is in
          let less = number-less j i hj hi back in
          grind (arith, nat_tests, less)
