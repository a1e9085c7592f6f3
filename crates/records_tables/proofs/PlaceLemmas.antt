-- Where a record has a column: how many columns come before it.
use Rattle.std.proofs.Common.{◌≡◌, ◌≢◌, ◌⊎◌, ⊎_elim, ◌<◌, ◌≤◌, ◌+◌, ◌||◌, ℕ, zero, suc, All, Bool, true, false, List, [], ◌∷◌, ◌++◌, Some, get_or, take, drop, append_assoc, append-nil, length, slice_get, nat_eq, if◌then◌else◌, refl, sym, ◌∙◌, ap, subst, arith}
use Rattle.std.specs.List.{range_with_len}
use Rattle.std.proofs.lemmas.List.{drop_more, length-append, take-append-drop, take_more}
use Rattle.std.proofs.lemmas.List.Elements.{All-head, All-tail}
use Rattle.std.proofs.lemmas.List.Folds.{list_any-append}
use Rattle.records_tables.specs.primary_rows.Firsts.{firsts, has_number, place_of}
use Rattle.records_tables.proofs.lemmas.primary_rows.FirstLemmas.{firsts_append, firsts_met, firsts_new, has_firsts, only_firsts}

by_test : {P : Type 0} (b : Bool) → (b ≡ true → P) → (b ≡ false → P) → P
by_test true pass fail = pass refl
by_test false pass fail = fail refl

both : (b : Bool) → b ≡ true → b ≡ false → ⊥
both b holds fails = let e : true ≡ false = sym holds ∙ fails in cc

number_eq : (x y : ℕ) → nat_eq x y ≡ true → x ≡ y
number_eq x y e = grind arith

number_ne : (x y : ℕ) → x ≢ y → nat_eq x y ≡ false
number_ne x y e = grind arith

number_is : (x : ℕ) → nat_eq x x ≡ true
number_is x = grind arith

-- how many numbers below another one aren't in a list
abbrev pub one_if : Bool → ℕ
one_if b = if b then 0 else 1

abbrev pub others_below : List ℕ → ℕ → ℕ
others_below met zero = 0
others_below met (suc n) = others_below met n + one_if (has_number met n)

-- lists with the same numbers
pub others_same : (met now : List ℕ) (n : ℕ) → ((k : ℕ) → has_number met k ≡ has_number now k) → others_below met n ≡ others_below now n
others_same met now zero same = refl
others_same met now (suc n) same =
    (λ j. others_same met now n same j + one_if (same n j))

-- a list that ends with a number more
has_pushed : (met : List ℕ) (x k : ℕ) → has_number (met ++ x ∷ []) k ≡ (has_number met k || (nat_eq x k || false))
has_pushed met x k = list_any-append (λ y. nat_eq y k) met (x ∷ [])

or_none : (b : Bool) → (b || (false || false)) ≡ b
or_none true = refl
or_none false = refl

or_some : (b : Bool) → (b || (true || false)) ≡ true
or_some true = refl
or_some false = refl

has_other : (met : List ℕ) (x k : ℕ) → x ≢ k → has_number (met ++ x ∷ []) k ≡ has_number met k
has_other met x k other = has_pushed met x k ∙ ap (λ (b : Bool). has_number met k || (b || false)) (number_ne x k other) ∙ or_none (has_number met k)

has_last : (met : List ℕ) (x : ℕ) → has_number (met ++ x ∷ []) x ≡ true
has_last met x = has_pushed met x x ∙ ap (λ (b : Bool). has_number met x || (b || false)) (number_is x) ∙ or_some (has_number met x)

-- a number more is one that isn't in the list any more
below_other : (met : List ℕ) (x n : ℕ) → n ≤ x → others_below (met ++ x ∷ []) n ≡ others_below met n
below_other met x zero past = refl
below_other met x (suc n) past =
    λ j. below_other met x n (omega (arith, past)) j + one_if (has_other met x n (λ (same : x ≡ n). omega (arith, same, past)) j)

below_pushed : (met : List ℕ) (x n : ℕ) → x < n → has_number met x ≡ false → others_below (met ++ x ∷ []) n + 1 ≡ others_below met n
below_pushed met x zero within fresh = absurd (omega (arith, within))
below_pushed met x (suc n) within fresh = by_test (nat_eq x n)
    (λ here.
    let same : x ≡ n = number_eq x n here in
    let below : others_below (met ++ x ∷ []) n ≡ others_below met n = below_other met x n (omega (arith, same)) in
    let new : one_if (has_number (met ++ x ∷ []) n) ≡ 0 = ap one_if (subst (λ (k : ℕ). has_number (met ++ x ∷ []) k ≡ true) same (has_last met x)) in
    let old : one_if (has_number met n) ≡ 1 = ap one_if (subst (λ (k : ℕ). has_number met k ≡ false) same fresh) in
    omega (arith, below, new, old))
    (λ other.
    let apart : x ≢ n = λ same. both (nat_eq x n) (subst (λ (k : ℕ). nat_eq x k ≡ true) same (number_is x)) other in
    let below = below_pushed met x n (omega (arith, within, apart)) fresh in
    let same : one_if (has_number (met ++ x ∷ []) n) ≡ one_if (has_number met n) = ap one_if (has_other met x n apart) in
    omega (arith, below, same))

-- the numbers of a list, each once, and those that aren't in it, are all
below_firsts : (met xs : List ℕ) (n : ℕ) → All (λ x. x < n) xs → length (firsts met xs) + others_below (met ++ firsts met xs) n ≡ others_below met n
below_firsts met [] n all = let same = ap (λ (l : List ℕ). others_below l n) (append-nil met) in omega (arith, same)
below_firsts met (x ∷ xs) n all = by_test (has_number met x)
    (λ old. subst (λ (l : List ℕ). length l + others_below (met ++ l) n ≡ others_below met n) (sym (firsts_met met x xs old))
    (below_firsts met xs n (All-tail (λ x. x < n) x xs all)))
    (λ new.
    let rest = firsts (met ++ x ∷ []) xs in
    let now = below_firsts (met ++ x ∷ []) xs n (All-tail (λ x. x < n) x xs all) in
    let more = below_pushed met x n (All-head (λ x. x < n) x xs all) new in
    let there : others_below ((met ++ x ∷ []) ++ rest) n ≡ others_below (met ++ x ∷ rest) n = ap (λ (l : List ℕ). others_below l n) (append_assoc met (x ∷ []) rest) in
    let counted : suc (length rest) + others_below (met ++ x ∷ rest) n ≡ others_below met n = omega (arith, now, more, there) in
    subst (λ (l : List ℕ). length l + others_below (met ++ l) n ≡ others_below met n) (sym (firsts_new met x xs new)) counted)

all_below : (n : ℕ) → others_below [] n ≡ n
all_below zero = refl
all_below (suc n) = let rest = all_below n in omega (arith, rest)

-- a list has the numbers that it has, each once
one_more : (a : ℕ) → a + 1 ≡ suc a
one_more a = omega arith

has_of : (xs : List ℕ) (c : ℕ) → has_number (firsts [] xs) c ≡ has_number xs c
has_of xs c = by_test (has_number xs c)
    (λ has. has_firsts [] xs c has ∙ sym has)
    (λ none. by_test (has_number (firsts [] xs) c)
    (λ has. absurd (both (has_number xs c) (only_from xs c has) none))
    (λ has. has ∙ sym none))
  where
    stands : (numbers : List ℕ) (c : ℕ) → has_number numbers c ≡ true → (p : ℕ) × (slice_get numbers p ≡ Some c)
    stands [] c has = let e : false ≡ true = has in cc
    stands (y ∷ numbers) c has = by_test (nat_eq y c)
        (λ here. (0, ap (λ (k : ℕ). Some k) (number_eq y c here)))
        (λ other. let later = stands numbers c (rw other at has) in (suc later.0, later.1))

    only_from : (xs : List ℕ) (c : ℕ) → has_number (firsts [] xs) c ≡ true → has_number xs c ≡ true
    only_from xs c has = let at = stands (firsts [] xs) c has in only_firsts [] xs at.0 c at.1

-- the place of a number that isn't in front
place_behind : (xs ys : List ℕ) (c : ℕ) → has_number xs c ≡ false → place_of (xs ++ ys) c ≡ length xs + place_of ys c
place_behind [] ys c none = sym (zero_add (place_of ys c))
  where
    zero_add : (n : ℕ) → 0 + n ≡ n
    zero_add n = omega arith
place_behind (x ∷ xs) ys c none = by_test (nat_eq x c)
    (λ here. absurd (let e : true ≡ false = sym (rw here refl) ∙ none in cc))
    (λ other. rw other (let rest = place_behind xs ys c (rw other at none) in omega (arith, rest)))

place_front : (xs ys : List ℕ) (c : ℕ) → has_number xs c ≡ true → place_of (xs ++ ys) c ≡ place_of xs c
place_front [] ys c has = let e : false ≡ true = has in cc
place_front (x ∷ xs) ys c has = by_test (nat_eq x c)
    (λ here. rw here refl)
    (λ other. rw other (ap suc (place_front xs ys c (rw other at has))))

-- of numbers from one on, which the list so far has as the key has them
place_from : (key met : List ℕ) (a n c : ℕ) → ((k : ℕ) → a ≤ k → has_number met k ≡ has_number key k) → has_number key c ≡ false → a ≤ c → c < a + n
    → others_below key a + place_of (firsts met (range_with_len a n)) c ≡ others_below key c
place_from key met a zero c same none from within = absurd (omega (arith, from, within))
place_from key met a (suc n) c same none from within = by_test (nat_eq a c)
    (λ here.
    let is : a ≡ c = number_eq a c here in
    let fresh : has_number met a ≡ false = same a (omega arith) ∙ subst (λ (k : ℕ). has_number key k ≡ false) (sym is) none in
    let first : place_of (firsts met (range_with_len a (suc n))) c ≡ 0 = ap (λ (l : List ℕ). place_of l c) (firsts_new met a (range_with_len (a + 1) n) fresh) ∙ rw here refl in
    let below : others_below key a ≡ others_below key c = ap (others_below key) is in
    omega (arith, first, below))
    (λ other.
    let apart : a ≢ c = λ is. both (nat_eq a c) (subst (λ (k : ℕ). nat_eq a k ≡ true) is (number_is a)) other in
    let next : others_below key (a + 1) ≡ others_below key a + one_if (has_number key a) = ap (others_below key) (one_more a) in
    by_test (has_number met a)
    (λ old.
    let rest = place_from key met (a + 1) n c (λ k past. same k (omega (arith, past))) none (omega (arith, from, apart)) (omega (arith, within)) in
    let here : place_of (firsts met (range_with_len a (suc n))) c ≡ place_of (firsts met (range_with_len (a + 1) n)) c =
    ap (λ (l : List ℕ). place_of l c) (firsts_met met a (range_with_len (a + 1) n) old) in
    let not : one_if (has_number key a) ≡ 0 = ap one_if (sym (same a (omega arith)) ∙ old) in
    omega (arith, rest, here, next, not))
    (λ fresh.
    let rest = place_from key (met ++ a ∷ []) (a + 1) n c (λ k past. has_other met a k (λ (is : a ≡ k). omega (arith, is, past)) ∙ same k (omega (arith, past))) none
    (omega (arith, from, apart)) (omega (arith, within)) in
    let here : place_of (firsts met (range_with_len a (suc n))) c ≡ suc (place_of (firsts (met ++ a ∷ []) (range_with_len (a + 1) n)) c) =
    ap (λ (l : List ℕ). place_of l c) (firsts_new met a (range_with_len (a + 1) n) fresh) ∙ rw other refl in
    let one : one_if (has_number key a) ≡ 1 = ap one_if (sym (same a (omega arith)) ∙ fresh) in
    omega (arith, rest, here, next, one)))

module _ (key : List ℕ) (width column : ℕ) where
  abbrev order : List ℕ
  order = firsts [] (key ++ range_with_len 0 width)

  order_is : order ≡ firsts [] key ++ firsts (firsts [] key) (range_with_len 0 width)
  order_is = firsts_append [] key (range_with_len 0 width)

  -- a column of the key
  pub place_of_key : has_number key column ≡ true → place_of order column ≡ place_of (firsts [] key) column
  place_of_key has =
      ap (λ (l : List ℕ). place_of l column) order_is
      ∙ place_front (firsts [] key) (firsts (firsts [] key) (range_with_len 0 width)) column (has_of key column ∙ has)

  -- another one
  pub place_of_other : has_number key column ≡ false → column < width → place_of order column ≡ length (firsts [] key) + others_below key column
  place_of_other none within =
      let from = place_from (firsts [] key) (firsts [] key) 0 width column (λ k past. refl) (has_of key column ∙ none) (omega arith) (omega (arith, within)) in
      let same = others_same (firsts [] key) key column (has_of key) in
      let behind = ap (λ (l : List ℕ). place_of l column) order_is ∙ place_behind (firsts [] key) (firsts (firsts [] key) (range_with_len 0 width)) column (has_of key column ∙ none) in
      omega (arith, from, same, behind)

-- there are no more places than columns
pub few_places : (key : List ℕ) (width : ℕ) → All (λ place. place < width) key → length (firsts [] key) + others_below key width ≡ width
few_places key width all =
    let counted = below_firsts [] key width all in
    let same = others_same (firsts [] key) key width (has_of key) in
    let every = all_below width in
    omega (arith, counted, same, every)

less_or : (a b : ℕ) → a ≤ suc b → (a ≡ suc b) ⊎ (a ≤ b)
less_or a b less = grind arith

pub fewer_below : (key : List ℕ) (a b : ℕ) → a ≤ b → others_below key a ≤ others_below key b
fewer_below key a zero less = let same : a ≡ 0 = omega (arith, less) in subst (λ (k : ℕ). others_below key k ≤ others_below key 0) (sym same) (omega arith)
fewer_below key a (suc b) less = ⊎_elim
    (λ (same : a ≡ suc b). subst (λ (k : ℕ). others_below key k ≤ others_below key (suc b)) (sym same) (omega arith))
    (λ (most : a ≤ b). let rest = fewer_below key a b most in omega (arith, rest))
    (less_or a b less)

-- a place is one of those that there are
place_within : (xs : List ℕ) (c : ℕ) → has_number xs c ≡ true → place_of xs c < length xs
place_within [] c has = let e : false ≡ true = has in cc
place_within (x ∷ xs) c has = by_test (nat_eq x c)
    (λ here. rw here (omega arith))
    (λ other. rw other (let later = place_within xs c (rw other at has) in omega (arith, later)))

pub key_within : (key : List ℕ) (width column : ℕ) → All (λ place. place < width) key → has_number key column ≡ true
    → place_of (firsts [] key) column < width
key_within key width column all has =
    let inside = place_within (firsts [] key) column (has_of key column ∙ has) in
    let most = few_places key width all in
    omega (arith, inside, most)

-- ---- the loop over a key

-- a list is what was gone through, the number at hand, and the others
split_at : (key : List ℕ) (at : ℕ) → at < length key → key ≡ take at key ++ get_or key at 0 ∷ drop (at + 1) key
split_at key at within =
    sym (take-append-drop at key) ∙ ap (λ (l : List ℕ). take at key ++ l) (drop_more key at 0 within)

module _ (key : List ℕ) (at column : ℕ) (within : at < length key) (none : has_number (take at key) column ≡ false) where
  abbrev here : ℕ
  here = get_or key at 0

  abbrev front : List ℕ
  front = take at key

  pub key_found : here ≡ column → (has_number key column ≡ true) × (length (firsts [] front) ≡ place_of (firsts [] key) column)
  key_found is =
      let rest = drop (at + 1) key in
      let split : key ≡ front ++ column ∷ rest = split_at key at within ∙ ap (λ (x : ℕ). front ++ x ∷ rest) is in
      let fresh : has_number (firsts [] front) column ≡ false = has_of front column ∙ none in
      let parts : firsts [] key ≡ firsts [] front ++ column ∷ firsts (firsts [] front ++ column ∷ []) rest =
      ap (firsts []) split ∙ firsts_append [] front (column ∷ rest)
      ∙ ap (λ (l : List ℕ). firsts [] front ++ l) (firsts_new (firsts [] front) column rest fresh) in
      let first : place_of (column ∷ firsts (firsts [] front ++ column ∷ []) rest) column ≡ 0 = rw (number_is column) refl in
      let place = ap (λ (l : List ℕ). place_of l column) parts ∙ place_behind (firsts [] front) (column ∷ firsts (firsts [] front ++ column ∷ []) rest) column fresh in (
        ap (λ (l : List ℕ). has_number l column) split ∙ list_any-append (λ y. nat_eq y column) front (column ∷ rest)
            ∙ ap (λ (b : Bool). has_number front column || (b || has_number rest column)) (number_is column) ∙ or_right (has_number front column),
        omega (arith, first, place),
      )
    where
      or_right : (b : Bool) → (b || true) ≡ true
      or_right true = refl
      or_right false = refl

  next_front : take (at + 1) key ≡ front ++ here ∷ []
  next_front = take_more key at 0 within

  pub none_more : here ≢ column → has_number (take (at + 1) key) column ≡ false
  none_more apart = ap (λ (l : List ℕ). has_number l column) next_front ∙ has_other front here column apart ∙ none

  pub count_met : has_number front here ≡ true → length (firsts [] (take (at + 1) key)) ≡ length (firsts [] front)
  count_met old =
      let known : has_number (firsts [] front) here ≡ true = has_of front here ∙ old in
      ap (λ (l : List ℕ). length (firsts [] l)) next_front ∙ ap length (firsts_append [] front (here ∷ []))
      ∙ ap (λ (l : List ℕ). length (firsts [] front ++ l)) (firsts_met (firsts [] front) here [] known) ∙ ap length (append-nil (firsts [] front))

  pub count_new : has_number front here ≡ false → length (firsts [] (take (at + 1) key)) ≡ length (firsts [] front) + 1
  count_new new =
      let fresh : has_number (firsts [] front) here ≡ false = has_of front here ∙ new in
      ap (λ (l : List ℕ). length (firsts [] l)) next_front ∙ ap length (firsts_append [] front (here ∷ []))
      ∙ ap (λ (l : List ℕ). length (firsts [] front ++ l)) (firsts_new (firsts [] front) here [] fresh) ∙ length-append (firsts [] front) (here ∷ [])

-- ---- the loop over the columns

module _ (key : List ℕ) (width column other place : ℕ) (all : All (λ at. at < width) key) (within : column < width) (below : other ≤ column)
    (so_far : place ≡ length (firsts [] key) + others_below key other) where
  pub place_fits : has_number key other ≡ false → place + 1 ≤ width
  place_fits new =
      let most = few_places key width all in
      let fewer = fewer_below key (other + 1) width (omega (arith, below, within)) in
      let next : others_below key (other + 1) ≡ others_below key other + one_if (has_number key other) = ap (others_below key) (one_more other) in
      let one : one_if (has_number key other) ≡ 1 = ap one_if new in
      omega (arith, so_far, most, fewer, next, one)

  pub place_met : has_number key other ≡ true → place ≡ length (firsts [] key) + others_below key (other + 1)
  place_met old =
      let next : others_below key (other + 1) ≡ others_below key other + one_if (has_number key other) = ap (others_below key) (one_more other) in
      let none : one_if (has_number key other) ≡ 0 = ap one_if old in
      omega (arith, so_far, next, none)

  pub place_new : has_number key other ≡ false → place + 1 ≡ length (firsts [] key) + others_below key (other + 1)
  place_new new =
      let next : others_below key (other + 1) ≡ others_below key other + one_if (has_number key other) = ap (others_below key) (one_more other) in
      let one : one_if (has_number key other) ≡ 1 = ap one_if new in
      omega (arith, so_far, next, one)
