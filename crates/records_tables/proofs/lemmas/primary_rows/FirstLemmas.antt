-- The numbers of a list, each once.
use Rattle.std.proofs.Common.{◌≡◌, ◌<◌, ◌+◌, ◌||◌, ℕ, zero, suc, All, Bool, true, false, List, [], ◌∷◌, ◌++◌, Some, append_assoc, append-nil, map, slice_get, nat_eq, refl, sym, ◌∙◌, ap, subst, arith}
use Rattle.std.specs.List.{range_with_len}
use Rattle.std.proofs.lemmas.List.Folds.{list_any-append, list_any_at}
use Rattle.std.proofs.lemmas.List.FromFn.{get_or-range_with_len, length-range_with_len, map-range_with_len_more}
use Rattle.records_tables.specs.primary_rows.Firsts.{firsts, has_number, place_of}

by_test : {P : Type 0} (b : Bool) → (b ≡ true → P) → (b ≡ false → P) → P
by_test true pass fail = pass refl
by_test false pass fail = fail refl

same_number : (x y : ℕ) → nat_eq x y ≡ true → x ≡ y
same_number x y e = grind arith

is_number : (x : ℕ) → nat_eq x x ≡ true
is_number x = grind arith

or_left : (a b : Bool) → a ≡ true → (a || b) ≡ true
or_left a b e = grind arith

or_right : (a b : Bool) → b ≡ true → (a || b) ≡ true
or_right true b e = refl
or_right false b e = e

pub firsts_met : (met : List ℕ) (x : ℕ) (xs : List ℕ) → has_number met x ≡ true → firsts met (x ∷ xs) ≡ firsts met xs
firsts_met met x xs e = rw e refl

pub firsts_new : (met : List ℕ) (x : ℕ) (xs : List ℕ) → has_number met x ≡ false → firsts met (x ∷ xs) ≡ x ∷ firsts (met ++ x ∷ []) xs
firsts_new met x xs e = rw e refl

-- a step of the loop
pub step_met : (met : List ℕ) (x : ℕ) (xs : List ℕ) → has_number met x ≡ true → met ++ firsts met xs ≡ met ++ firsts met (x ∷ xs)
step_met met x xs e = ap (λ (l : List ℕ). met ++ l) (sym (firsts_met met x xs e))

pub step_new : (met : List ℕ) (x : ℕ) (xs : List ℕ) → has_number met x ≡ false
    → (met ++ x ∷ []) ++ firsts (met ++ x ∷ []) xs ≡ met ++ firsts met (x ∷ xs)
step_new met x xs e = append_assoc met (x ∷ []) (firsts (met ++ x ∷ []) xs) ∙ ap (λ (l : List ℕ). met ++ l) (sym (firsts_new met x xs e))

-- one list behind another
pub firsts_append : (met xs ys : List ℕ) → firsts met (xs ++ ys) ≡ firsts met xs ++ firsts (met ++ firsts met xs) ys
firsts_append met [] ys = ap (λ (l : List ℕ). firsts l ys) (sym (append-nil met))
firsts_append met (x ∷ xs) ys = by_test (has_number met x)
    (λ e. firsts_met met x (xs ++ ys) e ∙ firsts_append met xs ys
    ∙ ap (λ (l : List ℕ). l ++ firsts (met ++ l) ys) (sym (firsts_met met x xs e)))
    (λ e. firsts_new met x (xs ++ ys) e ∙ ap (λ (l : List ℕ). x ∷ l) (firsts_append (met ++ x ∷ []) xs ys)
    ∙ ap (λ (l : List ℕ). x ∷ (firsts (met ++ x ∷ []) xs ++ firsts l ys)) (append_assoc met (x ∷ []) (firsts (met ++ x ∷ []) xs))
    ∙ ap (λ (l : List ℕ). l ++ firsts (met ++ l) ys) (sym (firsts_new met x xs e)))

-- each is there
has_left : (xs ys : List ℕ) (c : ℕ) → has_number xs c ≡ true → has_number (xs ++ ys) c ≡ true
has_left xs ys c e = list_any-append (λ y. nat_eq y c) xs ys ∙ or_left (has_number xs c) (has_number ys c) e

has_right : (xs ys : List ℕ) (c : ℕ) → has_number ys c ≡ true → has_number (xs ++ ys) c ≡ true
has_right xs ys c e = list_any-append (λ y. nat_eq y c) xs ys ∙ or_right (has_number xs c) (has_number ys c) e

or_cases : {P : Type 0} (a b : Bool) → (a || b) ≡ true → (a ≡ true → P) → (b ≡ true → P) → P
or_cases true b e left right = left refl
or_cases false b e left right = right e

pub has_firsts : (met xs : List ℕ) (c : ℕ) → has_number xs c ≡ true → has_number (met ++ firsts met xs) c ≡ true
has_firsts met [] c e = let f : false ≡ true = e in cc
has_firsts met (x ∷ xs) c e = by_test (has_number met x)
    (λ old. subst (λ (l : List ℕ). has_number l c ≡ true) (step_met met x xs old)
    (or_cases (nat_eq x c) (has_number xs c) e
    (λ here. has_left met (firsts met xs) c (subst (λ (k : ℕ). has_number met k ≡ true) (same_number x c here) old))
    (λ later. has_firsts met xs c later)))
    (λ new. subst (λ (l : List ℕ). has_number l c ≡ true) (step_new met x xs new)
    (or_cases (nat_eq x c) (has_number xs c) e
    (λ here. has_left (met ++ x ∷ []) (firsts (met ++ x ∷ []) xs) c (has_right met (x ∷ []) c (or_left (nat_eq x c) false here)))
    (λ later. has_firsts (met ++ x ∷ []) xs c later)))

-- and once
has_at : (xs : List ℕ) (p c : ℕ) → slice_get xs p ≡ Some c → has_number xs c ≡ true
has_at [] p c e = cc
has_at (x ∷ xs) zero c e = let same : x ≡ c = cc in or_left (nat_eq x c) (has_number xs c) (subst (λ (k : ℕ). nat_eq x k ≡ true) same (is_number x))
has_at (x ∷ xs) (suc p) c e = or_right (nat_eq x c) (has_number xs c) (has_at xs p c e)

not_both : (b : Bool) {P : Type 0} → b ≡ true → b ≡ false → P
not_both b is not = let e : true ≡ false = sym is ∙ not in cc

-- the first number that is new, and those behind it
new_first : (met rest : List ℕ) (x c : ℕ) → has_number met x ≡ false → has_number met c ≡ true
    → ((p : ℕ) → slice_get rest p ≡ Some c → ⊥) → (p : ℕ) → slice_get (x ∷ rest) p ≡ Some c → ⊥
new_first met rest x c fresh old deeper zero e =
    let same : x ≡ c = cc in not_both (has_number met c) old (subst (λ (k : ℕ). has_number met k ≡ false) same fresh)
new_first met rest x c fresh old deeper (suc p) e = deeper p e

new_at : (met xs : List ℕ) (c : ℕ) → has_number met c ≡ true → (p : ℕ) → slice_get (firsts met xs) p ≡ Some c → ⊥
new_at met [] c old p e = cc
new_at met (x ∷ xs) c old p e = by_test (has_number met x)
    (λ known. new_at met xs c old p (subst (λ (l : List ℕ). slice_get l p ≡ Some c) (firsts_met met x xs known) e))
    (λ fresh. new_first met (firsts (met ++ x ∷ []) xs) x c fresh old (new_at (met ++ x ∷ []) xs c (has_left met (x ∷ []) c old)) p
    (subst (λ (l : List ℕ). slice_get l p ≡ Some c) (firsts_new met x xs fresh) e))

one_of_rest : (rest : List ℕ) (x c : ℕ) → ((p : ℕ) → slice_get rest p ≡ Some c → x ≡ c → ⊥)
    → ((p q : ℕ) → slice_get rest p ≡ Some c → slice_get rest q ≡ Some c → p ≡ q)
    → (p q : ℕ) → slice_get (x ∷ rest) p ≡ Some c → slice_get (x ∷ rest) q ≡ Some c → p ≡ q
one_of_rest rest x c only deeper zero zero e f = refl
one_of_rest rest x c only deeper zero (suc q) e f = absurd (only q f cc)
one_of_rest rest x c only deeper (suc p) zero e f = absurd (only p e cc)
one_of_rest rest x c only deeper (suc p) (suc q) e f = ap suc (deeper p q e f)

pub one_place : (met xs : List ℕ) (c p q : ℕ) → slice_get (firsts met xs) p ≡ Some c → slice_get (firsts met xs) q ≡ Some c → p ≡ q
one_place met [] c p q e f = cc
one_place met (x ∷ xs) c p q e f = by_test (has_number met x)
    (λ known. one_place met xs c p q (subst (λ (l : List ℕ). slice_get l p ≡ Some c) (firsts_met met x xs known) e)
    (subst (λ (l : List ℕ). slice_get l q ≡ Some c) (firsts_met met x xs known) f))
    (λ fresh. one_of_rest (firsts (met ++ x ∷ []) xs) x c
    (λ r g same. new_at (met ++ x ∷ []) xs c
    (has_right met (x ∷ []) c (or_left (nat_eq x c) false (subst (λ (k : ℕ). nat_eq x k ≡ true) same (is_number x)))) r g)
    (one_place (met ++ x ∷ []) xs c) p q
    (subst (λ (l : List ℕ). slice_get l p ≡ Some c) (firsts_new met x xs fresh) e)
    (subst (λ (l : List ℕ). slice_get l q ≡ Some c) (firsts_new met x xs fresh) f))

-- the numbers below another one
pub has_below : (count c : ℕ) → c < count → has_number (range_with_len 0 count) c ≡ true
has_below count c less =
    let at = get_or-range_with_len 0 count c 0 less in
    let here : 0 + c ≡ c = omega arith in
    list_any_at (λ y. nat_eq y c) (range_with_len 0 count) c 0 (subst (λ (n : ℕ). c < n) (sym (length-range_with_len 0 count)) less)
    (subst (λ (k : ℕ). nat_eq k c ≡ true) (sym (at ∙ here)) (is_number c))

-- one number more
range_more : (a n : ℕ) → range_with_len a (suc n) ≡ range_with_len a n ++ (a + n) ∷ []
range_more a zero = ap (λ (k : ℕ). k ∷ []) (omega arith)
range_more a (suc n) = ap (λ (l : List ℕ). a ∷ l) (range_more (a + 1) n ∙ ap (λ (k : ℕ). range_with_len (a + 1) n ++ k ∷ []) (omega arith))

pub below_more : (numbers more : List ℕ) (n : ℕ) → numbers ≡ range_with_len 0 n → more ≡ numbers ++ n ∷ [] → more ≡ range_with_len 0 (n + 1)
below_more numbers more n is pushed =
    let next : suc n ≡ n + 1 = omega arith in
    let here : 0 + n ≡ n = omega arith in
    pushed ∙ ap (λ (l : List ℕ). l ++ n ∷ []) is ∙ ap (λ (k : ℕ). range_with_len 0 n ++ k ∷ []) (sym here) ∙ sym (range_more 0 n) ∙ ap (λ (k : ℕ). range_with_len 0 k) next

-- the place of one number more
pub places_more : (numbers places more : List ℕ) (n at : ℕ) → places ≡ map (place_of numbers) (range_with_len 0 n) → at ≡ place_of numbers n → more ≡ places ++ at ∷ []
    → more ≡ map (place_of numbers) (range_with_len 0 (n + 1))
places_more numbers places more n at are is pushed =
    pushed ∙ ap (λ (l : List ℕ). l ++ at ∷ []) are ∙ ap (λ (k : ℕ). map (place_of numbers) (range_with_len 0 n) ++ k ∷ []) is
    ∙ sym (map-range_with_len_more (place_of numbers) 0 n n (omega arith))

-- the keys first, and then the others
pub order_of : (places columns key order : List ℕ) → key ≡ [] ++ firsts [] places → order ≡ key ++ firsts key columns → order ≡ firsts [] (places ++ columns)
order_of places columns key order key_is order_is =
    order_is ∙ ap (λ (k : List ℕ). k ++ firsts k columns) key_is ∙ sym (firsts_append [] places columns)

-- where a number stands that stands there once
pub place_at : (met xs : List ℕ) (p c : ℕ) → slice_get (firsts met xs) p ≡ Some c → place_of (firsts met xs) c ≡ p
place_at met xs p c at = one_place met xs c (place_of (firsts met xs) c) p (stands (firsts met xs) (has_at (firsts met xs) p c at)) at
  where
    stands : (numbers : List ℕ) → has_number numbers c ≡ true → slice_get numbers (place_of numbers c) ≡ Some c
    stands [] has = let e : false ≡ true = has in cc
    stands (y ∷ numbers) has = by_test (nat_eq y c)
        (λ here. rw here (ap (λ (k : ℕ). Some k) (same_number y c here)))
        (λ other. rw other (stands numbers (rw other at has)))

-- and no others
pub only_firsts : (met xs : List ℕ) (p c : ℕ) → slice_get (firsts met xs) p ≡ Some c → has_number xs c ≡ true
only_firsts met [] p c e = cc
only_firsts met (x ∷ xs) p c e = by_test (has_number met x)
    (λ known. or_right (nat_eq x c) (has_number xs c) (only_firsts met xs p c (subst (λ (l : List ℕ). slice_get l p ≡ Some c) (firsts_met met x xs known) e)))
    (λ fresh. first_or_later x c xs (firsts (met ++ x ∷ []) xs) (only_firsts (met ++ x ∷ []) xs) p
    (subst (λ (l : List ℕ). slice_get l p ≡ Some c) (firsts_new met x xs fresh) e))
  where
    first_or_later : (x c : ℕ) (xs rest : List ℕ) → ((p c : ℕ) → slice_get rest p ≡ Some c → has_number xs c ≡ true) → (p : ℕ) → slice_get (x ∷ rest) p ≡ Some c
        → has_number (x ∷ xs) c ≡ true
    first_or_later x c xs rest later zero e = let same : x ≡ c = cc in or_left (nat_eq x c) (has_number xs c) (subst (λ (k : ℕ). nat_eq x k ≡ true) same (is_number x))
    first_or_later x c xs rest later (suc p) e = or_right (nat_eq x c) (has_number xs c) (later p c e)

pub below_all : (count : ℕ) (xs : List ℕ) → All (λ x. x < count) xs → (c : ℕ) → has_number xs c ≡ true → c < count
below_all count [] all c e = let f : false ≡ true = e in cc
below_all count (x ∷ xs) all c e = or_cases (nat_eq x c) (has_number xs c) e
    (λ here. subst (λ (k : ℕ). k < count) (same_number x c here) (all 0 x (omega arith)))
    (λ later. below_all count xs (λ k d within. all (suc k) d (omega (arith, within))) c later)

-- what stands in front of other numbers
pub in_front : (xs ys : List ℕ) (p c : ℕ) → slice_get xs p ≡ Some c → slice_get (xs ++ ys) p ≡ Some c
in_front [] ys p c e = cc
in_front (x ∷ xs) ys zero c e = e
in_front (x ∷ xs) ys (suc p) c e = in_front xs ys p c e
