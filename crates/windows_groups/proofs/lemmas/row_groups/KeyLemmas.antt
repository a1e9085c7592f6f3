-- Keys in the order in which they first come, and the rows of each.
use Rattle.std.proofs.Common.{◌≡◌, ◌∙◌, ⊎_elim, Bool, true, false, cond, ◌||◌, ℕ, zero, suc, ◌<◌, List, [], ◌∷◌, ◌++◌, append-nil, drop, filter, get_or, length, map, set, slice_get, Some, reverse, refl, sym, ap, subst, arith}
use Rattle.std.specs.List.{AllByRecursion, IsDistinct, list_any, position_or_len}
use Rattle.std.proofs.lemmas.Bool.{cases_Bool}
use Rattle.std.proofs.lemmas.List.{map-append, reverse-append}
use Rattle.std.proofs.lemmas.List.Elements.{filter-append}
use Rattle.std.proofs.lemmas.List.Sorted.{IsPermutation-reverse, list_any-IsPermutation}
use Rattle.indexmap.specs.IndexSet.{insert_key}
use Rattle.values.specs.Datum.{Datum}
use Rattle.values.specs.Row.{Row}
use Rattle.expr.specs.Meaning.{eval}
use Rattle.expr.specs.Term.{Term}
use Rattle.semantics.specs.Groups.{group_of}
use Rattle.semantics.specs.Times.{once, same_row}
use Rattle.semantics.specs.Valuation.{term_values}
use Rattle.semantics.proofs.TimesLemmas.{same_row-itself, same_row-reads, same_row-turned}
use Rattle.windows_groups.specs.row_groups.Gathered.{first_keys, firsts}

-- ---- each row once

any-reverse : (p : Row → Bool) (xs : List Row) → list_any p (reverse xs) ≡ list_any p xs
any-reverse p xs = sym (list_any-IsPermutation p xs (reverse xs) (IsPermutation-reverse xs))

same_or : (k x : Row) (others : Bool) (rest : Bool) → (same_row k x ≡ true → others ≡ true) → rest ≡ others → rest ≡ (same_row k x || others)
same_or k x others rest holds is = ⊎_elim
    (λ (equal : same_row k x ≡ true). rw (equal) (is ∙ holds equal))
    (λ (apart : same_row k x ≡ false). rw (apart) is)
    (cases_Bool (same_row k x))

any-once : (k : Row) (xs : List Row) → list_any (same_row k) (once xs) ≡ list_any (same_row k) xs
any-once k [] = refl
any-once k (x ∷ xs) = ⊎_elim
    (λ (again : list_any (same_row x) xs ≡ true). rw (again)
    (same_or k x (list_any (same_row k) xs) (list_any (same_row k) (once xs))
    (λ equal. subst (λ (y : Row). list_any (same_row y) xs ≡ true) (sym (same_row-reads k x equal)) again) (any-once k xs)))
    (λ (last : list_any (same_row x) xs ≡ false). rw (last) (ap (λ b. same_row k x || b) (any-once k xs)))
    (cases_Bool (list_any (same_row x) xs))

any-firsts : (k : Row) (xs : List Row) → list_any (same_row k) (firsts xs) ≡ list_any (same_row k) xs
any-firsts k xs = any-reverse (same_row k) (once (reverse xs)) ∙ any-once k (reverse xs) ∙ any-reverse (same_row k) xs

-- one more row stays where it was, or comes last
reversed_once : (k : Row) (ys : List Row) (b : Bool) → reverse (cond b (once ys) (k ∷ once ys)) ≡ cond b (reverse (once ys)) (reverse (once ys) ++ k ∷ [])
reversed_once k ys true = refl
reversed_once k ys false = reverse-append (k ∷ []) (once ys)

pub firsts-more : (xs : List Row) (k : Row) → insert_key same_row (firsts xs) k ≡ firsts (xs ++ k ∷ [])
firsts-more xs k =
    ap (λ b. cond b (firsts xs) (firsts xs ++ k ∷ [])) (any-firsts k xs ∙ sym (any-reverse (same_row k) xs))
    ∙ sym (reversed_once k (reverse xs) (list_any (same_row k) (reverse xs)))
    ∙ ap (λ ys. reverse (once ys)) (sym (reverse-append xs (k ∷ [])))

abbrev pub key_on : Datum → List Term → Row → Row
key_on w by = term_values (eval w) by

-- ---- the keys of one row more

pub first_keys-more : (w : Datum) (by : List Term) (rows : List Row) (row : Row)
    → insert_key same_row (first_keys w by rows) (term_values (eval w) by row) ≡ first_keys w by (rows ++ row ∷ [])
first_keys-more w [] rows row = refl
first_keys-more w (t ∷ ts) rows row =
    firsts-more (map (key_on w (t ∷ ts)) rows) (key_on w (t ∷ ts) row)
    ∙ ap firsts (sym (map-append (key_on w (t ∷ ts)) rows (row ∷ [])))

-- ---- the rows of a key

abbrev pub members : Datum → List Term → List Row → Row → List Row
members w by rows key = (group_of (eval w) by rows key).members

pub members-other : (w : Datum) (by : List Term) (rows : List Row) (row key : Row) → same_row key (key_on w by row) ≡ false
    → members w by (rows ++ row ∷ []) key ≡ members w by rows key
members-other w by rows row key apart =
    filter-append (λ r. same_row key (key_on w by r)) rows (row ∷ [])
    ∙ ap (λ b. members w by rows key ++ cond b (row ∷ []) []) apart ∙ append-nil (members w by rows key)

pub members-more : (w : Datum) (by : List Term) (rows : List Row) (row : Row)
    → members w by (rows ++ row ∷ []) (key_on w by row) ≡ members w by rows (key_on w by row) ++ row ∷ []
members-more w by rows row =
    filter-append (λ r. same_row (key_on w by row) (key_on w by r)) rows (row ∷ [])
    ∙ ap (λ b. members w by rows (key_on w by row) ++ cond b (row ∷ []) []) (same_row-itself (key_on w by row))

none_kept : {X : Type 0} (p : Row → Bool) (f : X → Row) (xs : List X) → list_any p (map f xs) ≡ false → filter (λ x. p (f x)) xs ≡ []
none_kept p f [] none = refl
none_kept p f (x ∷ xs) none = ⊎_elim
    (λ (holds : p (f x) ≡ true). absurd (let e : (true || list_any p (map f xs)) ≡ false = subst (λ b. (b || list_any p (map f xs)) ≡ false) holds none in cc))
    (λ (fails : p (f x) ≡ false). rw (fails) (none_kept p f xs (subst (λ b. (b || list_any p (map f xs)) ≡ false) fails none)))
    (cases_Bool (p (f x)))

-- a key that didn't come before has no rows
pub members-new : (w : Datum) (by : List Term) (rows : List Row) (row : Row) → list_any (same_row (key_on w by row)) (first_keys w by rows) ≡ false
    → members w by rows (key_on w by row) ≡ []
members-new w [] rows row new = absurd cc
members-new w (t ∷ ts) rows row new =
    none_kept (same_row (key_on w (t ∷ ts) row)) (key_on w (t ∷ ts)) rows (sym (any-firsts (key_on w (t ∷ ts) row) (map (key_on w (t ∷ ts)) rows)) ∙ new)

-- ---- what is kept for each key, where one of them changes

place-head : (k x : Row) (xs : List Row) (b : Bool) → same_row k x ≡ b → position_or_len (same_row k) (x ∷ xs) ≡ cond b 0 (suc (position_or_len (same_row k) xs))
place-head k x xs true is = rw (is) refl
place-head k x xs false is = rw (is) (omega arith)

insert-head : (k x : Row) (xs : List Row) → same_row k x ≡ true → insert_key same_row (x ∷ xs) k ≡ x ∷ xs
insert-head k x xs is = rw (is) refl

under : (x k : Row) (xs : List Row) (b : Bool) → cond b (x ∷ xs) (x ∷ xs ++ k ∷ []) ≡ x ∷ cond b xs (xs ++ k ∷ [])
under x k xs true = refl
under x k xs false = refl

insert-under : (k x : Row) (xs : List Row) → same_row k x ≡ false → insert_key same_row (x ∷ xs) k ≡ x ∷ insert_key same_row xs k
insert-under k x xs is = rw (is) (under x k xs (list_any (same_row k) xs))

module _ {X : Type 0} (f g : Row → X) (k : Row) where
  -- what is kept at the place of a key is what is kept for it
  pub at_place : (keys : List Row) (d : X) → get_or (map f (insert_key same_row keys k)) (position_or_len (same_row k) keys) d ≡ f k
  at_place [] d = refl
  at_place (x ∷ xs) d = ⊎_elim
      (λ (equal : same_row k x ≡ true). rw (place-head k x xs true equal, insert-head k x xs equal) (ap f (sym (same_row-reads k x equal))))
      (λ (apart : same_row k x ≡ false). rw (place-head k x xs false apart, insert-under k x xs apart) (at_place xs d))
      (cases_Bool (same_row k x))

  module _ (others : (key : Row) → same_row key k ≡ false → g key ≡ f key) where
    map_others : (xs : List Row) → AllByRecursion (λ y. same_row k y ≡ false) xs → map f xs ≡ map g xs
    map_others [] apart = refl
    map_others (x ∷ xs) apart = (λ j. sym (others x (same_row-turned k x ∙ apart.0)) j ∷ map_others xs apart.1 j)

    -- what is kept for each key is changed at one place
    pub set_place : (keys : List Row) → IsDistinct same_row (insert_key same_row keys k)
        → set (map f (insert_key same_row keys k)) (position_or_len (same_row k) keys) (g k) ≡ map g (insert_key same_row keys k)
    unfolding IsDistinct
    set_place [] distinct = refl
    set_place (x ∷ xs) distinct = ⊎_elim
        (λ (equal : same_row k x ≡ true).
        let one : k ≡ x = same_row-reads k x equal in
        let split : IsDistinct same_row (x ∷ xs) = subst (IsDistinct same_row) (insert-head k x xs equal) distinct in
        rw (place-head k x xs true equal, insert-head k x xs equal)
        (λ j. g (one j) ∷ map_others xs (subst (λ (y : Row). AllByRecursion (λ z. same_row y z ≡ false) xs) (sym one) split.0) j))
        (λ (apart : same_row k x ≡ false).
        let split : IsDistinct same_row (x ∷ insert_key same_row xs k) = subst (IsDistinct same_row) (insert-under k x xs apart) distinct in
        rw (place-head k x xs false apart, insert-under k x xs apart)
        (λ j. sym (others x (same_row-turned k x ∙ apart)) j ∷ set_place xs split.1 j))
        (cases_Bool (same_row k x))

-- the place is one of those that there are then
pub place_within : (k : Row) (keys : List Row) → position_or_len (same_row k) keys < length (insert_key same_row keys k)
place_within k [] = omega arith
place_within k (x ∷ xs) = ⊎_elim
    (λ (equal : same_row k x ≡ true). rw (place-head k x xs true equal, insert-head k x xs equal) (omega arith))
    (λ (apart : same_row k x ≡ false). rw (place-head k x xs false apart, insert-under k x xs apart) (let ih = place_within k xs in omega arith))
    (cases_Bool (same_row k x))

-- one key alone, which has no value
pub one_key : (keys : List Row) (only : Row) → length keys ≡ 1 → Some only ≡ slice_get keys 0 → only ≡ [] → keys ≡ [] ∷ []
one_key [] only long there none = absurd (omega (arith, long))
one_key (x ∷ []) only long there none = let e : x ≡ [] = cc in ap (λ (key : Row). key ∷ []) e
one_key (x ∷ y ∷ more) only long there none = absurd (omega (arith, long))

-- ---- what is made of a key at a place

pub read_there : {X : Type 0} (f : Row → X) (keys : List Row) (at : ℕ) (key : Row) (d : X) → slice_get keys at ≡ Some key → get_or (map f keys) at d ≡ f key
read_there f [] at key d is = absurd cc
read_there f (x ∷ xs) zero key d is = ap f cc
read_there f (x ∷ xs) (suc at) key d is = read_there f xs at key d is

pub within_there : (keys : List Row) (at : ℕ) (key : Row) → slice_get keys at ≡ Some key → at < length keys
within_there [] at key is = absurd cc
within_there (x ∷ xs) zero key is = omega arith
within_there (x ∷ xs) (suc at) key is = let ih = within_there xs at key is in omega arith

pub rest_there : {X Y : Type 0} (f : Row → X) (g : X → Y) (keys : List Row) (at : ℕ) (key : Row) → slice_get keys at ≡ Some key
    → drop at (map g (map f keys)) ≡ g (f key) ∷ drop (suc at) (map g (map f keys))
rest_there f g [] at key is = absurd cc
rest_there f g (x ∷ xs) zero key is = ap (λ first. g (f first) ∷ map g (map f xs)) cc
rest_there f g (x ∷ xs) (suc at) key is = rest_there f g xs at key is
