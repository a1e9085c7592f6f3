-- Lists that a function makes of others, and the numbers of a list.
use Rattle.std.proofs.Common.{◌≡◌, ◌<◌, ◌&&◌, ◌||◌, ℕ, zero, suc, Bool, true, false, Contains, List, [], ◌∷◌, Some, map, slice_get, nat_eq, refl, ap, subst, ◌∙◌, ⊎_elim, arith}
use Rattle.std.specs.List.{list_all}
use Rattle.std.specs.Ordering.{is_lt}
use Rattle.values.specs.Datum.{Datum}
use Rattle.btree.proofs.lemmas.image.ListLemmas.{cons_cases, in_head, in_none, in_tail}
use Rattle.btree_cursor.specs.key_ranges.Ranges.{key_cmp}
use Rattle.btree_cursor.specs.key_ranges.Runs.{Ascend}
use Rattle.records_tables.specs.primary_rows.Firsts.{has_number}

module _ {X Y : Type 0} (f g : X → Y) where
  -- functions that make one list of a list agree on its elements
  pub agree_on : (xs : List X) → map f xs ≡ map g xs → (x : X) → Contains xs x → f x ≡ g x
  agree_on [] e x h = absurd (in_none x h)
  agree_on (y ∷ xs) e x h =
      let both : f y ∷ map f xs ≡ g y ∷ map g xs = e in
      let first : f y ≡ g y = cc in
      let rest : map f xs ≡ map g xs = cc in
      ⊎_elim (λ (is : y ≡ x). subst (λ (z : X). f z ≡ g z) is first) (λ (there : Contains xs x). agree_on xs rest x there) (cons_cases y x xs h)

  pub map_agreeing : (xs : List X) → ((x : X) → Contains xs x → f x ≡ g x) → map f xs ≡ map g xs
  map_agreeing [] each = refl
  map_agreeing (x ∷ xs) each =
      ap (λ (y : Y). y ∷ map f xs) (each x (in_head x xs))
      ∙ ap (λ (l : List Y). g x ∷ l) (map_agreeing xs (λ z h. each z (in_tail x z xs h)))

-- a number that a list has stands in it
same_number : (x y : ℕ) → nat_eq x y ≡ true → x ≡ y
same_number x y e = grind arith

by_test : {P : Type 0} (b : Bool) → (b ≡ true → P) → (b ≡ false → P) → P
by_test true pass fail = pass refl
by_test false pass fail = fail refl

pub number_in : (numbers : List ℕ) (x : ℕ) → has_number numbers x ≡ true → Contains numbers x
number_in [] x has = let e : false ≡ true = has in cc
number_in (y ∷ numbers) x has = by_test (nat_eq y x)
    (λ here. subst (λ (z : ℕ). Contains (y ∷ numbers) z) (same_number y x here) (in_head y numbers))
    (λ other. in_tail y x numbers (number_in numbers x (subst (λ (b : Bool). (b || has_number numbers x) ≡ true) other has)))

-- what a test says of all elements it says of one
and_left : (a b : Bool) → (a && b) ≡ true → a ≡ true
and_left true b e = refl
and_left false b e = e

and_right : (a b : Bool) → (a && b) ≡ true → b ≡ true
and_right true b e = e
and_right false b e = let f : false ≡ true = e in cc

module _ {X : Type 0} (descends : List Bool) (f : X → List Datum) where
  passes_at : (p : List Datum → Bool) (xs : List X) (i : ℕ) (x : X) → list_all p (map f xs) ≡ true → slice_get xs i ≡ Some x → p (f x) ≡ true
  passes_at p [] i x all at = cc
  passes_at p (y ∷ xs) zero x all at =
      let is : y ≡ x = cc in
      subst (λ (z : X). p (f z) ≡ true) is (and_left (p (f y)) (list_all p (map f xs)) all)
  passes_at p (y ∷ xs) (suc i) x all at = passes_at p xs i x (and_right (p (f y)) (list_all p (map f xs)) all) at

  -- of rows in order each comes before a later one
  pub ascend_at : (xs : List X) (i j : ℕ) (x y : X) → Ascend descends (map f xs) → i < j → slice_get xs i ≡ Some x → slice_get xs j ≡ Some y
      → is_lt (key_cmp descends (f x) (f y)) ≡ true
  ascend_at [] i j x y all less at_x at_y = cc
  ascend_at (z ∷ xs) i zero x y all less at_x at_y = absurd (omega (arith, less))
  ascend_at (z ∷ xs) zero (suc j) x y all less at_x at_y =
      let is : z ≡ x = cc in
      subst (λ (w : X). is_lt (key_cmp descends (f w) (f y)) ≡ true) is (passes_at (λ v. is_lt (key_cmp descends (f z) v)) xs j y all.0 at_y)
  ascend_at (z ∷ xs) (suc i) (suc j) x y all less at_x at_y = ascend_at xs i j x y all.1 (omega (arith, less)) at_x at_y
