-- Records as rows of their table.
use Rattle.std.proofs.lemmas.Bool.{cases_lt}
use Rattle.std.proofs.Common.{◌≡◌, ◌<◌, ◌≤◌, ◌∙◌, ⊎_elim, ℕ, zero, suc, ◌+◌, List, [], ◌∷◌, ◌++◌, ap, add-one, take, length, slice_get, slice_index_or, Some, refl, sym, arith, subst, inl, inr, ◌⊎◌}
use Rattle.std.proofs.lemmas.List.{length_push}
use Rattle.std.specs.List.{AllZip}

some_same : {A : Type 0} (x y : A) → Some x ≡ Some y → x ≡ y
some_same x y e = cc

pub get_at : {A : Type 0} (xs : List A) (i : ℕ) (x : A) → i < length xs → x ≡ slice_index_or xs i x → slice_get xs i ≡ Some x
get_at [] i x within is = absurd (omega arith)
get_at (y ∷ ys) zero x within is = cc
get_at (y ∷ ys) (suc i) x within is = get_at ys i x (omega arith) is

-- what holds of the elements at each place, and what holds at a place
module _ {A B : Type 0} (R : A → B → Type 0) where
  pub all_from_each : (xs : List A) (ys : List B) → length ys ≡ length xs
      → ((k : ℕ) (x : A) (y : B) → k < length xs → slice_get xs k ≡ Some x → slice_get ys k ≡ Some y → R x y) → AllZip R xs ys
  all_from_each [] [] long each = tt
  all_from_each [] (y ∷ ys) long each = absurd (omega (arith, long))
  all_from_each (x ∷ xs) [] long each = absurd (omega (arith, long))
  all_from_each (x ∷ xs) (y ∷ ys) long each = (
    each 0 x y (omega arith) refl refl,
    all_from_each xs ys (omega (arith, long)) (λ k a b within here there. each (suc k) a b (omega arith) here there),
  )

  pub each_of_all : (xs : List A) (ys : List B) (k : ℕ) (x : A) (y : B) → AllZip R xs ys → slice_get xs k ≡ Some x → slice_get ys k ≡ Some y → R x y
  each_of_all [] ys k x y all here there = cc
  each_of_all (a ∷ xs) [] k x y all here there = absurd all
  each_of_all (a ∷ xs) (b ∷ ys) zero x y all here there =
      subst (λ (u : A). R u y) (some_same a x here) (subst (λ (v : B). R a v) (some_same b y there) all.0)
  each_of_all (a ∷ xs) (b ∷ ys) (suc k) x y all here there = each_of_all xs ys k x y all.1 here there

  -- one place more
  pub each_more : (xs : List A) (ys : List B) (i : ℕ) (u : A) (v : B) → slice_get xs i ≡ Some u → slice_get ys i ≡ Some v → R u v
      → ((k : ℕ) (x : A) (y : B) → k < i → slice_get xs k ≡ Some x → slice_get ys k ≡ Some y → R x y)
      → (k : ℕ) (x : A) (y : B) → k < i + 1 → slice_get xs k ≡ Some x → slice_get ys k ≡ Some y → R x y
  each_more xs ys i u v is_u is_v now so_far k x y within here there =
      ⊎_elim (λ (less : k < i). so_far k x y less here there)
      (λ (least : i ≤ k).
      let same : k ≡ i = omega arith in
      let at_i : slice_get xs i ≡ Some x = subst (λ (j : ℕ). slice_get xs j ≡ Some x) same here in
      let also : slice_get ys i ≡ Some y = subst (λ (j : ℕ). slice_get ys j ≡ Some y) same there in
      subst (λ (a : A). R a y) (some_same u x (sym is_u ∙ at_i)) (subst (λ (b : B). R u b) (some_same v y (sym is_v ∙ also)) now))
      (cases_lt k i)

-- one pair more
pub all_push : {A B : Type 0} (R : A → B → Type 0) (xs : List A) (ys : List B) (x : A) (y : B) → AllZip R xs ys → R x y
    → AllZip R (xs ++ x ∷ []) (ys ++ y ∷ [])
all_push R [] [] x y all now = (now, tt)
all_push R [] (b ∷ ys) x y all now = absurd all
all_push R (a ∷ xs) [] x y all now = absurd all
all_push R (a ∷ xs) (b ∷ ys) x y all now = (all.0, all_push R xs ys x y all.1 now)

take_suc : {A : Type 0} (xs : List A) (i : ℕ) (x : A) → slice_get xs i ≡ Some x → take (suc i) xs ≡ take i xs ++ x ∷ []
take_suc [] i x here = cc
take_suc (y ∷ ys) zero x here = ap (λ z. z ∷ []) (some_same y x here)
take_suc (y ∷ ys) (suc i) x here = ap (λ zs. y ∷ zs) (take_suc ys i x here)

pub take_next : {A : Type 0} (xs : List A) (i : ℕ) (x : A) → slice_get xs i ≡ Some x → take (i + 1) xs ≡ take i xs ++ x ∷ []
take_next xs i x here = ap (λ n. take n xs) (add-one i) ∙ take_suc xs i x here

pub all_next : {A B : Type 0} (R : A → B → Type 0) (xs : List A) (ys us : List B) (i : ℕ) (x : A) (y : B) → slice_get xs i ≡ Some x
    → us ≡ ys ++ y ∷ [] → AllZip R (take i xs) ys → R x y → AllZip R (take (i + 1) xs) us
all_next R xs ys us i x y here more all now = rw (take_next xs i x here, more) (all_push R (take i xs) ys x y all now)

pub taken_more : {A : Type 0} (xs ys us : List A) (i : ℕ) (x y : A) → slice_get xs i ≡ Some x → ys ≡ take i xs → us ≡ ys ++ y ∷ [] → y ≡ x
    → us ≡ take (i + 1) xs
taken_more xs ys us i x y here so_far more same = rw (more, so_far, same) (sym (take_next xs i x here))

-- what a list with one more at its end has at a place
got_push : {A : Type 0} (ys : List A) (y : A) (k : ℕ) (x : A) → slice_get (ys ++ y ∷ []) k ≡ Some x
    → (slice_get ys k ≡ Some x) ⊎ ((k ≡ length ys) × (y ≡ x))
got_push [] y zero x here = inr (refl, some_same y x here)
got_push [] y (suc k) x here = cc
got_push (z ∷ ys) y zero x here = inl here
got_push (z ∷ ys) y (suc k) x here = ⊎_elim inl (λ e. inr (ap suc e.0, e.1)) (got_push ys y k x here)

pub each_push : {A : Type 0} (P : ℕ → A → Type 0) (ys us : List A) (y : A) (i : ℕ) → length ys ≡ i → us ≡ ys ++ y ∷ [] → P i y
    → ((k : ℕ) (x : A) → slice_get ys k ≡ Some x → P k x) → (k : ℕ) (x : A) → slice_get us k ≡ Some x → P k x
each_push {A} P ys us y i long more now so_far k x here =
    ⊎_elim (λ before. so_far k x before)
    (λ last. subst (λ (j : ℕ). P j x) (sym (last.0 ∙ long)) (subst (λ (a : A). P i a) last.1 now))
    (got_push ys y k x (rw (sym more) here))

pub long_push : {A : Type 0} (ys us : List A) (y : A) (i : ℕ) → length ys ≡ i → us ≡ ys ++ y ∷ [] → length us ≡ i + 1
long_push ys us y i long more = rw more (omega (arith, length_push ys y, long))
