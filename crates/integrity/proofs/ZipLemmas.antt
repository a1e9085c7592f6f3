-- A walk over two lists side by side, the elements of which belong together.
use Rattle.std.proofs.Common.{◌≡◌, ◌⊎◌, zero, suc, Contains, List, [], ◌∷◌, length, map, refl, sym, ap, subst, arith, inl, inr, ⊎_elim}
use Rattle.std.specs.List.{AllZip}

-- What is left of both belongs together, and what was gone through is done.
pub record AreBeside {A B : Type 0} (R : A → B → Type 0) (Done : A → Type 0) (xs left : List A) (others : List B) : Type 0 where
  pub rest : AllZip R left others
  pub among : (x : A) → Contains left x → Contains xs x
  pub seen : (x : A) → Contains xs x → Done x ⊎ Contains left x

module _ {A B : Type 0} (R : A → B → Type 0) (Done : A → Type 0) where
  pub beside_start : (xs left : List A) (ys others : List B) → left ≡ xs → others ≡ ys → AllZip R xs ys → AreBeside R Done xs left others
  beside_start xs left ys others here there all = record {
    rest = subst (λ (l : List B). AllZip R left l) (sym there) (subst (λ (l : List A). AllZip R l ys) (sym here) all);
    among = λ x h. subst (λ (l : List A). Contains l x) here h;
    seen = λ x h. inr (subst (λ (l : List A). Contains l x) (sym here) h);
  }

  first_of : (x y : A) (xs : List A) → Contains (y ∷ xs) x → (y ≡ x) ⊎ Contains xs x
  first_of x y xs (zero, within, at) = inl at
  first_of x y xs (suc k, within, at) = inr (k, omega (arith, within), at)

  module _ (xs left next : List A) (others more : List B) (x : A) (y : B) (beside : AreBeside R Done xs left others)
      (here : left ≡ x ∷ next) (there : others ≡ y ∷ more) where
    both : AllZip R (x ∷ next) (y ∷ more)
    both = subst (λ (l : List B). AllZip R (x ∷ next) l) there (subst (λ (l : List A). AllZip R l others) here beside.rest)

    -- the elements that come next
    pub beside_here : R x y
    beside_here = both.0

    pub beside_among : Contains xs x
    beside_among = beside.among x (subst (λ (l : List A). Contains l x) (sym here) (0, omega arith, refl))

    pub beside_next : Done x → AreBeside R Done xs next more
    beside_next done = record {
      rest = both.1;
      among = λ z h. beside.among z (subst (λ (l : List A). Contains l z) (sym here) (later z h));
      seen = λ z h. ⊎_elim inl
          (λ (left_too : Contains left z). ⊎_elim
          (λ (e : x ≡ z). inl (subst Done e done)) inr
          (first_of z x next (subst (λ (l : List A). Contains l z) here left_too)))
          (beside.seen z h);
    }
      where
        later : (z : A) → Contains next z → Contains (x ∷ next) z
        later z (k, within, at) = (suc k, omega (arith, within), at)

  ended : (left : List A) (others : List B) → AllZip R left others → (length left ≡ 0) ⊎ (length others ≡ 0) → left ≡ []
  ended [] others all end = refl
  ended (x ∷ left) [] all end = absurd all
  ended (x ∷ left) (y ∷ others) all (inl end) = absurd cc
  ended (x ∷ left) (y ∷ others) all (inr end) = absurd cc

  pub beside_end : (xs left : List A) (others : List B) → AreBeside R Done xs left others → (length left ≡ 0) ⊎ (length others ≡ 0)
      → (x : A) → Contains xs x → Done x
  beside_end xs left others beside end x h =
      let none = ended left others beside.rest end in
      ⊎_elim (λ done. done) (λ (some : Contains left x). let k = subst (λ (l : List A). Contains l x) none some in let less = k.1 in absurd (omega (arith, less))) (beside.seen x h)

-- what belongs to each view belongs to its element
pub all_viewed : {A V B : Type 0} (R : V → B → Type 0) (view : A → V) (xs : List A) (ys : List B) → AllZip R (map view xs) ys
    → AllZip (λ x. R (view x)) xs ys
all_viewed R view [] [] all = tt
all_viewed R view [] (y ∷ ys) all = absurd all
all_viewed R view (x ∷ xs) [] all = absurd all
all_viewed R view (x ∷ xs) (y ∷ ys) all = (all.0, all_viewed R view xs ys all.1)

-- what holds of the view of each element holds of each view
pub each_viewed : {A V : Type 0} (P : V → Type 0) (view : A → V) (xs : List A) → ((x : A) → Contains xs x → P (view x))
    → (v : V) → Contains (map view xs) v → P v
each_viewed P view [] each v (k, within, at) = absurd (omega (arith, within))
each_viewed P view (x ∷ xs) each v (zero, within, at) = subst P at (each x (0, omega arith, refl))
each_viewed P view (x ∷ xs) each v (suc k, within, at) =
    each_viewed P view xs (λ z h. let less = h.1 in each z (suc h.0, omega (arith, less), h.2)) v (k, omega (arith, within), at)

-- the view of an element is one of the views
pub viewed : {A V : Type 0} (view : A → V) (xs : List A) (x : A) → Contains xs x → Contains (map view xs) (view x)
viewed view [] x (k, within, at) = absurd (omega (arith, within))
viewed view (y ∷ xs) x (zero, within, at) = (0, omega arith, ap view at)
viewed view (y ∷ xs) x (suc k, within, at) =
    let found = viewed view xs x (k, omega (arith, within), at) in
    let less = found.1 in
    (suc found.0, omega (arith, less), found.2)
