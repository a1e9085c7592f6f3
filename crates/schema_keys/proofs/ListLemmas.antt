-- Elements of lists, and what a test of each finds.
use Rattle.std.proofs.Common.{◌≡◌, ℕ, suc, zero, ◌+◌, ◌<◌, ◌⊎◌, inl, inr, Bool, true, false, IsTrue, ◌↔◌, All, MatchBool, List, [], ◌∷◌, ◌++◌, length, get_or, map, take, drop, slice_get, Some, refl, sym, ap, ◌∙◌, subst, arith}
use Rattle.std.proofs.lemmas.List.{get_or-map, length-map, drop_more, map-append, map_more, take-append-drop}
use Rattle.std.proofs.lemmas.List.Elements.{All-from_all_within}
use Rattle.std.specs.List.{AllWithin, AllZip, Any, HoldsAt}

pub any_at : {X : Type 0} (P : X → Type 0) (xs : List X) (k : ℕ) → k < length xs → HoldsAt P xs k → Any P xs
any_at P [] k within at = absurd (omega (arith, within))
any_at P (x ∷ xs) zero within at = (0, x, omega arith, refl, at x)
any_at P (x ∷ xs) (suc k) within at =
    let rest : Any P xs = any_at P xs k (omega (arith, within)) (λ d. at d) in
    (suc rest.0, rest.1, omega (arith, rest.2), rest.3, rest.4)

-- a test of each element found one that has P
pub any_is : {X : Type 0} (P : X → Type 0) (xs : List X) (r : Bool)
    → MatchBool r ((k : ℕ) × (k < length xs) × HoldsAt P xs k) (AllWithin (λ x. ¬ P x) xs 0 (length xs)) → IsTrue r ↔ Any P xs
any_is P xs true h = ((λ e. any_at P xs h.0 h.1 h.2), λ a. refl)
any_is P xs false h = ((λ e. absurd cc), λ a. absurd (h a.0 a.1 (omega arith) a.2 (subst P (sym a.3) a.4)))

-- a test of each element found that all have P
pub all_is : {X : Type 0} (P : X → Type 0) (xs : List X) (r : Bool)
    → MatchBool r (AllWithin P xs 0 (length xs)) ((k : ℕ) × (k < length xs) × HoldsAt (λ x. ¬ P x) xs k) → IsTrue r ↔ All P xs
all_is P xs true h = ((λ e. All-from_all_within P xs h), λ a. refl)
all_is {X = X} P xs false h =
    let other : Any (λ x. ¬ P x) xs = any_at (λ x. ¬ P x) xs h.0 h.1 h.2 in
    ((λ e. absurd cc), λ (a : All P xs). absurd (other.4 (subst P other.3 (a other.0 other.1 other.2))))

-- what holds of all that a function makes
pub all_from_map : {X Y : Type 0} (P : X → Type 0) (f : Y → X) (ys : List Y) → All P (map f ys) → All (λ y. P (f y)) ys
all_from_map P f ys all = λ k y within.
    subst P (get_or-map f ys k y (f y) within)
    (all k (f y) (let l = length-map ys f in omega (arith, l, within)))

-- the elements of lists in a row
pub get_front : {X : Type 0} (xs ys : List X) (i : ℕ) (a : X) → slice_get xs i ≡ Some a → slice_get (xs ++ ys) i ≡ Some a
get_front [] ys i a h = absurd cc
get_front (x ∷ xs) ys zero a h = h
get_front (x ∷ xs) ys (suc i) a h = get_front xs ys i a h

pub get_middle : {X : Type 0} (xs : List X) (x : X) (ys : List X) → slice_get (xs ++ x ∷ ys) (length xs) ≡ Some x
get_middle [] x ys = refl
get_middle (y ∷ xs) x ys = get_middle xs x ys

pub get_pushed : {X : Type 0} (xs : List X) (x : X) (i : ℕ) (a : X) → slice_get (xs ++ x ∷ []) i ≡ Some a
    → (slice_get xs i ≡ Some a) ⊎ ((i ≡ length xs) × (x ≡ a))
get_pushed [] x zero a h = inr (refl, cc)
get_pushed [] x (suc i) a h = absurd cc
get_pushed (y ∷ xs) x zero a h = inl h
get_pushed (y ∷ xs) x (suc i) a h = go (get_pushed xs x i a h)
  where
    go : (slice_get xs i ≡ Some a) ⊎ ((i ≡ length xs) × (x ≡ a)) → (slice_get xs i ≡ Some a) ⊎ ((suc i ≡ suc (length xs)) × (x ≡ a))
    go (inl h) = inl h
    go (inr (e, f)) = inr (ap suc e, f)

-- the list that one element stands in, in parts
pub map_split : {X Y : Type 0} (f : X → Y) (xs : List X) (i : ℕ) (x : X) → i < length xs → x ≡ get_or xs i x
    → map f xs ≡ map f (take i xs) ++ f x ∷ map f (drop (i + 1) xs)
map_split f xs i x within is =
    ap (map f) (sym (take-append-drop i xs))
    ∙ (map-append f (take i xs) (drop i xs)
    ∙ ap (λ ys. map f (take i xs) ++ map f ys) (drop_more xs i x within ∙ ap (λ y. y ∷ drop (i + 1) xs) (sym is)))

-- the list as far as one element more
pub map_next : {X Y : Type 0} (f : X → Y) (xs : List X) (i : ℕ) (x : X) → i < length xs → x ≡ get_or xs i x
    → map f (take (i + 1) xs) ≡ map f (take i xs) ++ f x ∷ []
map_next f xs i x within is = map_more f xs i x within ∙ ap (λ y. map f (take i xs) ++ f y ∷ []) (sym is)

pub all_zip_push : {X Y : Type 0} (R : X → Y → Type 0) (xs : List X) (ys : List Y) (x : X) (y : Y) → AllZip R xs ys → R x y
    → AllZip R (xs ++ x ∷ []) (ys ++ y ∷ [])
all_zip_push R [] [] x y all here = (here, tt)
all_zip_push R [] (b ∷ ys) x y all here = absurd all
all_zip_push R (a ∷ xs) [] x y all here = absurd all
all_zip_push R (a ∷ xs) (b ∷ ys) x y all here = (all.0, all_zip_push R xs ys x y all.1 here)

-- what stands beside an element
pub beside : {X Y : Type 0} (R : X → Y → Type 0) (xs : List X) (ys : List Y) (i : ℕ) (x : X) → i < length xs → x ≡ get_or xs i x
    → AllZip R xs ys → (y : Y) × R x y
beside R [] ys i x within is all = absurd (omega (arith, within))
beside R (a ∷ xs) [] i x within is all = absurd all
beside R (a ∷ xs) (b ∷ ys) zero x within is all = (b, subst (λ z. R z b) (sym is) all.0)
beside R (a ∷ xs) (b ∷ ys) (suc i) x within is all = beside R xs ys i x (omega (arith, within)) is all.1
