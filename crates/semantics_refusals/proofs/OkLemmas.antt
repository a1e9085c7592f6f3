-- Where something is handed out, so was all that it was made of.
use Rattle.std.proofs.Common.{◌≡◌, List, [], ◌∷◌, ◌++◌, Option, Some, None, Result, Ok, All, Contains, subst}
use Rattle.std.specs.List.{cons_option, filter_map}
use Rattle.std.proofs.lemmas.List.Elements.{All-cons, All-contains, All-contains_itself, All-head, All-nil, All-tail, All-weaker, Contains-append_left, Contains-append_right}
use Rattle.values.specs.declared.fault.Fault.{Fault}
use Rattle.semantics_names.specs.Outcome.{each}
use Rattle.semantics_names.proofs.OutcomeLemmas.{each-all}

-- it is handed out
abbrev pub IsGiven : {A : Type 0} → Result A Fault → Type 0
IsGiven {A} r = (a : A) × (r ≡ Ok a)

pub each-ok : {A B : Type 0} (f : A → Result B Fault) (xs : List A) (ys : List B) → each f xs ≡ Ok ys → All (λ x. IsGiven (f x)) xs
each-ok f = each-all f (λ x. IsGiven (f x)) (λ x y e. (y, e))

abbrev the_result : {A : Type 0} → A → Result A Fault
the_result a = Ok a

pub ok-is : {A : Type 0} (a b : A) → the_result a ≡ Ok b → a ≡ b
ok-is a b e = cc

-- what holds of all that a list gives
pub filtered : {X Y : Type 0} (P : Y → Type 0) (h : X → Option Y) (xs : List X) → All P (filter_map h xs)
    → All (λ x. (y : Y) → h x ≡ Some y → P y) xs
filtered {Y = Y} P h [] all = All-nil (λ x. (y : Y) → h x ≡ Some y → P y)
filtered {Y = Y} P h (x ∷ xs) all =
    All-cons (λ x. (y : Y) → h x ≡ Some y → P y) x xs (first (h x) all) (filtered P h xs (others (h x) all))
  where
    first : (o : Option Y) → All P (cons_option o (filter_map h xs)) → (y : Y) → o ≡ Some y → P y
    first None a y e = absurd cc
    first (Some z) a y e = let same : z ≡ y = cc in subst P same (All-head P z (filter_map h xs) a)

    others : (o : Option Y) → All P (cons_option o (filter_map h xs)) → All P (filter_map h xs)
    others None a = a
    others (Some z) a = All-tail P z (filter_map h xs) a

-- what holds of all of two lists holds of each
pub front : {X : Type 0} (P : X → Type 0) (xs ys : List X) → All P (xs ++ ys) → All P xs
front P xs ys all =
    All-weaker (Contains xs) P (λ x among. All-contains P (xs ++ ys) x all (Contains-append_left xs ys x among)) xs (All-contains_itself xs)

pub back : {X : Type 0} (P : X → Type 0) (xs ys : List X) → All P (xs ++ ys) → All P ys
back P xs ys all =
    All-weaker (Contains ys) P (λ x among. All-contains P (xs ++ ys) x all (Contains-append_right xs ys x among)) ys (All-contains_itself ys)
