-- What holds of all that is handed out.
use Rattle.std.proofs.Common.{◌≡◌, Bool, true, false, if◌then◌else◌, ℕ, suc, ◌<◌, List, [], ◌∷◌, length, Option, Some, None, option_map, Result, Ok, Err, refl, subst, arith}
use Rattle.std.specs.List.{cons_option, filter_map}
use Rattle.values.specs.declared.fault.Fault.{Fault}
use Rattle.semantics_names.specs.Outcome.{also, both, checked, chosen, each, followed}
use Rattle.semantics_names.specs.Places.{place_of}
use Rattle.semantics_names.specs.Statement.{firsts, once_more}
use Rattle.semantics_refusals.proofs.PartLemmas.{Each, first, join, more, none, one, rest}

abbrev HoldsOf : {A : Type 0} → (A → Type 0) → Result A Fault → Type 0
HoldsOf P (Ok a) = P a
HoldsOf P (Err fault) = Unit {0}

-- this holds of what is handed out, if anything is
pub record Hands {A : Type 0} (P : A → Type 0) (r : Result A Fault) : Type 0 where
  pub is : HoldsOf P r

-- this holds of what is there, if anything is
abbrev HoldsWhere : {A : Type 0} → (A → Type 0) → Option A → Type 0
HoldsWhere P None = Unit {0}
HoldsWhere P (Some a) = P a

pub record IfAny {A : Type 0} (P : A → Type 0) (o : Option A) : Type 0 where
  pub is : HoldsWhere P o

pub handed : {A : Type 0} {P : A → Type 0} (r : Result A Fault) (a : A) → Hands P r → r ≡ Ok a → P a
handed {P = P} (Ok b) a h e = let same : b ≡ a = cc in subst P same h.is
handed (Err fault) a h e = absurd cc

pub hands_of : {A : Type 0} {P : A → Type 0} (r : Result A Fault) → ((a : A) → r ≡ Ok a → P a) → Hands P r
hands_of (Ok a) so = record { is = so a refl }
hands_of (Err fault) so = record { is = tt }

pub hands : {A : Type 0} {P : A → Type 0} (a : A) → P a → Hands P (Ok a)
hands a p = record { is = p }

pub no_hands : {A : Type 0} {P : A → Type 0} (fault : Fault) → Hands P (Err fault)
no_hands fault = record { is = tt }

pub also_hands : {A B : Type 0} {P : A → Type 0} {Q : B → Type 0} (g : A → B) (r : Result A Fault) → Hands P r → ((a : A) → P a → Q (g a))
    → Hands Q (also g r)
also_hands g (Ok a) h so = record { is = so a h.is }
also_hands g (Err fault) h so = record { is = tt }

pub both_hands : {A B C : Type 0} {P : A → Type 0} {Q : B → Type 0} {R : C → Type 0} (g : A → B → C) (r : Result A Fault) (s : Result B Fault)
    → Hands P r → Hands Q s → ((a : A) (b : B) → P a → Q b → R (g a b)) → Hands R (both g r s)
both_hands g (Ok a) s h k so = also_hands (g a) s k (λ b q. so a b h.is q)
both_hands g (Err fault) s h k so = record { is = tt }

pub followed_hands : {A B : Type 0} {P : A → Type 0} {Q : B → Type 0} (r : Result A Fault) (g : A → Result B Fault) → Hands P r
    → ((a : A) → P a → Hands Q (g a)) → Hands Q (followed r g)
followed_hands (Ok a) g h so = so a h.is
followed_hands (Err fault) g h so = record { is = tt }

pub chosen_hands : {A : Type 0} {P : A → Type 0} (r : Result (Option A) Fault) (s : Result A Fault) → Hands (IfAny P) r → Hands P s
    → Hands P (chosen r s)
chosen_hands (Ok (Some a)) s h k = record { is = h.is.is }
chosen_hands (Ok None) s h k = k
chosen_hands (Err fault) s h k = record { is = tt }

pub checked_hands : {A : Type 0} {P : A → Type 0} (kept : Bool) (fault : Fault) (r : Result A Fault) → (kept ≡ true → Hands P r)
    → Hands P (checked kept fault r)
checked_hands true fault r h = h refl
checked_hands false fault r h = record { is = tt }

pub if_hands : {A : Type 0} {P : A → Type 0} (b : Bool) (r s : Result A Fault) → (b ≡ true → Hands P r) → (b ≡ false → Hands P s)
    → Hands P (if b then r else s)
if_hands true r s h k = h refl
if_hands false r s h k = k refl

pub each_hands : {A B : Type 0} {P : B → Type 0} (f : A → Result B Fault) (xs : List A) → ((x : A) → Hands P (f x)) → Hands (Each P) (each f xs)
each_hands f [] h = record { is = none }
each_hands f (x ∷ xs) h = both_hands ◌∷◌ (f x) (each f xs) (h x) (each_hands f xs h) (λ y ys p all. more y ys p all)

pub given_hands : {A B : Type 0} {Q : A → Type 0} {P : B → Type 0} (f : A → Result B Fault) (xs : List A) → Each Q xs
    → ((x : A) → Q x → Hands P (f x))
    → Hands (Each P) (each f xs)
given_hands f [] all h = record { is = none }
given_hands f (x ∷ xs) all h = both_hands ◌∷◌ (f x) (each f xs) (h x (first all)) (given_hands f xs (rest all) h) (λ y ys p of. more y ys p of)

pub firsts_hands : {A B : Type 0} {P : A → Type 0} (same : A → A → Bool) (found : List A) (f : B → Option (Result A Fault)) (xs : List B)
    → Each P found
    → ((x : B) → IfAny (Hands P) (f x)) → Hands (Each P) (firsts same found (filter_map f xs))
firsts_hands same found f [] all h = hands found all
firsts_hands {A = A} {B = B} {P = P} same found f (x ∷ xs) all h = by (f x) (h x) (λ next every. firsts_hands same next f xs every h)
  where
    found_more : (a : A) (at : Option ℕ) → P a → Each P (once_more at found a)
    found_more a None p = join found (a ∷ []) all (one p)
    found_more a (Some at) p = all

    by : (r : Option (Result A Fault)) → IfAny (Hands P) r
        → ((next : List A) → Each P next → Hands (Each P) (firsts same next (filter_map f xs)))
        → Hands (Each P) (firsts same found (cons_option r (filter_map f xs)))
    by None p others = others found all
    by (Some (Ok a)) p others = others (once_more (place_of same a found) found a) (found_more a (place_of same a found) p.is.is)
    by (Some (Err fault)) p others = no_hands fault

-- ---- places

pub record IsBelow (n : ℕ) (at : Option ℕ) : Type 0 where
  pub is : HoldsWhere (λ k. k < n) at

pub place_below : {A : Type 0} (same : A → A → Bool) (x : A) (ys : List A) → IsBelow (length ys) (place_of same x ys)
place_below same x [] = record { is = tt }
place_below {A = A} same x (y ∷ ys) = by (same x y) (place_of same x ys) (place_below same x ys)
  where
    by : (b : Bool) (at : Option ℕ) → IsBelow (length ys) at → IsBelow (suc (length ys)) (if b then Some 0 else option_map suc at)
    by true at h = record { is = omega arith }
    by false None h = record { is = tt }
    by false (Some k) h = let less : k < length ys = h.is in record { is = omega arith }
