-- Where something is refused, it is so by a fault of which this holds.
use Rattle.std.proofs.Common.{◌≡◌, ◌⊎◌, inl, inr, Bool, true, false, if◌then◌else◌, List, [], ◌∷◌, Option, Some, None, Result, Ok, Err, refl}
use Rattle.std.specs.List.{cons_option, filter_map}
use Rattle.values.specs.declared.fault.Fault.{Fault}
use Rattle.values.specs.declared.fault.Fault.TheVariants.{WrongPlace}
use Rattle.semantics_names.specs.Laws.{SameIsEqual}
use Rattle.semantics_names.specs.Outcome.{also, both, checked, chosen, each, followed, found_or}
use Rattle.semantics_names.specs.Statement.{firsts, once_more}
use Rattle.semantics_names.specs.Places.{place_of}
use Rattle.semantics_refusals.proofs.PartLemmas.{Each, first, rest}

abbrev HandsOut : (Fault → Type 0) → {A : Type 0} → (A → Type 0) → Result A Fault → Type 0
HandsOut F P (Ok a) = P a
HandsOut F P (Err fault) = F fault

-- this holds of what is handed out, or else that of the fault
pub record Gives (F : Fault → Type 0) {A : Type 0} (P : A → Type 0) (r : Result A Fault) : Type 0 where
  pub is : HandsOut F P r

-- of a fault, if there is one, this holds
abbrev pub Only : (Fault → Type 0) → {A : Type 0} → Result A Fault → Type 0
Only F r = Gives F (λ _. Unit {0}) r

-- it is known what is equal, or it holds of the fault that speaks of it
pub record Takes (F : Fault → Type 0) : Type 0 where
  pub laws : SameIsEqual ⊎ F WrongPlace

pub or_else : {A B : Type 0} → A ⊎ B → (A → B) → B
or_else (inl a) f = f a
or_else (inr b) f = b

pub either : {A B C : Type 0} → A ⊎ B → (A → C) → C ⊎ B
either (inl a) f = inl (f a)
either (inr b) f = inr b

module _ {F : Fault → Type 0} where
  pub ok : {A : Type 0} (a : A) → Only F (Ok a)
  ok a = record { is = tt }

  pub refused : {A : Type 0} (fault : Fault) → F fault → Only F {A = A} (Err fault)
  refused fault is = record { is = is }

  pub gives : {A : Type 0} (P : A → Type 0) (a : A) → P a → Gives F P (Ok a)
  gives P a p = record { is = p }

  pub also_gives : {A B : Type 0} (P : B → Type 0) (g : A → B) (r : Result A Fault) → Only F r → ((a : A) → P (g a)) → Gives F P (also g r)
  also_gives P g (Ok a) o p = record { is = p a }
  also_gives P g (Err fault) o p = record { is = o.is }

  pub also_only : {A B : Type 0} (g : A → B) (r : Result A Fault) → Only F r → Only F (also g r)
  also_only g r o = also_gives (λ _. Unit {0}) g r o (λ a. tt)

  pub also_back : {A B : Type 0} (g : A → B) (r : Result A Fault) → Only F (also g r) → Only F r
  also_back g (Ok a) o = ok a
  also_back g (Err fault) o = record { is = o.is }

  pub both_only : {A B C : Type 0} (g : A → B → C) (r : Result A Fault) (s : Result B Fault) → Only F r → Only F s → Only F (both g r s)
  both_only g (Ok a) s o p = also_only (g a) s p
  both_only g (Err fault) s o p = record { is = o.is }

  pub followed_gives : {A B : Type 0} (P : A → Type 0) (Q : B → Type 0) (r : Result A Fault) (g : A → Result B Fault) → Gives F P r
      → ((a : A) → P a → Gives F Q (g a)) → Gives F Q (followed r g)
  followed_gives P Q (Ok a) g o more = more a o.is
  followed_gives P Q (Err fault) g o more = record { is = o.is }

  pub followed_only : {A B : Type 0} (r : Result A Fault) (g : A → Result B Fault) → Only F r → ((a : A) → Only F (g a)) → Only F (followed r g)
  followed_only r g o more = followed_gives (λ _. Unit {0}) (λ _. Unit {0}) r g o (λ a _. more a)

  -- what follows knows what was handed out
  pub known_gives : {A B : Type 0} (Q : B → Type 0) (r : Result A Fault) (g : A → Result B Fault) → Only F r → ((a : A) → r ≡ Ok a → Gives F Q (g a))
      → Gives F Q (followed r g)
  known_gives Q (Ok a) g o more = more a refl
  known_gives Q (Err fault) g o more = record { is = o.is }

  pub known_only : {A B : Type 0} (r : Result A Fault) (g : A → Result B Fault) → Only F r → ((a : A) → r ≡ Ok a → Only F (g a)) → Only F (followed r g)
  known_only r g o more = known_gives (λ _. Unit {0}) r g o more

  pub chosen_only : {A : Type 0} (r : Result (Option A) Fault) (s : Result A Fault) → Only F r → Only F s → Only F (chosen r s)
  chosen_only (Ok (Some a)) s o p = ok a
  chosen_only (Ok None) s o p = p
  chosen_only (Err fault) s o p = record { is = o.is }

  -- what is asked last knows that nothing was said
  pub chosen_known : {A : Type 0} (r : Result (Option A) Fault) (s : Result A Fault) → Only F r → (r ≡ Ok None → Only F s) → Only F (chosen r s)
  chosen_known (Ok (Some a)) s o p = ok a
  chosen_known (Ok None) s o p = p refl
  chosen_known (Err fault) s o p = record { is = o.is }

  pub each_only : {A B : Type 0} (f : A → Result B Fault) (xs : List A) → Each (λ x. Only F (f x)) xs → Only F (each f xs)
  each_only f [] o = ok []
  each_only f (x ∷ xs) o = both_only ◌∷◌ (f x) (each f xs) (first o) (each_only f xs (rest o))

  pub all_only : {A B : Type 0} (f : A → Result B Fault) (xs : List A) → ((x : A) → Only F (f x)) → Only F (each f xs)
  all_only f [] o = ok []
  all_only f (x ∷ xs) o = both_only ◌∷◌ (f x) (each f xs) (o x) (all_only f xs o)

  pub checked_only : {A : Type 0} (kept : Bool) (fault : Fault) (r : Result A Fault) → (kept ≡ false → F fault) → Only F r → Only F (checked kept fault r)
  checked_only true fault r is o = o
  checked_only false fault r is o = record { is = is refl }

  pub found_only : {A : Type 0} (fault : Fault) (o : Option A) → F fault → Only F (found_or fault o)
  found_only fault None is = record { is = is }
  found_only fault (Some a) is = ok a

  pub if_only : {A : Type 0} (b : Bool) (r s : Result A Fault) → (b ≡ true → Only F r) → Only F s → Only F (if b then r else s)
  if_only true r s o p = o refl
  if_only false r s o p = p

-- ---- where there may be nothing

abbrev OnlyWhere : (Fault → Type 0) → {A : Type 0} → Option (Result A Fault) → Type 0
OnlyWhere F None = Unit {0}
OnlyWhere F (Some r) = Only F r

pub record OnlySome (F : Fault → Type 0) {A : Type 0} (o : Option (Result A Fault)) : Type 0 where
  pub is : OnlyWhere F o

module _ {F : Fault → Type 0} where
  pub nothing : {A : Type 0} → OnlySome F {A = A} None
  nothing = record { is = tt }

  pub some : {A : Type 0} (r : Result A Fault) → Only F r → OnlySome F (Some r)
  some r o = record { is = o }

  pub firsts_only : {A B : Type 0} (same : A → A → Bool) (found : List A) (f : B → Option (Result A Fault)) (xs : List B) → Each (λ x. OnlySome F (f x)) xs
      → Only F (firsts same found (filter_map f xs))
  firsts_only same found f [] o = ok found
  firsts_only {A = A} {B = B} same found f (x ∷ xs) o = by (f x) (first o) (λ more. firsts_only same more f xs (rest o))
    where
      by : (r : Option (Result A Fault)) → OnlySome F r → ((more : List A) → Only F (firsts same more (filter_map f xs)))
          → Only F (firsts same found (cons_option r (filter_map f xs)))
      by None p others = others found
      by (Some (Ok a)) p others = others (once_more (place_of same a found) found a)
      by (Some (Err fault)) p others = record { is = p.is.is }
