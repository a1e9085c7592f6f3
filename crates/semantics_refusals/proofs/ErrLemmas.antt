-- Where a fault is handed out, one of the parts has it.
use Rattle.std.proofs.Common.{◌≡◌, ◌⊎◌, inl, inr, Bool, true, false, List, [], ◌∷◌, Option, Some, None, Result, Ok, Err, Contains, ap, refl, ◌∙◌}
use Rattle.std.specs.List.{cons_option, filter_map}
use Rattle.std.proofs.lemmas.List.Elements.{Contains-append_left, Contains-append_right, Contains-push}
use Rattle.values.specs.declared.fault.Fault.{Fault}
use Rattle.semantics_names.specs.Outcome.{also, both, checked, chosen, each, followed, found_or}
use Rattle.semantics_names.specs.Places.{place_of}
use Rattle.semantics_names.specs.Statement.{firsts, once_more}

pub also-err : {A B : Type 0} (g : A → B) (r : Result A Fault) (fault : Fault) → also g r ≡ Err fault → r ≡ Err fault
also-err g (Ok a) fault e = absurd cc
also-err g (Err other) fault e = cc

pub followed-err : {A B : Type 0} (r : Result A Fault) (g : A → Result B Fault) (fault : Fault) → followed r g ≡ Err fault
    → (r ≡ Err fault) ⊎ ((a : A) × (r ≡ Ok a) × (g a ≡ Err fault))
followed-err (Ok a) g fault e = inr (a, refl, e)
followed-err (Err other) g fault e = inl cc

pub both-err : {A B C : Type 0} (g : A → B → C) (r : Result A Fault) (s : Result B Fault) (fault : Fault) → both g r s ≡ Err fault
    → (r ≡ Err fault) ⊎ ((a : A) × (r ≡ Ok a) × (s ≡ Err fault))
both-err g (Ok a) s fault e = inr (a, refl, also-err (g a) s fault e)
both-err g (Err other) s fault e = inl cc

pub checked-err : {A : Type 0} (kept : Bool) (other : Fault) (r : Result A Fault) (fault : Fault) → checked kept other r ≡ Err fault
    → (other ≡ fault) ⊎ (r ≡ Err fault)
checked-err true other r fault e = inr e
checked-err false other r fault e = inl cc

pub found-err : {A : Type 0} (other : Fault) (o : Option A) (fault : Fault) → found_or other o ≡ Err fault → o ≡ None
found-err other None fault e = refl
found-err other (Some a) fault e = absurd cc

pub each-err : {A B : Type 0} (f : A → Result B Fault) (xs : List A) (fault : Fault) → each f xs ≡ Err fault
    → (x : A) × Contains xs x × (f x ≡ Err fault)
each-err f [] fault e = absurd cc
each-err {A = A} f (x ∷ xs) fault e = by (both-err ◌∷◌ (f x) (each f xs) fault e) (each-err f xs fault)
  where
    by : (f x ≡ Err fault) ⊎ ((a : _) × (f x ≡ Ok a) × (each f xs ≡ Err fault))
        → (each f xs ≡ Err fault → (x : A) × Contains xs x × (f x ≡ Err fault))
        → (y : A) × Contains (x ∷ xs) y × (f y ≡ Err fault)
    by (inl is) more = (x, Contains-append_left (x ∷ []) xs x (Contains-push [] x), is)
    by (inr (a, first, others)) more =
        let (y, there, is) = more others in (y, Contains-append_right (x ∷ []) xs y there, is)

pub chosen-err : {A : Type 0} (r : Result (Option A) Fault) (s : Result A Fault) (fault : Fault) → chosen r s ≡ Err fault
    → (r ≡ Err fault) ⊎ ((r ≡ Ok None) × (s ≡ Err fault))
chosen-err (Ok (Some a)) s fault e = absurd cc
chosen-err (Ok None) s fault e = inr (refl, e)
chosen-err (Err other) s fault e = inl cc

pub firsts-err : {A B : Type 0} (same : A → A → Bool) (found : List A) (f : B → Option (Result A Fault)) (xs : List B) (fault : Fault)
    → firsts same found (filter_map f xs) ≡ Err fault → (x : B) × Contains xs x × (f x ≡ Some (Err fault))
firsts-err same found f [] fault e = absurd cc
firsts-err {A = A} {B = B} same found f (x ∷ xs) fault e = by (f x) refl e (λ next d. firsts-err same next f xs fault d)
  where
    by : (o : Option (Result A Fault)) → f x ≡ o → firsts same found (cons_option o (filter_map f xs)) ≡ Err fault
        → ((next : List A) → firsts same next (filter_map f xs) ≡ Err fault → (y : B) × Contains xs y × (f y ≡ Some (Err fault)))
        → (y : B) × Contains (x ∷ xs) y × (f y ≡ Some (Err fault))
    by None is d others = let (y, there, so) = others found d in (y, Contains-append_right (x ∷ []) xs y there, so)
    by (Some (Ok a)) is d others =
        let (y, there, so) = others (once_more (place_of same a found) found a) d in (y, Contains-append_right (x ∷ []) xs y there, so)
    by (Some (Err other)) is d others =
        let same_fault : other ≡ fault = cc in (x, Contains-append_left (x ∷ []) xs x (Contains-push [] x), is ∙ ap (λ f. Some (Err f)) same_fault)
