-- Where something is handed out, so was all that it was made of.
use Rattle.std.proofs.Common.{◌≡◌, Bool, true, false, List, [], ◌∷◌, Option, Some, None, Result, Ok, Err, All, refl, subst}
use Rattle.std.specs.List.{AllZip}
use Rattle.std.proofs.lemmas.List.Elements.{All-cons, All-nil}
use Rattle.values.specs.declared.fault.Fault.{Fault}
use Rattle.semantics_names.specs.Outcome.{also, both, checked, each, followed, found_or}

pub followed-ok : {A B : Type 0} (r : Result A Fault) (g : A → Result B Fault) (b : B) → followed r g ≡ Ok b → (a : A) × (r ≡ Ok a) × (g a ≡ Ok b)
followed-ok (Ok a) g b e = (a, refl, e)
followed-ok (Err fault) g b e = absurd cc

pub also-ok : {A B : Type 0} (g : A → B) (r : Result A Fault) (b : B) → also g r ≡ Ok b → (a : A) × (r ≡ Ok a) × (g a ≡ b)
also-ok g (Ok a) b e = (a, refl, cc)
also-ok g (Err fault) b e = absurd cc

pub both-ok : {A B C : Type 0} (g : A → B → C) (r : Result A Fault) (s : Result B Fault) (c : C) → both g r s ≡ Ok c → (a : A) × (b : B) × (r ≡ Ok a) × (s ≡ Ok b) × (g a b ≡ c)
both-ok g (Ok a) (Ok b) c e = (a, b, refl, refl, cc)
both-ok g (Ok a) (Err fault) c e = absurd cc
both-ok g (Err fault) s c e = absurd cc

pub checked-ok : {A : Type 0} (kept : Bool) (fault : Fault) (r : Result A Fault) (a : A) → checked kept fault r ≡ Ok a → (kept ≡ true) × (r ≡ Ok a)
checked-ok true fault r a e = (refl, e)
checked-ok false fault r a e = absurd cc

pub found-ok : {A : Type 0} (fault : Fault) (o : Option A) (a : A) → found_or fault o ≡ Ok a → o ≡ Some a
found-ok fault (Some b) a e = cc
found-ok fault None a e = absurd cc

-- what each of a list hands out is related to it
pub each-zip : {A B : Type 0} (f : A → Result B Fault) (R : A → B → Type 0) → ((x : A) (y : B) → f x ≡ Ok y → R x y)
    → (xs : List A) (ys : List B) → each f xs ≡ Ok ys → AllZip R xs ys
each-zip f R is [] [] e = tt
each-zip f R is [] (y ∷ ys) e = absurd cc
each-zip {B = B} f R is (x ∷ xs) ys e = parts ys (both-ok ◌∷◌ (f x) (each f xs) ys e) (each-zip f R is xs)
  where
    parts : (zs : List B) → (y : B) × (rest : List B) × (f x ≡ Ok y) × (each f xs ≡ Ok rest) × (y ∷ rest ≡ zs) → ((rest : List B) → each f xs ≡ Ok rest → AllZip R xs rest) → AllZip R (x ∷ xs) zs
    parts [] (y, rest, first, others, same) more = absurd cc
    parts (z ∷ zs) (y, rest, first, others, same) more =
        let head : y ≡ z = cc in
        let tail : rest ≡ zs = cc in
        (is x z (subst (λ v. f x ≡ Ok v) head first), more zs (subst (λ v. each f xs ≡ Ok v) tail others))

pub each-all : {A B : Type 0} (f : A → Result B Fault) (P : A → Type 0) → ((x : A) (y : B) → f x ≡ Ok y → P x)
    → (xs : List A) (ys : List B) → each f xs ≡ Ok ys → All P xs
each-all f P is [] ys e = All-nil P
each-all f P is (x ∷ xs) ys e =
    let (y, rest, first, others, same) = both-ok ◌∷◌ (f x) (each f xs) ys e in
    All-cons P x xs (is x y first) (each-all f P is xs rest others)
