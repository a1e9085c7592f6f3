-- Two lists, element by element.
use Rattle.std.proofs.Common.{◌≡◌, ◌++◌, List, [], ◌∷◌, map, refl, ap}
use Rattle.std.specs.Prelude.{All}
use Rattle.std.specs.List.{AllZip}
use Rattle.std.proofs.lemmas.List.Elements.{All-cons, All-head, All-nil, All-tail}

module _ {A B : Type 0} (R : A → B → Type 0) where
  -- the parts beside the front of a list and beside the rest of it
  pub record AreParts (front rest : List A) (ys : List B) : Type 0 where
    pub first : List B
    pub later : List B
    pub are : ys ≡ first ++ later
    pub front_zip : AllZip R front first
    pub rest_zip : AllZip R rest later

  pub zip_parts : (front rest : List A) (ys : List B) → AllZip R (front ++ rest) ys → AreParts front rest ys
  zip_parts [] rest ys all = record { first = []; later = ys; are = refl; front_zip = tt; rest_zip = all }
  zip_parts (x ∷ front) rest [] all = absurd all
  zip_parts (x ∷ front) rest (y ∷ ys) all =
      let p = zip_parts front rest ys all.1 in
      record { first = y ∷ p.first; later = p.later; are = ap (λ (l : List B). y ∷ l) p.are; front_zip = (all.0, p.front_zip); rest_zip = p.rest_zip }

  -- what is true of each element of one list is so of those beside it
  pub zip_over : (P : A → Type 0) (Q : B → Type 0) → ((x : A) (y : B) → P x → R x y → Q y) → (xs : List A) (ys : List B) → All P xs → AllZip R xs ys → All Q ys
  zip_over P Q leads [] [] all zip = All-nil Q
  zip_over P Q leads [] (y ∷ ys) all zip = absurd zip
  zip_over P Q leads (x ∷ xs) [] all zip = absurd zip
  zip_over P Q leads (x ∷ xs) (y ∷ ys) all zip =
      All-cons Q y ys (leads x y (All-head P x xs all) zip.0) (zip_over P Q leads xs ys (All-tail P x xs all) zip.1)

  pub zip_each : (Q : B → Type 0) → ((x : A) (y : B) → R x y → Q y) → (xs : List A) (ys : List B) → AllZip R xs ys → All Q ys
  zip_each Q leads [] [] zip = All-nil Q
  zip_each Q leads [] (y ∷ ys) zip = absurd zip
  zip_each Q leads (x ∷ xs) [] zip = absurd zip
  zip_each Q leads (x ∷ xs) (y ∷ ys) zip = All-cons Q y ys (leads x y zip.0) (zip_each Q leads xs ys zip.1)

  pub zip_none : (ys : List B) → AllZip R [] ys → ys ≡ []
  zip_none [] zip = refl
  zip_none (y ∷ ys) zip = absurd zip

-- equal lists of what two lists have
pub zip_maps : {A B C : Type 0} (f : A → C) (g : B → C) (xs : List A) (ys : List B) → map f xs ≡ map g ys → AllZip (λ x y. f x ≡ g y) xs ys
zip_maps f g [] [] same = tt
zip_maps f g [] (y ∷ ys) same = absurd (let e : [] ≡ g y ∷ map g ys = same in cc)
zip_maps f g (x ∷ xs) [] same = absurd (let e : f x ∷ map f xs ≡ [] = same in cc)
zip_maps f g (x ∷ xs) (y ∷ ys) same =
    let e : f x ∷ map f xs ≡ g y ∷ map g ys = same in
    let first : f x ≡ g y = cc in
    let rest : map f xs ≡ map g ys = cc in
    (first, zip_maps f g xs ys rest)

-- both of what holds side by side
pub zip_both : {A B : Type 0} (R S : A → B → Type 0) (xs : List A) (ys : List B) → AllZip R xs ys → AllZip S xs ys → AllZip (λ x y. R x y × S x y) xs ys
zip_both R S [] [] one other = tt
zip_both R S [] (y ∷ ys) one other = absurd one
zip_both R S (x ∷ xs) [] one other = absurd one
zip_both R S (x ∷ xs) (y ∷ ys) one other = ((one.0, other.0), zip_both R S xs ys one.1 other.1)

pub all_front : {X : Type 0} (P : X → Type 0) (xs ys : List X) → All P (xs ++ ys) → All P xs
all_front P [] ys all = All-nil P
all_front P (x ∷ xs) ys all = All-cons P x xs (All-head P x (xs ++ ys) all) (all_front P xs ys (All-tail P x (xs ++ ys) all))

pub all_rest : {X : Type 0} (P : X → Type 0) (xs ys : List X) → All P (xs ++ ys) → All P ys
all_rest P [] ys all = all
all_rest P (x ∷ xs) ys all = all_rest P xs ys (All-tail P x (xs ++ ys) all)

-- what holds side by side, and of each of the second
pub zip_and : {A B : Type 0} (R : A → B → Type 0) (Q : B → Type 0) (xs : List A) (ys : List B) → AllZip R xs ys → All Q ys → AllZip (λ x y. R x y × Q y) xs ys
zip_and R Q [] [] zip all = tt
zip_and R Q [] (y ∷ ys) zip all = absurd zip
zip_and R Q (x ∷ xs) [] zip all = absurd zip
zip_and R Q (x ∷ xs) (y ∷ ys) zip all = ((zip.0, All-head Q y ys all), zip_and R Q xs ys zip.1 (All-tail Q y ys all))

pub zip_weaker : {A B : Type 0} (R S : A → B → Type 0) → ((x : A) (y : B) → R x y → S x y) → (xs : List A) (ys : List B) → AllZip R xs ys → AllZip S xs ys
zip_weaker R S leads [] [] zip = tt
zip_weaker R S leads [] (y ∷ ys) zip = absurd zip
zip_weaker R S leads (x ∷ xs) [] zip = absurd zip
zip_weaker R S leads (x ∷ xs) (y ∷ ys) zip = (leads x y zip.0, zip_weaker R S leads xs ys zip.1)

abbrev pub parts_weaker : {A B : Type 0} (R S : A → B → Type 0) → ((x : A) (y : B) → R x y → S x y) → (front rest : List A) (ys : List B) → AreParts R front rest ys
    → AreParts S front rest ys
parts_weaker R S leads front rest ys parts = record {
  first = parts.first;
  later = parts.later;
  are = parts.are;
  front_zip = zip_weaker R S leads front parts.first parts.front_zip;
  rest_zip = zip_weaker R S leads rest parts.later parts.rest_zip;
}
