-- Two lists, one of which is read to its end.
use Rattle.std.proofs.Common.{◌≡◌, ◌<◌, ◌≤◌, ◌==◌, ◌+◌, ℕ, Bool, true, false, List, [], ◌∷◌, IsTrue, length, drop, get_or, map, refl, sym, ap, ◌∙◌}
use Rattle.std.proofs.Math.Dec.{eqb-suc-zero}
use Rattle.std.proofs.lemmas.List.{at_drop_all, at_drop_more}

-- what is left of each being the same, so are the lists
abbrev pub AreSame : {A B : Type 0} → (A → B) → List A → List A → List A → ℕ → Type 0
AreSame f a b rest i = map f (drop i a) ≡ map f rest → map f a ≡ map f b

-- both go on with the same
pub list_step : {A B : Type 0} (f : A → B) (a b rest later : List A) (i : ℕ) (x y : A) → i < length a → x ≡ get_or a i x
    → rest ≡ y ∷ later → f x ≡ f y → AreSame f a b rest i → AreSame f a b later (i + 1)
list_step f a b rest later i x y lt at is same inv e =
    let here : map f (drop i a) ≡ f x ∷ map f (drop (i + 1) a)
    = at_drop_more (map f) a i x lt ∙ ap (λ z. f z ∷ map f (drop (i + 1) a)) (sym at) in
    let there : map f rest ≡ f y ∷ map f later = ap (map f) is in
    let whole : f x ∷ map f (drop (i + 1) a) ≡ f y ∷ map f later = cc in
    inv (here ∙ whole ∙ sym there)

none_left : {A B : Type 0} (f : A → B) (rest : List A) (r : Bool) → r ≡ (length rest == 0) → IsTrue r → map f rest ≡ []
none_left f [] r e t = refl
none_left f (x ∷ xs) r e t = let differ : true ≡ false = sym t ∙ e ∙ eqb-suc-zero (length xs) in cc

-- both are at their ends
pub list_end : {A B : Type 0} (f : A → B) (a b rest : List A) (i : ℕ) (r : Bool) → length a ≤ i → r ≡ (length rest == 0)
    → AreSame f a b rest i → IsTrue r → map f a ≡ map f b
list_end f a b rest i r past e inv t = inv (at_drop_all (map f) a i past ∙ sym (none_left f rest r e t))
