-- Lists that are split, and lists that are tested for being empty.
use Rattle.std.proofs.Common.{◌≡◌, ◌<◌, Bool, true, false, eqb, List, [], ◌∷◌, ◌++◌, length, take, drop, refl, sym, ap, ◌∙◌, arith}
use Rattle.std.proofs.lemmas.Bool.{eqb-true}
use Rattle.std.proofs.lemmas.List.{take_at, drop_at, nil_from_length}

-- two splittings of the same list at the same length
pub record SameSplit {X : Type 0} (a x b y : List X) : Type 0 where
  pub front : a ≡ b
  pub rest : x ≡ y

pub same_split : {X : Type 0} (a x b y : List X) → a ++ x ≡ b ++ y → length a ≡ length b → SameSplit a x b y
same_split a x b y e len = record {
  front = sym (take_at a x (length a) refl) ∙ ap (take (length a)) e ∙ take_at b y (length a) (sym len);
  rest = sym (drop_at a x (length a) refl) ∙ ap (drop (length a)) e ∙ drop_at b y (length a) (sym len);
}

-- what `is_empty` answers
pub not_empty : {X : Type 0} (xs : List X) (b : Bool) → b ≡ eqb (length xs) 0 → b ≡ false → 0 < length xs
not_empty [] b e f = absurd cc
not_empty (x ∷ xs) b e f = omega arith

pub empty : {X : Type 0} (xs : List X) (b : Bool) → b ≡ eqb (length xs) 0 → b ≡ true → xs ≡ []
empty xs b e f = nil_from_length xs (eqb-true (length xs) 0 (sym e ∙ f))
