-- Calls over windows whose expressions stand for themselves.
use Rattle.std.proofs.Common.{◌≡◌, ◌∙◌, ◌+◌, ◌≤◌, ◌<◌, All, ℕ, List, [], ◌∷◌, ◌++◌, get_or, length, map, take, refl, sym, ap, subst, arith}
use Rattle.std.specs.List.{AllZip}
use Rattle.std.proofs.lemmas.List.{length-map, map-append, take_more}
use Rattle.std.proofs.lemmas.List.Elements.{All-get_or}
use Rattle.std.proofs.Math.ListN.{get_or-map}
use Rattle.values.specs.Datum.{Datum}
use Rattle.expr.specs.Filled.{filled}
use Rattle.expr.specs.Term.{Term}
use Rattle.logical_plan_terms.specs.Over.{IsItself}

module _ (inner : ℕ) (answers : List (List Datum)) (few : length answers ≤ inner) where
  pub zip_itself : (es ts : List Term) → AllZip (IsItself inner) es ts → es ≡ map (filled answers) ts
  zip_itself [] [] all = refl
  zip_itself [] (t ∷ ts) all = absurd all
  zip_itself (e ∷ es) [] all = absurd all
  zip_itself (e ∷ es) (t ∷ ts) all = (λ j. all.0 answers few j ∷ zip_itself es ts all.1 j)

pub one_more : {A B : Type 0} (f : A → B) (all : List A) (at : ℕ) (one : A) → at < length all → one ≡ get_or all at one
    → map f (take (at + 1) all) ≡ map f (take at all) ++ f one ∷ []
one_more f all at one within is =
    ap (map f) (take_more all at one within) ∙ map-append f (take at all) (get_or all at one ∷ [])
    ∙ ap (λ x. map f (take at all) ++ f x ∷ []) (sym is)

pub mapped_more : {A B C : Type 0} (f : A → B) (g : B → C) (all : List A) (at : ℕ) (one : A) → at < length all → one ≡ get_or all at one
    → map g (map f (take (at + 1) all)) ≡ map g (map f (take at all)) ++ g (f one) ∷ []
mapped_more f g all at one within is = ap (map g) (one_more f all at one within is) ∙ map-append g (map f (take at all)) (f one ∷ [])

-- what fails of one of the elements doesn't hold of all
pub not_all : {A B : Type 0} (P : B → Type 0) (f : A → B) (all : List A) (at : ℕ) (one : A) → at < length all → one ≡ get_or all at one
    → (P (f one) → ⊥) → All P (map f all) → ⊥
not_all P f all at one within is fails holds =
    fails (subst P (get_or-map f all at one ∙ ap f (sym is))
    (All-get_or P (map f all) at (f one) (omega (arith, within, length-map all f)) holds))
