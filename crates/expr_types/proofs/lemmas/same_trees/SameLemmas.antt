-- Two lists, one of which is read to its end.
use Rattle.std.proofs.Common.{◌≡◌, ◌↔◌, ◌<◌, ◌≤◌, ◌==◌, ◌+◌, ℕ, Bool, true, false, List, [], ◌∷◌, IsTrue, length, drop, get_or, map, refl, sym, ap, ◌∙◌}
use Rattle.std.proofs.Math.Dec.{eqb-suc-zero}
use Rattle.std.proofs.lemmas.List.{at_drop_all, at_drop_more}
use Rattle.expr.specs.declared.tree.Arm.{Arm}
use Rattle.expr.specs.declared.tree.Expr.{Expr}
use Rattle.expr.specs.Contract.{trees, arm_trees}
use Rattle.expr.specs.Term.{Term}
use Rattle.expr.specs.View.{terms}

is_end : {C D : Type 0} (start : D) (G : List C → D) → start ≡ G [] → ((x : C) (xs : List C) → start ≡ G (x ∷ xs) → ⊥) → (rest : List C) (r : Bool) → r ≡ (length rest == 0) → IsTrue r ↔ (start ≡ G rest)
is_end start G same differs [] r e = ((λ _. same), (λ _. e))
is_end start G same differs (x ∷ xs) r e = ((λ t. let differ : true ≡ false = sym t ∙ e ∙ eqb-suc-zero (length xs) in cc), (λ h. absurd (differs x xs h)))

-- what was to be found holds where the other is at its end, too
pub ends_alike : {A C D : Type 0} (F : List A → D) (G : List C → D) → F [] ≡ G [] → ((x : C) (xs : List C) → F [] ≡ G (x ∷ xs) → ⊥)
    → (a : List A) (rest : List C) (Whole : Type 0) (i : ℕ) (r : Bool) → length a ≤ i → r ≡ (length rest == 0) → ((F (drop i a) ≡ G rest) ↔ Whole) → IsTrue r ↔ Whole
ends_alike F G same differs a rest Whole i r past e inv =
    let at : F (drop i a) ≡ F [] = at_drop_all F a i past in
    let last = is_end (F []) G same differs rest r e in
    ((λ t. inv.0 (at ∙ last.0 t)), (λ h. last.1 (sym at ∙ inv.1 h)))

ends : {A B : Type 0} (F : List A → B) → ((x : A) (xs : List A) → F [] ≡ F (x ∷ xs) → ⊥) → (a b rest : List A) (i : ℕ) (r : Bool) → length a ≤ i → r ≡ (length rest == 0) → ((F (drop i a) ≡ F rest) ↔ (F a ≡ F b)) → IsTrue r ↔ (F a ≡ F b)
ends F differs a b rest i r past e inv = ends_alike F F refl differs a rest (F a ≡ F b) i r past e inv

pub trees_end : (a b rest : List Expr) (i : ℕ) (r : Bool) → length a ≤ i → r ≡ (length rest == 0) → ((trees (drop i a) ≡ trees rest) ↔ (trees a ≡ trees b)) → IsTrue r ↔ (trees a ≡ trees b)
trees_end = ends trees (λ x xs h. cc)

pub arms_end : (a b rest : List Arm) (i : ℕ) (r : Bool) → length a ≤ i → r ≡ (length rest == 0) → ((arm_trees (drop i a) ≡ arm_trees rest) ↔ (arm_trees a ≡ arm_trees b)) → IsTrue r ↔ (arm_trees a ≡ arm_trees b)
arms_end = ends arm_trees (λ x xs h. cc)

-- both lists go on with the same
pub list_step : {A B : Type 0} (f : A → B) (a b rest later : List A) (i : ℕ) (x y : A) → i < length a → x ≡ get_or a i x → rest ≡ y ∷ later
    → f x ≡ f y → ((map f (drop i a) ≡ map f rest) ↔ (map f a ≡ map f b)) → ((map f (drop (i + 1) a) ≡ map f later) ↔ (map f a ≡ map f b))
list_step f a b rest later i x y lt at is same inv =
    let here : map f (drop i a) ≡ f x ∷ map f (drop (i + 1) a)
    = at_drop_more (map f) a i x lt ∙ ap (λ z. f z ∷ map f (drop (i + 1) a)) (sym at) in
    let there : map f rest ≡ f y ∷ map f later = ap (map f) is in (
      (λ e. let whole : f x ∷ map f (drop (i + 1) a) ≡ f y ∷ map f later = cc in inv.0 (here ∙ whole ∙ sym there)),
      (λ e. let whole : f x ∷ map f (drop (i + 1) a) ≡ f y ∷ map f later = sym here ∙ inv.1 e ∙ there in cc),
    )

-- the one is at its end
pub list_end : {A B : Type 0} (f : A → B) (a b rest : List A) (i : ℕ) (r : Bool) → length a ≤ i → r ≡ (length rest == 0)
    → ((map f (drop i a) ≡ map f rest) ↔ (map f a ≡ map f b)) → IsTrue r ↔ (map f a ≡ map f b)
list_end f = ends (map f) (λ x xs h. cc)

-- lists of expressions are the same where their trees are
pub terms_alone : (xs ys : List Term) → terms xs ≡ terms ys → xs ≡ ys
terms_alone [] [] e = refl
terms_alone [] (y ∷ ys) e = cc
terms_alone (x ∷ xs) [] e = cc
terms_alone (x ∷ xs) (y ∷ ys) e =
    let rest : terms xs ≡ terms ys = cc in
    let same : xs ≡ ys = terms_alone xs ys rest in
    cc
