-- Lists side by side.
use Rattle.std.proofs.Common.{◌≡◌, List, [], ◌∷◌, refl, ap, ◌∙◌}
use Rattle.std.specs.List.{AllZip}

-- a relation that gives one element for each gives one list for each
pub zip_same : {X Y : Type 0} (R : X → Y → Type 0) → ((x : X) (a b : Y) → R x a → R x b → a ≡ b) → (xs : List X) (ys zs : List Y)
    → AllZip R xs ys → AllZip R xs zs → ys ≡ zs
zip_same R one [] [] [] p q = refl
zip_same R one [] [] (b ∷ zs) p q = absurd q
zip_same R one [] (a ∷ ys) zs p q = absurd p
zip_same R one (x ∷ xs) [] zs p q = absurd p
zip_same R one (x ∷ xs) (a ∷ ys) [] p q = absurd q
zip_same R one (x ∷ xs) (a ∷ ys) (b ∷ zs) p q =
    ap (λ y. y ∷ ys) (one x a b p.0 q.0) ∙ ap (λ ys. b ∷ ys) (zip_same R one xs ys zs p.1 q.1)
