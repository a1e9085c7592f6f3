-- Values along a list.
use Rattle.std.proofs.Common.{◌≡◌, ◌∙◌, ◌+◌, ◌<◌, ℕ, zero, suc, Any, List, [], ◌∷◌, ◌++◌, get_or, length, map, take, refl, sym, ap, arith}
use Rattle.std.specs.List.{range_with_len}
use Rattle.std.proofs.lemmas.List.{length-map, map_push, take_more}

-- what is made of the first elements, and of one more
pub made_more : {X Y Z : Type 0} (f : X → Y) (view : Z → Y) (xs : List X) (i : ℕ) (d : X) (made : List Z) (one : Z) → i < length xs → view one ≡ f (get_or xs i d)
    → map view made ≡ map f (take i xs) → map view (made ++ one ∷ []) ≡ map f (take (i + 1) xs)
made_more f view xs i d made one within is before =
    map_push view made one ∙ (λ k. before k ++ is k ∷ []) ∙ sym (map_push f (take i xs) (get_or xs i d)) ∙ sym (ap (map f) (take_more xs i d within))

mapped_at : {X Y : Type 0} (f : X → Y) (xs : List X) (i : ℕ) (x : X) (y : Y) → i < length xs → get_or (map f xs) i y ≡ f (get_or xs i x)
mapped_at f [] i x y h = absurd (omega (arith, h))
mapped_at f (z ∷ xs) zero x y h = refl
mapped_at f (z ∷ xs) (suc i) x y h = mapped_at f xs i x y (omega (arith, h))

-- one of what is made of a list
pub any_made : {X Y : Type 0} (f : X → Y) (P : Y → Type 0) (xs : List X) (i : ℕ) (x : X) → i < length xs → x ≡ get_or xs i x → P (f x) → Any P (map f xs)
any_made f P xs i x within is holds =
    let size = length-map xs f in
    (i, f x, omega (arith, within, size), mapped_at f xs i x (f x) within ∙ ap f (sym is), holds)

-- places from 0, and one more
pub placed_more : {Z : Type 0} (index : Z → ℕ) (made : List Z) (one : Z) (i : ℕ) → map index made ≡ range_with_len 0 i → index one ≡ i → map index (made ++ one ∷ []) ≡ range_with_len 0 (i + 1)
placed_more index made one i before is =
    map_push index made one ∙ (λ k. before k ++ is k ∷ []) ∙ sym (more i 0 i (omega arith))
  where
    more : (n a b : ℕ) → a + n ≡ b → range_with_len a (n + 1) ≡ range_with_len a n ++ b ∷ []
    more zero a b same = let here : a ≡ b = omega (arith, same) in ap (λ k. k ∷ []) here
    more (suc n) a b same = let one : suc n + 1 ≡ suc (n + 1) = omega arith in ap (range_with_len a) one ∙ ap (λ l. a ∷ l) (more n (a + 1) b (omega (arith, same)))

pub map-map : {X Y Z : Type 0} (f : Y → Z) (g : X → Y) (xs : List X) → map f (map g xs) ≡ map (λ x. f (g x)) xs
map-map f g [] = refl
map-map f g (x ∷ xs) = ap (λ l. f (g x) ∷ l) (map-map f g xs)
