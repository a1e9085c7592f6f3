-- The names of columns as texts.
use Rattle.std.proofs.Common.{◌≡◌, ℕ, zero, suc, List, [], ◌∷◌, map, slice_get, Some, ap}

some_of : {A : Type 0} (x y : A) → Some x ≡ Some y → x ≡ y
some_of x y same = cc

pub got_map : {A B : Type 0} (f : A → B) (xs : List A) (i : ℕ) (x : A) → slice_get xs i ≡ Some x → slice_get (map f xs) i ≡ Some (f x)
got_map f [] i x here = cc
got_map f (y ∷ ys) zero x here = ap (λ z. Some (f z)) (some_of y x here)
got_map f (y ∷ ys) (suc i) x here = got_map f ys i x here
