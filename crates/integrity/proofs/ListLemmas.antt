-- The elements of one list behind another.
use Rattle.std.proofs.Common.{◌≡◌, ◌⊎◌, ℕ, zero, suc, ◌+◌, List, [], ◌∷◌, ◌++◌, length, slice_get, Some, arith, subst, inl, inr}

pub get_behind : {X : Type 0} (xs ys : List X) (i k : ℕ) (a : X) → i ≡ length xs + k → slice_get ys k ≡ Some a → slice_get (xs ++ ys) i ≡ Some a
get_behind [] ys i k a is h = let same : k ≡ i = omega (arith, is) in subst (λ (j : ℕ). slice_get ys j ≡ Some a) same h
get_behind (x ∷ xs) ys zero k a is h = absurd (omega (arith, is))
get_behind (x ∷ xs) ys (suc i) k a is h = get_behind xs ys i k a (omega (arith, is)) h

-- an element of both stands in one of them
pub get_cases : {X : Type 0} (xs ys : List X) (i : ℕ) (a : X) → slice_get (xs ++ ys) i ≡ Some a
    → (slice_get xs i ≡ Some a) ⊎ ((k : ℕ) × (i ≡ length xs + k) × (slice_get ys k ≡ Some a))
get_cases [] ys i a h = inr (i, omega arith, h)
get_cases (x ∷ xs) ys zero a h = inl h
get_cases (x ∷ xs) ys (suc i) a h = go (get_cases xs ys i a h)
  where
    go : (slice_get xs i ≡ Some a) ⊎ ((k : ℕ) × (i ≡ length xs + k) × (slice_get ys k ≡ Some a))
        → (slice_get (x ∷ xs) (suc i) ≡ Some a) ⊎ ((k : ℕ) × (suc i ≡ length (x ∷ xs) + k) × (slice_get ys k ≡ Some a))
    go (inl front) = inl front
    go (inr (k, is, behind)) = inr (k, omega (arith, is), behind)
