-- LIMIT and OFFSET, row by row.
use Rattle.std.proofs.Common.{◌≡◌, ◌-◌, ◌<◌, ℕ, zero, suc, List, [], ◌∷◌, drop, take, Option, Some, None, refl, ap, arith}
use Rattle.windows_groups.specs.Firsts.{at_most}
use Rattle.operators_results.specs.declared.limits.LimitOffset.{LimitOffset}
use Rattle.operators_results.specs.Slices.{sliced}

pub drop_behind : {X : Type 0} (n : ℕ) (x : X) (xs : List X) → 0 < n → drop n (x ∷ xs) ≡ drop (n - 1) xs
drop_behind zero x xs some = absurd (omega (arith, some))
drop_behind (suc n) x xs some = let e : n ≡ suc n - 1 = omega arith in ap (λ k. drop k xs) e

pub take_first : {X : Type 0} (n : ℕ) (x : X) (xs : List X) → 0 < n → take n (x ∷ xs) ≡ x ∷ take (n - 1) xs
take_first zero x xs some = absurd (omega (arith, some))
take_first (suc n) x xs some = let e : n ≡ suc n - 1 = omega arith in ap (λ k. x ∷ take k xs) e

none_dropped : {X : Type 0} (n : ℕ) (xs : List X) → xs ≡ [] → drop n xs ≡ []
none_dropped zero xs none = none
none_dropped (suc n) [] none = refl
none_dropped (suc n) (x ∷ xs) none = absurd cc

none_taken : {X : Type 0} (left : Option ℕ) (xs : List X) → xs ≡ [] → at_most left xs ≡ []
none_taken None xs none = none
none_taken (Some zero) xs none = refl
none_taken (Some (suc n)) [] none = refl
none_taken (Some (suc n)) (x ∷ xs) none = absurd cc

pub none_sliced : {X : Type 0} (slice : LimitOffset) (xs : List X) → xs ≡ [] → sliced slice xs ≡ []
none_sliced slice xs none = none_taken slice.left (drop slice.skip xs) (none_dropped slice.skip xs none)
