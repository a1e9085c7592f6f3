-- LIMIT and OFFSET look at the first rows alone.
use Rattle.std.proofs.Common.{◌≡◌, ◌∙◌, ◌+◌, true, ℕ, zero, suc, ℤ, pos, negsuc, List, drop, take, Some, refl, ap, arith}
use Rattle.std.specs.Int.{int_max}
use Rattle.std.proofs.lemmas.Int.{ints}
use Rattle.std.proofs.lemmas.List.{drop-take, take-take}
use Rattle.semantics.specs.Answer.{limited, skipped}
use lib.IntN.{nat_abs}
use lib.Signed.{le_z}

taken : {X : Type 0} (n m : ℕ) (xs : List X) → take n (drop m (take (n + m) xs)) ≡ take n (drop m xs)
taken n m xs =
    let turned : n + m ≡ m + n = omega arith in
    ap (λ k. take n (drop m (take k xs))) turned ∙ ap (take n) (drop-take m n xs) ∙ take-take n n (drop m xs) (omega arith)

greatest : (m : ℕ) → nat_abs (int_max (pos m) (pos 0)) ≡ m
greatest zero = refl
greatest (suc m) = grind (arith, ints)

-- a LIMIT that isn't negative looks at no more rows than it and OFFSET count
pub looked_at : {X : Type 0} (limit offset most : ℤ) (xs : List X) → le_z (pos 0) limit ≡ true → most ≡ int_max offset (pos 0)
    → limited (Some limit) (skipped offset (take (nat_abs limit + nat_abs most) xs)) ≡ limited (Some limit) (skipped offset xs)
looked_at (negsuc n) offset most xs low is = absurd cc
looked_at (pos n) (pos m) most xs low is =
    let here : nat_abs most ≡ m = rw is (greatest m) in
    ap (λ k. take n (drop m (take (n + k) xs))) here ∙ taken n m xs
looked_at (pos n) (negsuc m) most xs low is =
    let here : nat_abs most ≡ 0 = rw is refl in
    ap (λ k. take n (take (n + k) xs)) here ∙ taken n 0 xs
