-- Bytes that are tested sixteen at a time.
use Rattle.std.proofs.Common.{◌≡◌, ℕ, zero, suc, ◌+◌, ◌-◌, ◌%◌, ◌^◌, ◌<◌, ◌≤◌, Bool, true, false, cond, eqb, leb, List, [], ◌∷◌, map, length, get_or, replicate, refl, sym, ap, ◌∙◌, arith, eqb-true, leb-false}
use Rattle.std.proofs.lemmas.List.{length-map}
use Rattle.std.proofs.lemmas.Simd.{get_or-chunk, length-chunk, length-zip2, mask_l-mod}
use lib.Lanes.{chunk, mask_l, top, zip2}

-- all bits of a lane, where the first number is at most the second
abbrev pub at_least : ℕ → ℕ → ℕ
at_least a b = cond (leb a b) 255 0

none_high : (xs : List ℕ) → mask_l (map (top 7) (zip2 at_least (replicate (length xs) 128) xs)) ≡ 0 → (i : ℕ) → get_or xs i 0 < 128
none_high [] e i = omega arith
none_high (x ∷ xs) e zero = go (leb 128 x) refl (omega arith)
  where
    go : (t : Bool) → leb 128 x ≡ t → ◌≡◌ {A = ℕ} (cond (top 7 (cond t 255 0)) 1 0) 0 → x < 128
    go true p q = absurd (omega arith)
    go false p q = leb-false _ _ p
none_high (x ∷ xs) e (suc i) = none_high xs (omega arith) i

mask_small : (xs : List ℕ) → length xs ≡ 16 → mask_l (map (top 7) (zip2 at_least (replicate 16 128) xs)) % 2 ^ 64 ≡ mask_l (map (top 7) (zip2 at_least (replicate 16 128) xs))
mask_small xs long =
    mask_l-mod _ 64 (omega (arith, length-map (zip2 at_least (replicate 16 128) xs) (top 7), length-zip2 at_least (replicate 16 128) xs (sym long)))

-- no lane is marked
pub ascii_lanes : (bytes : List ℕ) (at : ℕ) → at + 16 ≤ length bytes
    → eqb (mask_l (map (top 7) (zip2 at_least (replicate 16 128) (chunk at 16 bytes))) % 2 ^ 64) 0 ≡ true
    → (i : ℕ) → at ≤ i → i < at + 16 → get_or bytes i 0 < 128
ascii_lanes bytes at room e i low high =
    let xs = chunk at 16 bytes in
    let long : length xs ≡ 16 = length-chunk at 16 bytes room in
    let none = ap (λ n. mask_l (map (top 7) (zip2 at_least (replicate n 128) xs))) long ∙ sym (mask_small xs long) ∙ eqb-true _ _ e in
    let here : get_or xs (i - at) 0 ≡ get_or bytes (at + (i - at)) 0 = get_or-chunk at 16 bytes (i - at) 0 (omega arith) in
    let back : get_or bytes (at + (i - at)) 0 ≡ get_or bytes i 0 = ap (λ k. get_or bytes k 0) (omega arith) in
    let small = none_high xs none (i - at) in
    omega (arith, here, back, small)
