-- The numbers that digits are.
use Rattle.std.proofs.Common.{◌≡◌, ℕ, ◌+◌, ◌*◌, ◌-◌, ◌<◌, ◌≤◌, ◌^◌, List, [], ◌∷◌, length, drop, get_or, fold, Option, Some, None, nat_lt, sym, ap, ◌∙◌, arith}
use Rattle.std.proofs.lemmas.Bool.{cond-false, le-ltb}
use Rattle.std.specs.Prelude.{ℤ, pos, if◌then◌else◌}
use Rattle.sql_reader_tokens.proofs.lemmas.byte_runs.RunLemmas.{next}
use Rattle.sql_reader_tokens.specs.byte_runs.Bytes.{with_digit}

grows : (n : ℕ) (xs : List ℕ) → n ≤ fold with_digit n xs
grows n [] = omega arith
grows n (x ∷ xs) = omega (arith, grows (with_digit n x) xs)

-- a number that is too large already
pub too_large : (n i d : ℕ) (xs : List ℕ) → i < length xs → 2 ^ 63 ≤ 10 * n + (get_or xs i 0 - 48) → fold with_digit n (drop i xs) ≡ d
    → (let none : Option ℤ = None in none) ≡ (if nat_lt d (2 ^ 63) then Some (pos d) else None)
too_large n i d xs h big e =
    let j = next xs i h in
    let k = ap (fold with_digit n) (sym j) ∙ e in
    sym (cond-false (nat_lt d (2 ^ 63)) (Some (pos d)) None (le-ltb d (2 ^ 63) (omega (arith, grows (with_digit n (get_or xs i 0)) (drop (i + 1) xs), k))))
