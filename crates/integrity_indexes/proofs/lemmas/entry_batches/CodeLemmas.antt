-- Rows of values that have one code.
use Rattle.std.proofs.Common.{◌≡◌, ◌≢◌, ◌∙◌, ◌+◌, ◌<◌, ◌≤◌, ◌^◌, ℕ, zero, suc, All, List, [], ◌∷◌, ◌++◌, append_assoc, get_or, length, take, refl, sym, ap, subst, arith}
use Rattle.std.proofs.lemmas.List.Elements.{All-head, All-tail}
use Rattle.std.proofs.lemmas.Nat.{from_le_bytes-to_le_bytes_8}
use Rattle.std.specs.Int.{cast_signed, cast_unsigned, from_le_bytes, to_le_bytes, w64}
use Rattle.values.specs.Datum.{Datum, blob, int, null, text}
use Rattle.values.specs.Row.{Row}
use Rattle.integrity_indexes.specs.entry_batches.Codes.{IsHeld, code_of, codes_of, in_front, number_code, trimmed}

-- two lists that go on equal where their fronts are as long
fronts : (xs us ys vs : List ℕ) → length xs ≡ length us → xs ++ ys ≡ us ++ vs → (xs ≡ us) × (ys ≡ vs)
fronts [] [] ys vs long same = (refl, same)
fronts [] (u ∷ us) ys vs long same = cc
fronts (x ∷ xs) [] ys vs long same = cc
fronts (x ∷ xs) (u ∷ us) ys vs long same =
    let first : x ≡ u = cc in
    let others : xs ++ ys ≡ us ++ vs = cc in
    let e : length xs ≡ length us = cc in
    let rest = fronts xs us ys vs e others in
    (λ k. first k ∷ rest.0 k, rest.1)

eight : (n : ℕ) → length (to_le_bytes w64 n) ≡ 8
eight n = refl

one_number : (n m : ℕ) → n < 2 ^ 64 → m < 2 ^ 64 → to_le_bytes w64 n ≡ to_le_bytes w64 m → n ≡ m
one_number n m few too same = sym (from_le_bytes-to_le_bytes_8 n few) ∙ ap (from_le_bytes w64) same ∙ from_le_bytes-to_le_bytes_8 m too

heads : (a b : ℕ) (xs ys : List ℕ) → a ∷ xs ≡ b ∷ ys → a ≡ b
heads a b xs ys e = cc

tails : (a b : ℕ) (xs ys : List ℕ) → a ∷ xs ≡ b ∷ ys → xs ≡ ys
tails a b xs ys e = cc

-- a byte in front of others, which both are told again
parted : (us vs : List ℕ) (x y : ℕ) → in_front us x ≡ in_front vs y → (x ≡ y) × (us ≡ vs)
parted [] [] zero zero same = (refl, refl)
parted [] [] zero (suc y) same = cc
parted [] [] (suc x) zero same = cc
parted [] [] (suc x) (suc y) same = (heads (suc x) (suc y) [] [] same, refl)
parted [] (v ∷ vs) zero y same = cc
parted [] (v ∷ vs) (suc x) y same = let e = tails (suc x) y [] (v ∷ vs) same in cc
parted (u ∷ us) [] x zero same = cc
parted (u ∷ us) [] x (suc y) same = let e = tails x (suc y) (u ∷ us) [] same in cc
parted (u ∷ us) (v ∷ vs) x y same = (heads x y (u ∷ us) (v ∷ vs) same, tails x y (u ∷ us) (v ∷ vs) same)

-- as many bytes that are the same up to the last that isn't 0
same_bytes : (xs ys : List ℕ) → length xs ≡ length ys → trimmed xs ≡ trimmed ys → xs ≡ ys
same_bytes [] [] long same = refl
same_bytes [] (y ∷ ys) long same = cc
same_bytes (x ∷ xs) [] long same = cc
same_bytes (x ∷ xs) (y ∷ ys) long same =
    let parts = parted (trimmed xs) (trimmed ys) x y same in
    let e : length xs ≡ length ys = cc in
    let rest = same_bytes xs ys e parts.1 in
    λ k. parts.0 k ∷ rest k

fewer : (us : List ℕ) (x : ℕ) → length (in_front us x) ≤ suc (length us)
fewer [] zero = omega arith
fewer [] (suc x) = omega arith
fewer (u ∷ us) x = omega arith

no_longer : (xs : List ℕ) → length (trimmed xs) ≤ length xs
no_longer [] = omega arith
no_longer (x ∷ xs) = let few = fewer (trimmed xs) x in let rest = no_longer xs in omega (arith, few, rest)

few_bytes : (n : ℕ) → length (trimmed (to_le_bytes w64 n)) ≤ 8
few_bytes n = subst (λ (k : ℕ). length (trimmed (to_le_bytes w64 n)) ≤ k) (eight n) (no_longer (to_le_bytes w64 n))

-- the bytes up to the last that isn't 0 are so many first ones
pub trimmed_at : (xs : List ℕ) (size : ℕ) → size ≤ length xs → ((i : ℕ) → size ≤ i → i < length xs → get_or xs i 0 ≡ 0)
    → ((k : ℕ) → size ≡ suc k → get_or xs k 0 ≢ 0) → trimmed xs ≡ take size xs
trimmed_at [] zero most zeros last = refl
trimmed_at [] (suc size) most zeros last = absurd (omega (arith, most))
trimmed_at (x ∷ xs) zero most zeros last =
    let rest : trimmed xs ≡ [] = trimmed_at xs zero (omega arith) (λ i up less. zeros (suc i) (omega arith) (omega (arith, less))) (λ k e. absurd (omega (arith, e))) in
    let none : x ≡ 0 = zeros 0 (omega arith) (omega arith) in
    λ k. in_front (rest k) (none k)
trimmed_at (zero ∷ xs) (suc zero) most zeros last = absurd (last 0 refl refl)
trimmed_at (suc x ∷ xs) (suc zero) most zeros last =
    let rest : trimmed xs ≡ [] = trimmed_at xs zero (omega arith) (λ i up less. zeros (suc i) (omega arith) (omega (arith, less))) (λ k e. absurd (omega (arith, e))) in
    ap (λ (us : List ℕ). in_front us (suc x)) rest
trimmed_at (x ∷ []) (suc (suc size)) most zeros last = absurd (omega (arith, most))
trimmed_at (x ∷ y ∷ xs) (suc (suc size)) most zeros last =
    let rest : trimmed (y ∷ xs) ≡ take (suc size) (y ∷ xs) = trimmed_at (y ∷ xs) (suc size) (omega (arith, most))
    (λ i up less. zeros (suc i) (omega (arith, up)) (omega (arith, less))) (λ k e. last (suc k) (ap suc e)) in
    ap (λ (us : List ℕ). in_front us x) rest

-- the numbers with which two codes begin
number_first : (kind n m : ℕ) (rest more : List ℕ) → n < 2 ^ 64 → m < 2 ^ 64 → number_code kind n ++ rest ≡ number_code kind m ++ more
    → (n ≡ m) × (rest ≡ more)
number_first kind n m rest more few too same =
    let s = trimmed (to_le_bytes w64 n) in
    let t = trimmed (to_le_bytes w64 m) in
    let counts = heads (kind + length s) (kind + length t) (s ++ rest) (t ++ more) same in
    let long : length s ≡ length t = omega (arith, counts) in
    let parts = fronts s t rest more long (tails (kind + length s) (kind + length t) (s ++ rest) (t ++ more) same) in
    (one_number n m few too (same_bytes (to_le_bytes w64 n) (to_le_bytes w64 m) (eight n ∙ sym (eight m)) parts.0), parts.1)

bytes_first : (kind : ℕ) (s t rest more : List ℕ) → length s < 2 ^ 64 → length t < 2 ^ 64
    → (number_code kind (length s) ++ s) ++ rest ≡ (number_code kind (length t) ++ t) ++ more → (s ≡ t) × (rest ≡ more)
bytes_first kind s t rest more few too same =
    let apart : number_code kind (length s) ++ (s ++ rest) ≡ number_code kind (length t) ++ (t ++ more) =
    sym (append_assoc (number_code kind (length s)) s rest) ∙ same ∙ append_assoc (number_code kind (length t)) t more in
    let counts = number_first kind (length s) (length t) (s ++ rest) (t ++ more) few too apart in
    fronts s t rest more counts.0 counts.1

-- the kinds of two codes that are the same
kinds : (a b n m : ℕ) (rest more : List ℕ) → a + 8 < b → number_code a n ++ rest ≡ number_code b m ++ more → ⊥
kinds a b n m rest more far same =
    let e = heads _ _ (trimmed (to_le_bytes w64 n) ++ rest) (trimmed (to_le_bytes w64 m) ++ more) same in
    let few = few_bytes n in
    omega (arith, e, few, far)

-- the first values of two codes are the same
first_value : (x y : Datum) (rest more : List ℕ) → IsHeld x → IsHeld y → code_of x ++ rest ≡ code_of y ++ more → (x ≡ y) × (rest ≡ more)
first_value null null rest more held too same = (refl, tails 0 0 rest more same)
first_value null (int m) rest more held too same = let e = heads 0 _ _ _ same in absurd (omega (arith, e))
first_value null (text t) rest more held too same = let e = heads 0 _ _ _ same in absurd (omega (arith, e))
first_value null (blob c) rest more held too same = let e = heads 0 _ _ _ same in absurd (omega (arith, e))
first_value (int n) null rest more held too same = let e = heads _ 0 _ _ same in absurd (omega (arith, e))
first_value (int n) (int m) rest more held too same =
    let parts = number_first 1 (cast_unsigned w64 n) (cast_unsigned w64 m) rest more held.0 too.0 same in
    (ap int (sym held.1 ∙ ap (cast_signed w64) parts.0 ∙ too.1), parts.1)
first_value (int n) (text t) rest more held too same =
    absurd (kinds 1 10 (cast_unsigned w64 n) (length t) rest (t ++ more) (omega arith) (same ∙ append_assoc (number_code 10 (length t)) t more))
first_value (int n) (blob c) rest more held too same =
    absurd (kinds 1 19 (cast_unsigned w64 n) (length c) rest (c ++ more) (omega arith) (same ∙ append_assoc (number_code 19 (length c)) c more))
first_value (text s) null rest more held too same = let e = heads _ 0 _ _ same in absurd (omega (arith, e))
first_value (text s) (int m) rest more held too same =
    absurd (kinds 1 10 (cast_unsigned w64 m) (length s) more (s ++ rest) (omega arith) (sym same ∙ append_assoc (number_code 10 (length s)) s rest))
first_value (text s) (text t) rest more held too same = let parts = bytes_first 10 s t rest more held too same in (ap text parts.0, parts.1)
first_value (text s) (blob c) rest more held too same =
    absurd (kinds 10 19 (length s) (length c) (s ++ rest) (c ++ more) (omega arith)
    (sym (append_assoc (number_code 10 (length s)) s rest) ∙ same ∙ append_assoc (number_code 19 (length c)) c more))
first_value (blob b) null rest more held too same = let e = heads _ 0 _ _ same in absurd (omega (arith, e))
first_value (blob b) (int m) rest more held too same =
    absurd (kinds 1 19 (cast_unsigned w64 m) (length b) more (b ++ rest) (omega arith) (sym same ∙ append_assoc (number_code 19 (length b)) b rest))
first_value (blob b) (text t) rest more held too same =
    absurd (kinds 10 19 (length t) (length b) (t ++ more) (b ++ rest) (omega arith)
    (sym (append_assoc (number_code 10 (length t)) t more) ∙ sym same ∙ append_assoc (number_code 19 (length b)) b rest))
first_value (blob b) (blob c) rest more held too same = let parts = bytes_first 19 b c rest more held too same in (ap blob parts.0, parts.1)

never_empty : (x : Datum) (rest : List ℕ) → code_of x ++ rest ≡ [] → ⊥
never_empty null rest e = cc
never_empty (int n) rest e = cc
never_empty (text s) rest e = cc
never_empty (blob b) rest e = cc

pub same_rows : (one other : Row) → All IsHeld one → All IsHeld other → codes_of one ≡ codes_of other → one ≡ other
same_rows [] [] held too same = refl
same_rows [] (y ∷ other) held too same = absurd (never_empty y (codes_of other) (sym same))
same_rows (x ∷ one) [] held too same = absurd (never_empty x (codes_of one) same)
same_rows (x ∷ one) (y ∷ other) held too same =
    let parts = first_value x y (codes_of one) (codes_of other) (All-head IsHeld x one held) (All-head IsHeld y other too) same in
    let rest = same_rows one other (All-tail IsHeld x one held) (All-tail IsHeld y other too) parts.1 in
    λ k. parts.0 k ∷ rest k
