-- Where an entry has its columns.
use Rattle.std.proofs.Common.{◌≡◌, ◌∙◌, ◌+◌, ◌<◌, ◌≤◌, ℕ, zero, suc, Bool, true, false, List, [], ◌∷◌, ◌++◌, length, map, nat_eq, refl, sym, ap, arith}
use Rattle.std.proofs.lemmas.List.{map_push}
use Rattle.records_tables.specs.primary_rows.Firsts.{place_of}

-- one place more
pub places_push : (f : ℕ → ℕ) (numbers places more : List ℕ) (n at : ℕ) → places ≡ map f numbers → at ≡ f n → more ≡ places ++ at ∷ [] → more ≡ map f (numbers ++ n ∷ [])
places_push f numbers places more n at are is pushed =
    pushed ∙ (λ k. are k ++ is k ∷ []) ∙ sym (map_push f numbers n)

suc_next : (a b : ℕ) → suc a + b ≡ suc (a + b)
suc_next a b = omega arith

-- a number that is in the front, or else after it
pub place_first : (xs ys : List ℕ) (n : ℕ) → place_of xs n < length xs → place_of xs n ≡ place_of (xs ++ ys) n
place_first [] ys n within = absurd (omega (arith, within))
place_first (x ∷ xs) ys n within = by_test (nat_eq x n) refl (λ other. place_first xs ys n (later other))
  where
    later : nat_eq x n ≡ false → place_of xs n < length xs
    later other = let w : suc (place_of xs n) < length (x ∷ xs) = rw other at within in omega (arith, w)

    by_test : (b : Bool) → nat_eq x n ≡ b → (nat_eq x n ≡ false → place_of xs n ≡ place_of (xs ++ ys) n) → place_of (x ∷ xs) n ≡ place_of (x ∷ (xs ++ ys)) n
    by_test true here on = rw here refl
    by_test false other on = rw other (ap suc (on other))

pub place_after : (xs ys : List ℕ) (n : ℕ) → length xs ≤ place_of xs n → place_of xs n + place_of ys n ≡ place_of (xs ++ ys) n
place_after [] ys n past = omega arith
place_after (x ∷ xs) ys n past = by_test (nat_eq x n) refl (λ other. place_after xs ys n (later other))
  where
    later : nat_eq x n ≡ false → length xs ≤ place_of xs n
    later other = let w : length (x ∷ xs) ≤ suc (place_of xs n) = rw other at past in omega (arith, w)

    by_test : (b : Bool) → nat_eq x n ≡ b → (nat_eq x n ≡ false → place_of xs n + place_of ys n ≡ place_of (xs ++ ys) n)
        → place_of (x ∷ xs) n + place_of ys n ≡ place_of (x ∷ (xs ++ ys)) n
    by_test true here on = absurd (let w : length (x ∷ xs) ≤ zero = rw here at past in omega (arith, w))
    by_test false other on = rw other (suc_next (place_of xs n) (place_of ys n) ∙ ap suc (on other))

pub place_most : (xs : List ℕ) (n : ℕ) → place_of xs n ≤ length xs
place_most [] n = omega arith
place_most (x ∷ xs) n = by_test (nat_eq x n) refl (place_most xs n)
  where
    by_test : (b : Bool) → nat_eq x n ≡ b → place_of xs n ≤ length xs → place_of (x ∷ xs) n ≤ length (x ∷ xs)
    by_test true here on = rw here (omega arith)
    by_test false other on = rw other (omega (arith, on))
