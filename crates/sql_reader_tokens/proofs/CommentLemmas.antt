-- Comments that are skipped byte by byte.
use Rattle.std.proofs.Common.{◌≡◌, ℕ, zero, suc, Bool, false, ◌&&◌, ◌+◌, ◌-◌, ◌<◌, ◌≤◌, List, [], ◌∷◌, length, drop, get_or, Some, None, nat_eq, refl, ap, ◌∙◌, arith, length-drop}
use Rattle.std.proofs.lemmas.Bool.Decides.{nat_tests}
use Rattle.std.proofs.lemmas.Bool.{cond-true, cond-false, eq-eqb, and_from, and_right}
use Rattle.sql_reader_tokens.proofs.lemmas.byte_runs.RunLemmas.{next}
use Rattle.sql_reader_tokens.specs.byte_runs.Bytes.{is_not, first_is}
use Rattle.sql_reader_tokens.specs.Lexeme.{ends_comment}
use Rattle.sql_reader_tokens.specs.Reading.{after_comment, tail}

-- no comment ends before the byte at n, if one begins at n
abbrev pub NoneBefore : List ℕ → ℕ → Type 0
NoneBefore xs n = after_comment xs ≡ after_comment (drop (n - 1) xs)

abbrev ends_at : List ℕ → ℕ → Bool
ends_at xs n = ends_comment (get_or xs (n - 1) 0 ∷ drop n xs)

here : (xs : List ℕ) (n : ℕ) → 0 < n → n < length xs → drop (n - 1) xs ≡ get_or xs (n - 1) 0 ∷ drop n xs
here xs n h k = next xs (n - 1) (omega arith) ∙ ap (λ i. get_or xs (n - 1) 0 ∷ drop i xs) (let e : n - 1 + 1 ≡ n = omega arith in e)

ends_is : (xs : List ℕ) (n : ℕ) → n < length xs → ends_at xs n ≡ (nat_eq (get_or xs (n - 1) 0) 42 && nat_eq (get_or xs n 0) 47)
ends_is xs n h = ap (λ ys. nat_eq (get_or xs (n - 1) 0) 42 && first_is 47 ys) (next xs n h)

pub comment_more : (xs : List ℕ) (n : ℕ) → 0 < n → n < length xs → (nat_eq (get_or xs (n - 1) 0) 42 && nat_eq (get_or xs n 0) 47) ≡ false → NoneBefore xs n → NoneBefore xs (n + 1)
comment_more xs n h k f s =
    s ∙ (ap after_comment (here xs n h k)
    ∙ (cond-false (ends_at xs n) (Some (tail (drop n xs))) (after_comment (drop n xs)) (ends_is xs n k ∙ f)
    ∙ ap (λ i. after_comment (drop i xs)) (let e : n ≡ n + 1 - 1 = omega arith in e)))

pub comment_here : (xs : List ℕ) (n : ℕ) → 0 < n → n < length xs → get_or xs (n - 1) 0 ≡ 42 → get_or xs n 0 ≡ 47 → NoneBefore xs n → after_comment xs ≡ Some (drop (n + 1) xs)
comment_here xs n h k a b s =
    s ∙ (ap after_comment (here xs n h k)
    ∙ (cond-true (ends_at xs n) (Some (tail (drop n xs))) (after_comment (drop n xs)) (ends_is xs n k ∙ and_from _ _ (eq-eqb _ _ a) (eq-eqb _ _ b))
    ∙ ap (λ ys. Some (tail ys)) (next xs n k)))

alone : (xs : List ℕ) → length xs ≤ 1 → after_comment xs ≡ None
alone [] h = refl
alone (x ∷ []) h = cond-false (nat_eq x 42 && false) (Some []) None (and_right (nat_eq x 42) false refl)
alone (x ∷ y ∷ ys) h = absurd (omega arith)

pub comment_open : (xs : List ℕ) (n : ℕ) → 0 < n → length xs ≤ n → NoneBefore xs n → after_comment xs ≡ None
comment_open xs n h k s = s ∙ alone (drop (n - 1) xs) (omega (arith, length-drop (n - 1) xs))

pub line_feed : (b : ℕ) → is_not 10 b ≡ false → b < 128
line_feed b h = grind (arith, nat_tests)

one_on : (xs : List ℕ) (n : ℕ) → drop 1 (drop n xs) ≡ drop (suc n) xs
one_on [] zero = refl
one_on [] (suc n) = refl
one_on (x ∷ xs) zero = refl
one_on (x ∷ xs) (suc n) = one_on xs n

pub behind : (xs : List ℕ) (n : ℕ) → drop 1 (drop n xs) ≡ drop (n + 1) xs
behind xs n = one_on xs n ∙ ap (λ i. drop i xs) (let e : suc n ≡ n + 1 = omega arith in e)
