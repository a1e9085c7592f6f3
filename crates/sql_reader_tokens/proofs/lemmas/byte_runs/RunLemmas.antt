-- Runs, and what stands between quotes, that are found byte by byte.
use Rattle.std.proofs.Common.{◌≡◌, ◌≢◌, ℕ, zero, suc, ◌+◌, ◌<◌, ◌≤◌, Bool, true, false, List, [], ◌∷◌, ◌++◌, length, take, drop, get_or, Option, Some, None, nat_eq, option_map, refl, sym, ap, ◌∙◌, subst, arith, add-one, append_assoc, length-drop}
use Rattle.std.proofs.Math.Seq.{drop-cons, take-suc}
use Rattle.std.proofs.lemmas.List.{append-nil, get_or-drop}
use Rattle.std.proofs.lemmas.Bool.{cond-true, cond-false, eq-eqb, ne_eqb}
use Rattle.sql_reader_tokens.specs.byte_runs.Runs.{Taken, cons_taken, run_of, cons_some, quoted}

-- these bytes before what was taken
abbrev pub before : List ℕ → Taken → Taken
before front r = (front ++ r.0, r.1)

-- the first n bytes are in the run
abbrev pub Split : (ℕ → Bool) → List ℕ → ℕ → Type 0
Split p xs n = run_of p xs ≡ before (take n xs) (run_of p (drop n xs))

pub next : (xs : List ℕ) (n : ℕ) → n < length xs → drop n xs ≡ get_or xs n 0 ∷ drop (n + 1) xs
next xs n h = rw (add-one, drop-cons xs n 0)

pub taken_more : (xs : List ℕ) (n : ℕ) → n < length xs → take (n + 1) xs ≡ take n xs ++ get_or xs n 0 ∷ []
taken_more xs n h = rw add-one (take-suc xs n 0 h)

pub no_bytes : (xs : List ℕ) (n : ℕ) → length xs ≤ n → drop n xs ≡ []
no_bytes [] zero h = refl
no_bytes [] (suc n) h = refl
no_bytes (x ∷ xs) zero h = absurd (omega arith)
no_bytes (x ∷ xs) (suc n) h = no_bytes xs n (omega arith)

pub split_more : (p : ℕ → Bool) (xs : List ℕ) (n : ℕ) → n < length xs → p (get_or xs n 0) ≡ true → Split p xs n → Split p xs (n + 1)
split_more p xs n h t s =
    s ∙ (ap (λ ys. before (take n xs) (run_of p ys)) (next xs n h)
    ∙ (ap (before (take n xs)) (cond-true (p (get_or xs n 0)) (cons_taken (get_or xs n 0) (run_of p (drop (n + 1) xs))) ([], get_or xs n 0 ∷ drop (n + 1) xs) t)
    ∙ (ap (λ (ys : List ℕ). let r : Taken = (ys, (run_of p (drop (n + 1) xs)).1) in r) (sym (append_assoc (take n xs) (get_or xs n 0 ∷ []) (run_of p (drop (n + 1) xs)).0))
    ∙ ap (λ front. before front (run_of p (drop (n + 1) xs))) (sym (taken_more xs n h)))))

abbrev pair_of : List ℕ → List ℕ → Taken
pair_of xs ys = (xs, ys)

pub split_stop : (p : ℕ → Bool) (xs : List ℕ) (n : ℕ) → n < length xs → p (get_or xs n 0) ≡ false → Split p xs n → run_of p xs ≡ pair_of (take n xs) (drop n xs)
split_stop p xs n h t s =
    s ∙ (ap (λ ys. before (take n xs) (run_of p ys)) (next xs n h)
    ∙ (ap (before (take n xs)) (cond-false (p (get_or xs n 0)) (cons_taken (get_or xs n 0) (run_of p (drop (n + 1) xs))) ([], get_or xs n 0 ∷ drop (n + 1) xs) t)
    ∙ (ap (λ ys. pair_of ys (get_or xs n 0 ∷ drop (n + 1) xs)) (append-nil (take n xs)) ∙ ap (pair_of (take n xs)) (sym (next xs n h)))))

pub split_end : (p : ℕ → Bool) (xs : List ℕ) (n : ℕ) → length xs ≤ n → Split p xs n → run_of p xs ≡ pair_of (take n xs) (drop n xs)
split_end p xs n h s =
    s ∙ (ap (λ ys. before (take n xs) (run_of p ys)) (no_bytes xs n h)
    ∙ (ap (λ ys. pair_of ys []) (append-nil (take n xs)) ∙ ap (pair_of (take n xs)) (sym (no_bytes xs n h))))

abbrev pub before_some : List ℕ → Option Taken → Option Taken
before_some front o = option_map (before front) o

abbrev pub QuotedSo : ℕ → List ℕ → ℕ → Type 0
QuotedSo q xs n = quoted q false xs ≡ before_some (take n xs) (quoted q false (drop n xs))

before_cons : (front : List ℕ) (b : ℕ) (o : Option Taken) → before_some front (cons_some b o) ≡ before_some (front ++ b ∷ []) o
before_cons front b None = refl
before_cons front b (Some r) = ap (λ xs. Some (xs, r.1)) (sym (append_assoc front (b ∷ []) r.0))

pub quoted_plain : (q : ℕ) (xs : List ℕ) (n : ℕ) → n < length xs → get_or xs n 0 ≢ q → QuotedSo q xs n → QuotedSo q xs (n + 1)
quoted_plain q xs n h t s =
    s ∙ (ap (λ ys. before_some (take n xs) (quoted q false ys)) (next xs n h)
    ∙ (ap (before_some (take n xs)) (cond-false _ _ _ (ne_eqb (get_or xs n 0) q t))
    ∙ (before_cons (take n xs) (get_or xs n 0) (quoted q false (drop (n + 1) xs))
    ∙ ap (λ front. before_some front (quoted q false (drop (n + 1) xs))) (sym (taken_more xs n h)))))

pub quoted_doubled : (q : ℕ) (xs : List ℕ) (n : ℕ) → n + 1 < length xs → get_or xs n 0 ≡ q → get_or xs (n + 1) 0 ≡ q → QuotedSo q xs n → QuotedSo q xs (n + 2)
quoted_doubled q xs n h t u s =
    let ys = drop (n + 1 + 1) xs in
    let same : nat_eq q q ≡ true = eq-eqb q q refl in
    let two : drop n xs ≡ q ∷ q ∷ ys = next xs n (omega arith) ∙ (ap (λ b. b ∷ drop (n + 1) xs) t ∙ ap (λ zs. q ∷ zs) (next xs (n + 1) h ∙ ap (λ b. b ∷ ys) u)) in
    let reads : quoted q false (q ∷ q ∷ ys) ≡ cons_some q (cons_some q (quoted q false ys)) =
    cond-true (nat_eq q q) (quoted q true (q ∷ ys)) (cons_some q (quoted q false (q ∷ ys))) same
    ∙ cond-true (nat_eq q q) (cons_some q (cons_some q (quoted q false ys))) (Some ([], q ∷ ys)) same in
    let front : take (n + 1 + 1) xs ≡ (take n xs ++ q ∷ []) ++ q ∷ [] = taken_more xs (n + 1) h ∙ (ap (λ b. take (n + 1) xs ++ b ∷ []) u ∙ ap (λ zs. zs ++ q ∷ []) (taken_more xs n (omega arith) ∙ ap (λ b. take n xs ++ b ∷ []) t)) in
    subst (QuotedSo q xs) (let i : n + 1 + 1 ≡ n + 2 = omega arith in i)
    (s ∙ (ap (λ zs. before_some (take n xs) (quoted q false zs)) two
    ∙ (ap (before_some (take n xs)) reads
    ∙ (before_cons (take n xs) q (cons_some q (quoted q false ys))
    ∙ (before_cons (take n xs ++ q ∷ []) q (quoted q false ys)
    ∙ ap (λ zs. before_some zs (quoted q false ys)) (sym front))))))

abbrev taken_some : List ℕ → List ℕ → Option Taken
taken_some xs ys = Some (xs, ys)

after_quote : (q : ℕ) (ys : List ℕ) → (0 < length ys → get_or ys 0 0 ≢ q) → quoted q true ys ≡ taken_some [] ys
after_quote q [] h = refl
after_quote q (y ∷ ys) h = cond-false _ _ _ (ne_eqb y q (h (omega arith)))

pub quoted_close : (q : ℕ) (xs : List ℕ) (n : ℕ) → n < length xs → get_or xs n 0 ≡ q → (n + 1 < length xs → get_or xs (n + 1) 0 ≢ q) → QuotedSo q xs n
    → quoted q false xs ≡ taken_some (take n xs) (drop (n + 1) xs)
quoted_close q xs n h t u s =
    let ys = drop (n + 1) xs in
    let one : drop n xs ≡ q ∷ ys = next xs n h ∙ ap (λ b. b ∷ ys) t in
    let reads : quoted q false (q ∷ ys) ≡ taken_some [] ys =
    cond-true (nat_eq q q) (quoted q true ys) (cons_some q (quoted q false ys)) (eq-eqb q q refl) ∙ after_quote q ys (λ k e. u (omega (arith, length-drop (n + 1) xs)) (ap (λ i. get_or xs i 0) (let i : n + 1 ≡ n + 1 + 0 = omega arith in i) ∙ (sym (get_or-drop (n + 1) xs 0 0) ∙ e))) in
    s ∙ (ap (λ zs. before_some (take n xs) (quoted q false zs)) one
    ∙ (ap (before_some (take n xs)) reads ∙ ap (λ zs. taken_some zs ys) (append-nil (take n xs))))

pub quoted_open : (q : ℕ) (xs : List ℕ) (n : ℕ) → length xs ≤ n → QuotedSo q xs n → quoted q false xs ≡ (let none : Option Taken = None in none)
quoted_open q xs n h s = s ∙ ap (λ zs. before_some (take n xs) (quoted q false zs)) (no_bytes xs n h)
