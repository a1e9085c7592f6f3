-- What stands between quotes, copied piece by piece.
use Rattle.std.proofs.Common.{◌≡◌, ℕ, Bool, true, false, not, ◌+◌, ◌-◌, ◌*◌, ◌<◌, ◌≤◌, List, [], ◌∷◌, ◌++◌, length, take, drop, get_or, cond, nat_eq, refl, sym, ap, ◌∙◌, subst, arith, append_assoc, length-drop}
use Rattle.std.proofs.lemmas.List.{append-nil}
use Rattle.std.proofs.lemmas.Bool.{eq-eqb}
use Rattle.std.proofs.lemmas.Str.{IsCharBoundary-after_ascii}
use Rattle.std.specs.Str.{IsUtf8, IsCharBoundary}
use Rattle.sql_reader_tokens.proofs.LexemeLemmas.{is_it}
use Rattle.sql_reader_tokens.proofs.lemmas.byte_runs.RunLemmas.{next, no_bytes, taken_more}
use Rattle.sql_reader_tokens.specs.byte_runs.Bytes.{is_not, hex_value}
use Rattle.sql_reader_tokens.specs.Content.{undoubled, unhex}
use Rattle.sql_reader_tokens.specs.byte_runs.Runs.{Taken, run_of, cons_taken}

abbrev joined : ℕ → Taken → List ℕ
joined q r = r.0 ++ undoubled q false r.1

undoubled_test : (q b : ℕ) (bs : List ℕ) (c : Bool) → nat_eq b q ≡ c → undoubled q false bs ≡ joined q (run_of (is_not q) bs)
    → undoubled q false (b ∷ bs) ≡ joined q (cond (not c) (cons_taken b (run_of (is_not q) bs)) ([], b ∷ bs))
undoubled_test q b bs true h r = refl
undoubled_test q b bs false h r = ap (λ passed. b ∷ undoubled q passed bs) h ∙ ap (λ xs. b ∷ xs) r

-- a run without quotes stays
undoubled_run : (q : ℕ) (bs : List ℕ) → undoubled q false bs ≡ joined q (run_of (is_not q) bs)
undoubled_run q [] = refl
undoubled_run q (b ∷ bs) = undoubled_test q b bs (nat_eq b q) refl (undoubled_run q bs)

abbrev pair_of : List ℕ → List ℕ → Taken
pair_of xs ys = (xs, ys)

split_at : (q : ℕ) (bs : List ℕ) (n : ℕ) → run_of (is_not q) bs ≡ pair_of (take n bs) (drop n bs) → undoubled q false bs ≡ take n bs ++ undoubled q false (drop n bs)
split_at q bs n h = undoubled_run q bs ∙ ap (joined q) h

take_all : (bs : List ℕ) → take (length bs) bs ≡ bs
take_all [] = refl
take_all (b ∷ bs) = ap (λ xs. b ∷ xs) (take_all bs)

pub no_quote : (q : ℕ) (bs : List ℕ) (n : ℕ) → n ≡ length bs → run_of (is_not q) bs ≡ pair_of (take n bs) (drop n bs) → undoubled q false bs ≡ bs ++ []
no_quote q bs n e h =
    split_at q bs n h ∙ (ap (λ xs. take n bs ++ undoubled q false xs) (no_bytes bs n (omega arith)) ∙ ap (λ xs. xs ++ []) (ap (λ i. take i bs) e ∙ take_all bs))

pub up_to_quote : (q : ℕ) (bs : List ℕ) (n : ℕ) → n < length bs → run_of (is_not q) bs ≡ pair_of (take n bs) (drop n bs) → is_not q (get_or bs n 0) ≡ false
    → undoubled q false bs ≡ take (n + 1) bs ++ undoubled q true (drop (n + 1) bs)
up_to_quote q bs n h r k =
    let e : get_or bs n 0 ≡ q = is_it q (get_or bs n 0) k in
    split_at q bs n r
    ∙ (ap (λ xs. take n bs ++ undoubled q false xs) (next bs n h)
    ∙ (ap (λ passed. take n bs ++ get_or bs n 0 ∷ undoubled q passed (drop (n + 1) bs)) (eq-eqb (get_or bs n 0) q e)
    ∙ (sym (append_assoc (take n bs) (get_or bs n 0 ∷ []) (undoubled q true (drop (n + 1) bs)))
    ∙ ap (λ xs. xs ++ undoubled q true (drop (n + 1) bs)) (sym (taken_more bs n h)))))

-- the bytes that were read are those of the digits before this place
abbrev pub PairsUpTo : List ℕ → List ℕ → ℕ → Type 0
PairsUpTo digits bytes n = bytes ++ unhex (drop (n - 1) digits) ≡ unhex digits

pub pair_none : (digits bytes : List ℕ) → bytes ≡ [] → PairsUpTo digits bytes 1
pair_none digits bytes e = ap (λ bs. bs ++ unhex digits) e

pub pair_more : (digits bytes more : List ℕ) (n : ℕ) → 0 < n → n < length digits → PairsUpTo digits bytes n
    → more ≡ bytes ++ (16 * hex_value (get_or digits (n - 1) 0) + hex_value (get_or digits n 0)) ∷ [] → PairsUpTo digits more (n + 2)
pair_more digits bytes more n h k p e =
    let byte = 16 * hex_value (get_or digits (n - 1) 0) + hex_value (get_or digits n 0) in
    let rest = drop (n + 1) digits in
    let two : drop (n - 1) digits ≡ get_or digits (n - 1) 0 ∷ get_or digits n 0 ∷ rest =
    next digits (n - 1) (omega arith) ∙ ap (λ xs. get_or digits (n - 1) 0 ∷ xs) (ap (λ i. drop i digits) (let i : n - 1 + 1 ≡ n = omega arith in i) ∙ next digits n k) in
    ap (λ xs. xs ++ unhex (drop (n + 2 - 1) digits)) e
    ∙ (append_assoc bytes (byte ∷ []) (unhex (drop (n + 2 - 1) digits))
    ∙ (ap (λ i. bytes ++ byte ∷ unhex (drop i digits)) (let i : n + 2 - 1 ≡ n + 1 = omega arith in i)
    ∙ (ap (λ xs. bytes ++ unhex xs) (sym two) ∙ p)))

short : (digits : List ℕ) → length digits ≤ 1 → unhex digits ≡ []
short [] h = refl
short (x ∷ []) h = refl
short (x ∷ y ∷ ys) h = absurd (omega arith)

pub pair_end : (digits bytes : List ℕ) (n : ℕ) → 0 < n → length digits ≤ n → PairsUpTo digits bytes n → bytes ≡ unhex digits
pair_end digits bytes n h k p =
    sym (append-nil bytes) ∙ (ap (λ xs. bytes ++ xs) (sym (short (drop (n - 1) digits) (omega (arith, length-drop (n - 1) digits)))) ∙ p)

-- a text may be cut behind a quote
pub behind_quote : (bs : List ℕ) (n q : ℕ) → IsUtf8 bs → n < length bs → is_not q (get_or bs n 0) ≡ false → q < 128 → IsCharBoundary bs (n + 1)
behind_quote bs n q u h k a = IsCharBoundary-after_ascii bs n u h (subst (λ b. b < 128) (sym (is_it q (get_or bs n 0) k)) a)
