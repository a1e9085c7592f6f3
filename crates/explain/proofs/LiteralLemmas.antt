-- A literal that a comma or a line feed follows is read off in one way.
use Rattle.std.proofs.Common.{zero, ◌+◌, ◌≡◌, ◌≢◌, ◌≤◌, ◌<◌, ◌⊎◌, ◌/◌, ◌%◌, ◌==◌, true, false, cond, ℕ, ℤ, pos, negsuc, suc, List, [], ◌∷◌, ◌++◌, get_or, drop, refl, sym, ap, ◌∙◌, arith, append_assoc, inl, inr, ⊎_elim}
use Rattle.std.specs.Fmt.{decimal, signed_decimal, digits, digits_onto, digit_glyph}
use Rattle.std.proofs.lemmas.Bool.{cases_Bool, eqb-true, lt-ltb}
use Rattle.std.proofs.lemmas.Fmt.{signed_decimal_injective}
use Rattle.std.proofs.lemmas.Grind.{common_steps}
use Rattle.values.specs.Datum.{Datum, null, int, text, blob}
use Rattle.values.specs.Literal.{literal, quoted, quoted_all, hex_digit, hex_all}
use Rattle.explain.specs.Text.{IsInRange}

pub head : {x y : ℕ} {xs ys : List ℕ} → x ∷ xs ≡ y ∷ ys → x ≡ y
head e = ap (λ l. get_or l 0 0) e

pub tail : {x y : ℕ} {xs ys : List ℕ} → x ∷ xs ≡ y ∷ ys → xs ≡ ys
tail e = ap (λ l. drop 1 l) e

-- what stands behind a value of a row begins so
abbrev pub IsBehind : List ℕ → Type 0
IsBehind [] = ⊥
IsBehind (c ∷ cs) = (c ≡ 44) ⊎ (c ≡ 10)

below : (c : ℕ) → (c ≡ 44) ⊎ (c ≡ 10) → c ≤ 44
below c is = ⊎_elim (λ comma. omega (arith, comma)) (λ feed. omega (arith, feed)) is

not_quote : (c : ℕ) → (c ≡ 44) ⊎ (c ≡ 10) → c ≢ 39
not_quote c is quote = ⊎_elim (λ comma. omega (arith, comma, quote)) (λ feed. omega (arith, feed, quote)) is

-- the bytes of numbers: a minus sign and digits
abbrev pub AreOfNumber : List ℕ → Type 0
AreOfNumber [] = Unit {0}
AreOfNumber (c ∷ cs) = (45 ≤ c) × (c ≤ 57) × AreOfNumber cs

-- the same, and at least one byte
abbrev IsNumberText : List ℕ → Type 0
IsNumberText [] = ⊥
IsNumberText (c ∷ cs) = (45 ≤ c) × (c ≤ 57) × AreOfNumber cs

glyph_bytes : (n : ℕ) (cs : List ℕ) → AreOfNumber cs → IsNumberText (digit_glyph false (n % 10) ∷ cs)
glyph_bytes n cs all =
    let small : n % 10 < 10 = omega arith in
    let glyph : digit_glyph false (n % 10) ≡ 48 + n % 10 = rw (lt-ltb (n % 10) 10 small) refl in
    rw glyph (omega arith, omega (arith, small), all)

digits_bytes : (k n : ℕ) (cs : List ℕ) → AreOfNumber cs → IsNumberText (digits_onto (suc k) 10 false n cs)
digits_bytes zero n cs all =
    elim (n / 10 == 0) as (λ b. IsNumberText (cond b (digit_glyph false (n % 10) ∷ cs) (digit_glyph false (n % 10) ∷ cs)))
    [ true ↦ glyph_bytes n cs all | false ↦ glyph_bytes n cs all ]
digits_bytes (suc k) n cs all =
    let glyph = digit_glyph false (n % 10) in
    elim (n / 10 == 0) as (λ b. IsNumberText (cond b (glyph ∷ cs) (digits_onto (suc k) 10 false (n / 10) (glyph ∷ cs))))
    [ true ↦ glyph_bytes n cs all | false ↦ digits_bytes k (n / 10) (glyph ∷ cs) (glyph_bytes n cs all) ]

decimal_bytes : (n : ℕ) → IsNumberText (decimal n)
unfolding digits
decimal_bytes n = digits_bytes 63 n [] tt

any_bytes : (cs : List ℕ) → IsNumberText cs → AreOfNumber cs
any_bytes [] bytes = tt
any_bytes (c ∷ cs) bytes = bytes

number_bytes : (z : ℤ) → IsNumberText (signed_decimal z)
number_bytes (pos n) = decimal_bytes n
number_bytes (negsuc n) = (omega arith, omega arith, any_bytes (decimal (suc n)) (decimal_bytes (suc n)))

-- the first byte of a number
number_first : (ds : List ℕ) → IsNumberText ds → (c : ℕ) (s t : List ℕ) → ds ++ s ≡ c ∷ t → (45 ≤ c) × (c ≤ 57)
number_first [] bytes c s t e = absurd bytes
number_first (d ∷ ds) bytes c s t e = (omega (arith, head e, bytes.0), omega (arith, head e, bytes.1))

-- a number ends where what is behind it begins
numbers_told : (xs ys s t : List ℕ) → AreOfNumber xs → AreOfNumber ys → IsBehind s → IsBehind t → xs ++ s ≡ ys ++ t
    → (xs ≡ ys) × (s ≡ t)
numbers_told [] [] s t all others behind next e = (refl, e)
numbers_told [] (y ∷ ys) [] t all others behind next e = absurd behind
numbers_told [] (y ∷ ys) (c ∷ s) t all others behind next e = absurd (omega (arith, head e, others.0, below c behind))
numbers_told (x ∷ xs) [] s [] all others behind next e = absurd next
numbers_told (x ∷ xs) [] s (c ∷ t) all others behind next e = absurd (omega (arith, head e, all.0, below c next))
numbers_told (x ∷ xs) (y ∷ ys) s t all others behind next e =
    let rest = numbers_told xs ys s t all.2 others.2 behind next (tail e) in
    ((λ i. head e i ∷ rest.0 i), rest.1)

-- a text ends at the first quote that isn't doubled
abbrev IsQuoted : ℕ → Type 0
IsQuoted x = ((quoted x ≡ 39 ∷ 39 ∷ []) × (x ≡ 39)) ⊎ ((quoted x ≡ x ∷ []) × (x ≢ 39))

is_quoted : (x : ℕ) → IsQuoted x
is_quoted x = ⊎_elim
    (λ (same : (x == 39) ≡ true). inl (rw same refl, eqb-true _ _ same))
    (λ (other : (x == 39) ≡ false). inr (rw other refl, λ is. cc))
    (cases_Bool (x == 39))

quoted_told : (a b s t : List ℕ) → IsBehind s → IsBehind t → quoted_all a ++ (39 ∷ s) ≡ quoted_all b ++ (39 ∷ t)
    → (a ≡ b) × (s ≡ t)
quoted_told [] [] s t behind next e = (refl, tail e)
quoted_told [] (y ∷ b) [] t behind next e = absurd behind
quoted_told [] (y ∷ b) (c ∷ s) t behind next e = ⊎_elim
    (λ (q : (quoted y ≡ 39 ∷ 39 ∷ []) × (y ≡ 39)). absurd (not_quote c behind (head (tail (rw q.0 at e)))))
    (λ (q : (quoted y ≡ y ∷ []) × (y ≢ 39)). absurd (q.1 (sym (head (rw q.0 at e)))))
    (is_quoted y)
quoted_told (x ∷ a) [] s [] behind next e = absurd next
quoted_told (x ∷ a) [] s (c ∷ t) behind next e = ⊎_elim
    (λ (p : (quoted x ≡ 39 ∷ 39 ∷ []) × (x ≡ 39)). absurd (not_quote c next (sym (head (tail (rw p.0 at e))))))
    (λ (p : (quoted x ≡ x ∷ []) × (x ≢ 39)). absurd (p.1 (head (rw p.0 at e))))
    (is_quoted x)
quoted_told (x ∷ a) (y ∷ b) s t behind next e = ⊎_elim
    (λ (p : (quoted x ≡ 39 ∷ 39 ∷ []) × (x ≡ 39)). ⊎_elim
    (λ (q : (quoted y ≡ 39 ∷ 39 ∷ []) × (y ≡ 39)).
    let rest = quoted_told a b s t behind next (tail (tail (rw (p.0, q.0) at e))) in
    ((λ i. (p.1 ∙ sym q.1) i ∷ rest.0 i), rest.1))
    (λ (q : (quoted y ≡ y ∷ []) × (y ≢ 39)). absurd (q.1 (sym (head (rw (p.0, q.0) at e)))))
    (is_quoted y))
    (λ (p : (quoted x ≡ x ∷ []) × (x ≢ 39)). ⊎_elim
    (λ (q : (quoted y ≡ 39 ∷ 39 ∷ []) × (y ≡ 39)). absurd (p.1 (head (rw (p.0, q.0) at e))))
    (λ (q : (quoted y ≡ y ∷ []) × (y ≢ 39)).
    let same = rw (p.0, q.0) at e in
    let rest = quoted_told a b s t behind next (tail same) in
    ((λ i. head same i ∷ rest.0 i), rest.1))
    (is_quoted y))
    (is_quoted x)

-- a hexadecimal digit tells its number, and is no quote
hex_digit-other : (n : ℕ) → hex_digit n ≢ 39
hex_digit-other n e = grind (arith, common_steps, e)

hex_digit-one : (m n : ℕ) → hex_digit m ≡ hex_digit n → m ≡ n
hex_digit-one m n e = grind (arith, common_steps, e)

hex_told : (a b s t : List ℕ) → hex_all a ++ (39 ∷ s) ≡ hex_all b ++ (39 ∷ t) → (a ≡ b) × (s ≡ t)
hex_told [] [] s t e = (refl, tail e)
hex_told [] (y ∷ b) s t e = absurd (hex_digit-other (y / 16) (sym (head e)))
hex_told (x ∷ a) [] s t e = absurd (hex_digit-other (x / 16) (head e))
hex_told (x ∷ a) (y ∷ b) s t e =
    let high = hex_digit-one (x / 16) (y / 16) (head e) in
    let low = hex_digit-one (x % 16) (y % 16) (head (tail e)) in
    let same : x ≡ y = omega (arith, high, low) in
    let rest = hex_told a b s t (tail (tail e)) in
    ((λ i. same i ∷ rest.0 i), rest.1)

-- a closing quote goes to what is behind it
closed : (inner s : List ℕ) → (inner ++ 39 ∷ []) ++ s ≡ inner ++ (39 ∷ s)
closed inner s = append_assoc inner (39 ∷ []) s

-- the first byte of a literal tells its class
number_not : (z : ℤ) (c : ℕ) (s t : List ℕ) → signed_decimal z ++ s ≡ c ∷ t → (45 ≤ c) × (c ≤ 57)
number_not z c s t e = number_first (signed_decimal z) (number_bytes z) c s t e

-- whole numbers of 64 bits are told apart by their texts
abbrev pub AreOneInRange : Datum → Datum → Type 0
AreOneInRange x y = IsInRange x → IsInRange y → x ≡ y

pub literal_told : (x y : Datum) (s t : List ℕ) → IsBehind s → IsBehind t → literal x ++ s ≡ literal y ++ t
    → AreOneInRange x y × (s ≡ t)
literal_told null null s t behind next e = (λ _ _. refl, tail (tail (tail (tail e))))
literal_told null (int n) s t behind next e = absurd (omega (arith, number_not n _ t _ (sym e)))
literal_told null (text b) s t behind next e = absurd (omega (arith, head e))
literal_told null (blob b) s t behind next e = absurd (omega (arith, head e))
literal_told (int m) null s t behind next e = absurd (omega (arith, number_not m _ s _ e))
literal_told (int m) (int n) s t behind next e =
    let all = any_bytes (signed_decimal m) (number_bytes m) in
    let others = any_bytes (signed_decimal n) (number_bytes n) in
    let told = numbers_told (signed_decimal m) (signed_decimal n) s t all others behind next e in
    (λ fits other. ap int (signed_decimal_injective m n fits.sfits other.sfits told.0), told.1)
literal_told (int m) (text b) s t behind next e = absurd (omega (arith, number_not m _ s _ e))
literal_told (int m) (blob b) s t behind next e = absurd (omega (arith, number_not m _ s _ e))
literal_told (text a) null s t behind next e = absurd (omega (arith, head e))
literal_told (text a) (int n) s t behind next e = absurd (omega (arith, number_not n _ t _ (sym e)))
literal_told (text a) (text b) s t behind next e =
    let inner = sym (closed (quoted_all a) s) ∙ tail e ∙ closed (quoted_all b) t in
    let told = quoted_told a b s t behind next inner in
    (λ _ _. ap text told.0, told.1)
literal_told (text a) (blob b) s t behind next e = absurd (omega (arith, head e))
literal_told (blob a) null s t behind next e = absurd (omega (arith, head e))
literal_told (blob a) (int n) s t behind next e = absurd (omega (arith, number_not n _ t _ (sym e)))
literal_told (blob a) (text b) s t behind next e = absurd (omega (arith, head e))
literal_told (blob a) (blob b) s t behind next e =
    let told = hex_told a b s t (sym (closed (hex_all a) s) ∙ tail (tail e) ∙ closed (hex_all b) t) in
    (λ _ _. ap blob told.0, told.1)

-- no literal begins with a line feed
pub literal-no_feed : (x : Datum) (s t : List ℕ) → literal x ++ s ≢ 10 ∷ t
literal-no_feed null s t e = omega (arith, head e)
literal-no_feed (int n) s t e = omega (arith, number_not n 10 s t e)
literal-no_feed (text b) s t e = omega (arith, head e)
literal-no_feed (blob b) s t e = omega (arith, head e)
