-- The reader of signs finds exactly the sign that stands at the front.
use Rattle.std.proofs.Common.{◌<◌, length, drop, get_or, arith, ◌≡◌, ℕ, Bool, true, false, ◌||◌, ◌⊎◌, List, [], ◌∷◌, ◌++◌, Option, Some, None, cond, if◌then◌else◌, nat_eq, refl, sym, ap, ◌∙◌, subst}
use mathlib.Core.Logic.{inl, inr}
use Rattle.std.proofs.lemmas.Bool.{cond-false, eqb-true, or_parts, or_from}
use Rattle.sql_reader_tokens.proofs.FormLemmas.{chosen}
use Rattle.sql_reader_tokens.specs.Lexeme.{Stops}
use Rattle.sql_reader_tokens.specs.Reading.{longer, sign_at, is_long, tail, behind, sign_of}
use Rattle.sql_reader_tokens.specs.Sign.{spelling, joins}
use Rattle.sql_reader_tokens.specs.declared.sign.Sign.{Sign}
use Rattle.sql_reader_tokens.specs.declared.sign.Sign.TheVariants as s

longer_alone : (c : ℕ) (two one : Option Sign) (after : List ℕ) → Stops (λ b. nat_eq b c) after → longer c two one after ≡ one
longer_alone c two one [] h = refl
longer_alone c two one (b ∷ bs) (Stops.at_byte h) = cond-false _ _ _ h

less_alone : (after : List ℕ) → Stops (λ b. nat_eq b 61 || nat_eq b 62) after → sign_at 60 after ≡ Some s.Less
less_alone [] h = refl
less_alone (b ∷ bs) (Stops.at_byte h) = let k = or_parts (nat_eq b 61) (nat_eq b 62) h in cond-false _ _ _ k.1 ∙ cond-false _ _ _ k.0

pub sign_complete : (sign : Sign) (after : List ℕ) → Stops (joins sign) after → sign_of (spelling sign ++ after) ≡ Some sign
sign_complete s.Open after h = refl
sign_complete s.Close after h = refl
sign_complete s.Comma after h = refl
sign_complete s.Dot after h = refl
sign_complete s.Semicolon after h = refl
sign_complete s.Star after h = refl
sign_complete s.Slash after h = longer_alone 42 None (Some s.Slash) after h
sign_complete s.Percent after h = refl
sign_complete s.Plus after h = refl
sign_complete s.Minus after h = longer_alone 45 None (Some s.Minus) after h
sign_complete s.Tilde after h = refl
sign_complete s.Ampersand after h = refl
sign_complete s.Bar after h = longer_alone 124 (Some s.DoubleBar) (Some s.Bar) after h
sign_complete s.DoubleBar after h = refl
sign_complete s.Equal after h = longer_alone 61 (Some s.DoubleEqual) (Some s.Equal) after h
sign_complete s.DoubleEqual after h = refl
sign_complete s.NotEqual after h = refl
sign_complete s.LessGreater after h = refl
sign_complete s.Less after h = less_alone after h
sign_complete s.LessEqual after h = refl
sign_complete s.Greater after h = longer_alone 61 (Some s.GreaterEqual) (Some s.Greater) after h
sign_complete s.GreaterEqual after h = refl

-- a sign stands at the front
pub record SignAt (b : ℕ) (bs : List ℕ) (sign : Sign) : Type 0 where
  pub spelt : b ∷ bs ≡ spelling sign ++ behind sign bs
  pub apart : Stops (joins sign) (behind sign bs)

never : (p : ℕ → Bool) (bs : List ℕ) → ((b : ℕ) → p b ≡ false) → Stops p bs
never p [] h = Stops.at_end
never p (b ∷ bs) h = Stops.at_byte (h b)

some_inj : (x y : Sign) → Some x ≡ Some y → x ≡ y
some_inj x y h = cc

-- a sign of one byte, which nothing makes longer
alone : (c : ℕ) (bs : List ℕ) (sign : Sign) → is_long sign ≡ false → spelling sign ≡ c ∷ [] → Stops (joins sign) bs → SignAt c bs sign
alone c bs sign short is st =
    let b : bs ≡ behind sign bs = sym (cond-false (is_long sign) (tail bs) bs short) in
    record { spelt = ap (λ xs. c ∷ xs) b ∙ ap (λ xs. xs ++ behind sign bs) (sym is); apart = subst (Stops (joins sign)) b st }

-- the rest of two bytes
pair : (c d : ℕ) (bs : List ℕ) (sign : Sign) → is_long sign ≡ true → spelling sign ≡ c ∷ d ∷ [] → ((b : ℕ) → joins sign b ≡ false) → bs ≡ d ∷ tail bs → SignAt c bs sign
pair c d bs sign long is ends e =
    let b : behind sign bs ≡ tail bs = ap (λ l. if l then tail bs else bs) long in
    record {
      spelt = ap (λ xs. c ∷ xs) e ∙ (ap (λ xs. xs ++ tail bs) (sym is) ∙ ap (λ xs. spelling sign ++ xs) (sym b));
      apart = never (joins sign) (behind sign bs) ends;
    }

longer_cases : (c : ℕ) (two one : Option Sign) (bs : List ℕ) (sign : Sign) → longer c two one bs ≡ Some sign
    → ((two ≡ Some sign) × (bs ≡ c ∷ tail bs)) ⊎ ((one ≡ Some sign) × Stops (λ b. nat_eq b c) bs)
longer_cases c two one [] sign h = inr (h, Stops.at_end)
longer_cases c two one (b ∷ bs) sign h = elim (chosen (nat_eq b c) two one (Some sign) h) [
  | inl k ↦ inl (k.1, ap (λ d. d ∷ bs) (eqb-true b c k.0))
  | inr k ↦ inr (k.1, Stops.at_byte k.0)
]

-- one row of the table: where the byte is this one, and else the rows below
row : (c b : ℕ) (bs : List ℕ) (sign : Sign) (here other : Option Sign) → cond (nat_eq b c) here other ≡ Some sign
    → (here ≡ Some sign → SignAt c bs sign) → (other ≡ Some sign → SignAt b bs sign) → SignAt b bs sign
row c b bs sign here other h f g = elim (chosen (nat_eq b c) here other (Some sign) h) [
  | inl k ↦ subst (λ a. SignAt a bs sign) (sym (eqb-true b c k.0)) (f k.1)
  | inr k ↦ g k.1
]

-- a row of one sign
single : (c : ℕ) (bs : List ℕ) (is sign : Sign) → is_long is ≡ false → spelling is ≡ c ∷ [] → ((b : ℕ) → joins is b ≡ false) → Some is ≡ Some sign → SignAt c bs sign
single c bs is sign short spelt ends h = subst (SignAt c bs) (some_inj is sign h) (alone c bs is short spelt (never (joins is) bs ends))

-- a row of a sign, and a longer one that it begins
double : (c d : ℕ) (bs : List ℕ) (two one sign : Sign) → is_long two ≡ true → spelling two ≡ c ∷ d ∷ [] → ((b : ℕ) → joins two b ≡ false)
    → is_long one ≡ false → spelling one ≡ c ∷ [] → (Stops (λ b. nat_eq b d) bs → Stops (joins one) bs)
    → longer d (Some two) (Some one) bs ≡ Some sign → SignAt c bs sign
double c d bs two one sign long t ends short o st h = elim (longer_cases d (Some two) (Some one) bs sign h) [
  | inl k ↦ subst (SignAt c bs) (some_inj two sign k.0) (pair c d bs two long t ends k.1)
  | inr k ↦ subst (SignAt c bs) (some_inj one sign k.0) (alone c bs one short o (st k.1))
]

-- a row of a sign that isn't one where another byte follows
barred : (c d : ℕ) (bs : List ℕ) (one sign : Sign) → is_long one ≡ false → spelling one ≡ c ∷ [] → (Stops (λ b. nat_eq b d) bs → Stops (joins one) bs)
    → longer d None (Some one) bs ≡ Some sign → SignAt c bs sign
barred c d bs one sign short o st h = elim (longer_cases d None (Some one) bs sign h) [
  | inl k ↦ absurd (let n = k.0 in cc)
  | inr k ↦ subst (SignAt c bs) (some_inj one sign k.0) (alone c bs one short o (st k.1))
]

both_stop : (bs : List ℕ) → Stops (λ b. nat_eq b 61) bs → Stops (λ b. nat_eq b 62) bs → Stops (λ b. nat_eq b 61 || nat_eq b 62) bs
both_stop [] h k = Stops.at_end
both_stop (b ∷ bs) (Stops.at_byte h) (Stops.at_byte k) = Stops.at_byte (or_from (nat_eq b 61) (nat_eq b 62) h k)

not_equal : (bs : List ℕ) (sign : Sign) → longer 61 (Some s.NotEqual) None bs ≡ Some sign → SignAt 33 bs sign
not_equal bs sign h = elim (longer_cases 61 (Some s.NotEqual) None bs sign h) [
  | inl k ↦ subst (SignAt 33 bs) (some_inj s.NotEqual sign k.0) (pair 33 61 bs s.NotEqual refl refl (λ b. refl) k.1)
  | inr k ↦ absurd (let n = k.0 in cc)
]

less : (bs : List ℕ) (sign : Sign) → longer 62 (Some s.LessGreater) (longer 61 (Some s.LessEqual) (Some s.Less) bs) bs ≡ Some sign → SignAt 60 bs sign
less bs sign h = elim (longer_cases 62 (Some s.LessGreater) (longer 61 (Some s.LessEqual) (Some s.Less) bs) bs sign h) [
  | inl k ↦ subst (SignAt 60 bs) (some_inj s.LessGreater sign k.0) (pair 60 62 bs s.LessGreater refl refl (λ b. refl) k.1)
  | inr k ↦ double 60 61 bs s.LessEqual s.Less sign refl refl (λ b. refl) refl refl (λ st. both_stop bs st k.1) k.0
]

pub sign_sound : (b : ℕ) (bs : List ℕ) (sign : Sign) → sign_at b bs ≡ Some sign → SignAt b bs sign
sign_sound b bs sign h =
    row 40 b bs sign _ _ h (single 40 bs s.Open sign refl refl (λ b. refl)) (λ h.
    row 41 b bs sign _ _ h (single 41 bs s.Close sign refl refl (λ b. refl)) (λ h.
    row 44 b bs sign _ _ h (single 44 bs s.Comma sign refl refl (λ b. refl)) (λ h.
    row 46 b bs sign _ _ h (single 46 bs s.Dot sign refl refl (λ b. refl)) (λ h.
    row 59 b bs sign _ _ h (single 59 bs s.Semicolon sign refl refl (λ b. refl)) (λ h.
    row 42 b bs sign _ _ h (single 42 bs s.Star sign refl refl (λ b. refl)) (λ h.
    row 47 b bs sign _ _ h (barred 47 42 bs s.Slash sign refl refl (λ st. st)) (λ h.
    row 37 b bs sign _ _ h (single 37 bs s.Percent sign refl refl (λ b. refl)) (λ h.
    row 43 b bs sign _ _ h (single 43 bs s.Plus sign refl refl (λ b. refl)) (λ h.
    row 45 b bs sign _ _ h (barred 45 45 bs s.Minus sign refl refl (λ st. st)) (λ h.
    row 126 b bs sign _ _ h (single 126 bs s.Tilde sign refl refl (λ b. refl)) (λ h.
    row 38 b bs sign _ _ h (single 38 bs s.Ampersand sign refl refl (λ b. refl)) (λ h.
    row 124 b bs sign _ _ h (double 124 124 bs s.DoubleBar s.Bar sign refl refl (λ b. refl) refl refl (λ st. st)) (λ h.
    row 61 b bs sign _ _ h (double 61 61 bs s.DoubleEqual s.Equal sign refl refl (λ b. refl) refl refl (λ st. st)) (λ h.
    row 33 b bs sign _ _ h (not_equal bs sign) (λ h.
    row 60 b bs sign _ _ h (less bs sign) (λ h.
    row 62 b bs sign _ _ h (double 62 61 bs s.GreaterEqual s.Greater sign refl refl (λ b. refl) refl refl (λ st. st)) (λ h. absurd cc)))))))))))))))))

second_is : (b c d : ℕ) (bs cs : List ℕ) → b ∷ bs ≡ c ∷ d ∷ cs → d < 128 → (0 < length bs) × (get_or bs 0 0 < 128)
second_is b c d [] cs e h = absurd cc
second_is b c d (x ∷ bs) cs e h = (omega arith, subst (λ y. y < 128) (let i : d ≡ x = cc in i) h)

second : (sign : Sign) (b : ℕ) (bs : List ℕ) → b ∷ bs ≡ spelling sign ++ behind sign bs → is_long sign ≡ true → (0 < length bs) × (get_or bs 0 0 < 128)
second s.DoubleBar b bs e long = second_is b 124 124 bs (tail bs) e (omega arith)
second s.DoubleEqual b bs e long = second_is b 61 61 bs (tail bs) e (omega arith)
second s.NotEqual b bs e long = second_is b 33 61 bs (tail bs) e (omega arith)
second s.LessGreater b bs e long = second_is b 60 62 bs (tail bs) e (omega arith)
second s.LessEqual b bs e long = second_is b 60 61 bs (tail bs) e (omega arith)
second s.GreaterEqual b bs e long = second_is b 62 61 bs (tail bs) e (omega arith)
second _ b bs e long = absurd cc

-- the second byte of a sign of two
pub second_byte : (sign : Sign) (text : List ℕ) → sign_of text ≡ Some sign → is_long sign ≡ true → (0 < length (drop 1 text)) × (get_or (drop 1 text) 0 0 < 128)
second_byte sign [] h long = absurd cc
second_byte sign (b ∷ bs) h long = second sign b bs (sign_sound b bs sign h).spelt long

same_first : (b c : ℕ) (bs cs : List ℕ) → b ∷ bs ≡ c ∷ cs → c < 128 → b < 128
same_first b c bs cs e h = subst (λ y. y < 128) (let i : c ≡ b = cc in i) h

ascii : (sign : Sign) (b : ℕ) (bs after : List ℕ) → b ∷ bs ≡ spelling sign ++ after → b < 128
ascii s.Open b bs after e = same_first b 40 bs after e (omega arith)
ascii s.Close b bs after e = same_first b 41 bs after e (omega arith)
ascii s.Comma b bs after e = same_first b 44 bs after e (omega arith)
ascii s.Dot b bs after e = same_first b 46 bs after e (omega arith)
ascii s.Semicolon b bs after e = same_first b 59 bs after e (omega arith)
ascii s.Star b bs after e = same_first b 42 bs after e (omega arith)
ascii s.Slash b bs after e = same_first b 47 bs after e (omega arith)
ascii s.Percent b bs after e = same_first b 37 bs after e (omega arith)
ascii s.Plus b bs after e = same_first b 43 bs after e (omega arith)
ascii s.Minus b bs after e = same_first b 45 bs after e (omega arith)
ascii s.Tilde b bs after e = same_first b 126 bs after e (omega arith)
ascii s.Ampersand b bs after e = same_first b 38 bs after e (omega arith)
ascii s.Bar b bs after e = same_first b 124 bs after e (omega arith)
ascii s.DoubleBar b bs after e = same_first b 124 bs (124 ∷ after) e (omega arith)
ascii s.Equal b bs after e = same_first b 61 bs after e (omega arith)
ascii s.DoubleEqual b bs after e = same_first b 61 bs (61 ∷ after) e (omega arith)
ascii s.NotEqual b bs after e = same_first b 33 bs (61 ∷ after) e (omega arith)
ascii s.LessGreater b bs after e = same_first b 60 bs (62 ∷ after) e (omega arith)
ascii s.Less b bs after e = same_first b 60 bs after e (omega arith)
ascii s.LessEqual b bs after e = same_first b 60 bs (61 ∷ after) e (omega arith)
ascii s.Greater b bs after e = same_first b 62 bs after e (omega arith)
ascii s.GreaterEqual b bs after e = same_first b 62 bs (61 ∷ after) e (omega arith)

-- the first byte of a sign
pub first_byte : (sign : Sign) (text : List ℕ) → sign_of text ≡ Some sign → (0 < length text) × (get_or text 0 0 < 128)
first_byte sign [] h = absurd cc
first_byte sign (b ∷ bs) h = (omega arith, ascii sign b bs (behind sign bs) (sign_sound b bs sign h).spelt)
