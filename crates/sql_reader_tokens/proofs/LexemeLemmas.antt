-- The reader of tokens finds exactly the token that stands at the front.
use Rattle.std.proofs.Common.{◌≡◌, ℕ, Bool, true, false, ◌&&◌, ◌%◌, ◌^◌, List, [], ◌∷◌, ◌++◌, length, Option, Some, None, cond, nat_eq, nat_lt, refl, sym, ap, ◌∙◌, subst, arith}
use mathlib.Core.Logic.{inl, inr}
use Rattle.std.proofs.lemmas.Bool.Decides.{nat_tests}
use Rattle.std.proofs.lemmas.Bool.{cond-true, cond-false, eqb-true, eq-eqb, lt-ltb, ltb-true, and_left, and_from, and_parts}
use Rattle.std.specs.Prelude.{pos}
use Rattle.sql_reader_tokens.proofs.FormLemmas.{chosen, run_complete, run_sound, stops_true, true_stops, quoted_complete, quoted_sound, closed_complete, hex_complete, hex_sound}
use Rattle.sql_reader_tokens.proofs.SignLemmas.{sign_complete, sign_sound}
use Rattle.sql_reader_tokens.specs.byte_runs.Bytes.{is_digit, begins_word, is_in_word, joins_number, decimal, is_hex_digit, is_x, is_not, first_is}
use Rattle.sql_reader_tokens.specs.Content.{unhex, content_of}
use Rattle.sql_reader_tokens.specs.keywords.Keyword.{keyword_of}
use Rattle.sql_reader_tokens.specs.Lexeme.{Lexeme, Run, Stops, Begins, begins_blob}
use Rattle.sql_reader_tokens.specs.byte_runs.Runs.{Taken, run_of, quoted}
use Rattle.sql_reader_tokens.specs.Reading.{Found, stops, closed, text, name, blob, number, named, word, sign_at, tail, sign, behind, token}
use Rattle.sql_reader_tokens.specs.Sign.{spelling, joins}
use Rattle.sql_reader_tokens.specs.declared.keywords.keyword.Grammar.{Grammar}
use Rattle.sql_reader_tokens.specs.declared.keywords.keyword.Keyword.{Keyword}
use Rattle.sql_reader_tokens.specs.declared.sign.Sign.{Sign}
use Rattle.sql_reader_tokens.specs.declared.sign.Sign.TheVariants as s
use Rattle.sql_reader_tokens.specs.declared.token.Quoting.{Quoting}
use Rattle.sql_reader_tokens.specs.declared.token.Quoting.TheVariants as q

-- no digit begins a word or a blob
digit_begins : (b : ℕ) → is_digit b ≡ true → begins_word b ≡ false
digit_begins b h = grind (arith, nat_tests)

digit_is_no_x : (b : ℕ) → is_digit b ≡ true → is_x b ≡ false
digit_is_no_x b h = grind (arith, nat_tests)

-- a quoted name that isn't empty is found
name_found : (quoting : Quoting) (inside after content : List ℕ) (c : ℕ) → (content_of quoting [] ≡ []) → content_of quoting inside ≡ c ∷ content
    → name quoting (Some (inside, after)) ≡ Some (Lexeme.Name quoting (c ∷ content), after)
name_found quoting [] after content c none h = absurd cc
name_found quoting (d ∷ ds) after content c none h = ap (λ content. Some (Lexeme.Name quoting content, after)) h

sign_found : (grammar : Grammar) (sign : Sign) (after : List ℕ) → Stops (joins sign) after → token grammar (spelling sign ++ after) ≡ Some (Lexeme.Punctuation sign, after)
unfolding token
sign_found grammar s.Open after h = refl
sign_found grammar s.Close after h = refl
sign_found grammar s.Comma after h = refl
sign_found grammar s.Dot after h = refl
sign_found grammar s.Semicolon after h = refl
sign_found grammar s.Star after h = refl
sign_found grammar s.Slash after h = ap (λ o. sign o after) (sign_complete s.Slash after h)
sign_found grammar s.Percent after h = refl
sign_found grammar s.Plus after h = refl
sign_found grammar s.Minus after h = ap (λ o. sign o after) (sign_complete s.Minus after h)
sign_found grammar s.Tilde after h = refl
sign_found grammar s.Ampersand after h = refl
sign_found grammar s.Bar after h = ap (λ o. sign o after) (sign_complete s.Bar after h)
sign_found grammar s.DoubleBar after h = refl
sign_found grammar s.Equal after h = ap (λ o. sign o after) (sign_complete s.Equal after h)
sign_found grammar s.DoubleEqual after h = refl
sign_found grammar s.NotEqual after h = refl
sign_found grammar s.LessGreater after h = refl
sign_found grammar s.Less after h = ap (λ o. sign o after) (sign_complete s.Less after h)
sign_found grammar s.LessEqual after h = refl
sign_found grammar s.Greater after h = ap (λ o. sign o after) (sign_complete s.Greater after h)
sign_found grammar s.GreaterEqual after h = refl

-- what stands at the front is found
pub complete : {grammar : Grammar} {from after : List ℕ} {t : Lexeme} → Begins grammar from t after → token grammar from ≡ Some (t, after)
unfolding token
complete (Begins.number {b = b} {bs = bs} {run = run} {after = after} h r st small) =
    cond-false (begins_blob (b ∷ bs)) _ _ (and_left (is_x b) (first_is 39 bs) (digit_is_no_x b h))
    ∙ (cond-false (begins_word b) _ _ (digit_begins b h)
    ∙ (cond-true (is_digit b) _ _ h
    ∙ (ap number (run_complete r)
    ∙ cond-true (stops joins_number after && nat_lt (decimal run) (2 ^ 63)) _ _ (and_from (stops joins_number after) (nat_lt (decimal run) (2 ^ 63)) (stops_true st) (lt-ltb _ _ small)))))
complete (Begins.text {after = after} r) =
    let x = quoted_complete r in ap text x.found ∙ ap (λ content. Some (Lexeme.Text content, after)) x.content_is
complete (Begins.blob {b = b} {bs = bs} {after = after} h r) =
    let x = hex_complete r in
    cond-true (begins_blob (b ∷ 39 ∷ bs)) _ _ (and_from (is_x b) true h refl)
    ∙ (ap blob (run_complete x.run)
    ∙ (cond-true (nat_eq (length x.digits % 2) 0 && stops (λ c. nat_eq c 39) after) _ _
    (and_from (nat_eq (length x.digits % 2) 0) (stops (λ c. nat_eq c 39) after) (eq-eqb _ _ x.even) (stops_true x.apart))
    ∙ ap (λ bytes. Some (Lexeme.Blob bytes, after)) x.bytes_are))
complete {grammar = grammar} (Begins.word {b = b} {bs = bs} {run = run} {after = after} h w none) =
    cond-false (begins_blob (b ∷ bs)) _ _ w.no_blob
    ∙ (cond-true (begins_word b) _ _ h
    ∙ (ap (word grammar) (run_complete w.run)
    ∙ ap (λ o. Some (named run o, after)) none))
complete {grammar = grammar} (Begins.keyword {b = b} {bs = bs} {run = run} {after = after} h w some) =
    cond-false (begins_blob (b ∷ bs)) _ _ w.no_blob
    ∙ (cond-true (begins_word b) _ _ h
    ∙ (ap (word grammar) (run_complete w.run)
    ∙ ap (λ o. Some (named run o, after)) some))
complete (Begins.in_double_quotes {c = c} {content = content} {after = after} r) =
    let x = quoted_complete r in ap (name q.DoubleQuotes) x.found ∙ name_found q.DoubleQuotes x.inside after content c refl x.content_is
complete (Begins.in_brackets r) = ap (name q.Brackets) (closed_complete 93 r)
complete (Begins.in_backquotes r) = ap (name q.Backquotes) (closed_complete 96 r)
complete {grammar = grammar} (Begins.punctuation {after = after} {s = s} e st) = ap (token grammar) e ∙ sign_found grammar s after st

abbrev BeginsAt : Grammar → List ℕ → Lexeme × List ℕ → Type 0
BeginsAt grammar bs x = Begins grammar bs x.0 x.1

some_inj : (x y : Lexeme × List ℕ) → Some x ≡ Some y → x ≡ y
some_inj x y h = cc

-- what a test that must hold lets through
held : (b : Bool) (x y : Lexeme × List ℕ) → cond b (Some x) None ≡ Some y → (b ≡ true) × (x ≡ y)
held true x y h = (refl, some_inj x y h)
held false x y h = absurd cc

number_sound : (grammar : Grammar) (b : ℕ) (bs : List ℕ) (x : Lexeme × List ℕ) → is_digit b ≡ true → number (run_of is_digit (b ∷ bs)) ≡ Some x → BeginsAt grammar (b ∷ bs) x
number_sound grammar b bs x d h =
    let r = run_of is_digit (b ∷ bs) in
    let k = held (stops joins_number r.1 && nat_lt (decimal r.0) (2 ^ 63)) (Lexeme.Number (pos (decimal r.0)), r.1) x h in
    let parts = and_parts (stops joins_number r.1) (nat_lt (decimal r.0) (2 ^ 63)) k.0 in
    subst (BeginsAt grammar (b ∷ bs)) k.1 (Begins.number d (run_sound is_digit (b ∷ bs)) (true_stops joins_number r.1 parts.0) (ltb-true _ _ parts.1))

text_sound : (grammar : Grammar) (bs : List ℕ) (o : Option Taken) (x : Lexeme × List ℕ) → quoted 39 false bs ≡ o → text o ≡ Some x → BeginsAt grammar (39 ∷ bs) x
text_sound grammar bs None x i h = absurd cc
text_sound grammar bs (Some r) x i h = subst (BeginsAt grammar (39 ∷ bs)) (some_inj _ x h) (Begins.text (quoted_sound 39 bs r i))

double_quotes_sound : (grammar : Grammar) (bs : List ℕ) (o : Option Taken) (x : Lexeme × List ℕ) → quoted 34 false bs ≡ o → name q.DoubleQuotes o ≡ Some x → BeginsAt grammar (34 ∷ bs) x
double_quotes_sound grammar bs None x i h = absurd cc
double_quotes_sound grammar bs (Some ([], after)) x i h = absurd cc
double_quotes_sound grammar bs (Some (c ∷ inside, after)) x i h =
    subst (BeginsAt grammar (34 ∷ bs)) (some_inj _ x h) (Begins.in_double_quotes (quoted_sound 34 bs (c ∷ inside, after) i))

-- a run before a closing byte, and the byte
closing : (c : ℕ) (bs : List ℕ) (r : Taken) (x : List ℕ × List ℕ) → run_of (is_not c) bs ≡ r → closed r ≡ Some x → (d : ℕ) × (Run (is_not c) bs x.0 (d ∷ x.1))
closing c bs (run, []) x i h = absurd cc
closing c bs (run, d ∷ after) x i h =
    let same : (run, after) ≡ x = (let k : Some (let p : List ℕ × List ℕ = (run, after) in p) ≡ Some x = h in cc) in
    (d, subst (λ (p : List ℕ × List ℕ). Run (is_not c) bs p.0 (d ∷ p.1)) same (subst (λ (p : List ℕ × List ℕ). Run (is_not c) bs p.0 p.1) i (run_sound (is_not c) bs)))

stopped : {p : ℕ → Bool} {bs run rest : List ℕ} → Run p bs run rest → (d : ℕ) (after : List ℕ) → rest ≡ d ∷ after → p d ≡ false
stopped Run.end d after e = absurd cc
stopped {p = p} (Run.stop {b = b} h) d after e = subst (λ c. p c ≡ false) (let i : b ≡ d = cc in i) h
stopped (Run.more h r) d after e = stopped r d after e

pub is_it : (c d : ℕ) → is_not c d ≡ false → d ≡ c
is_it c d h = grind (arith, nat_tests)

closing_is : (c : ℕ) (bs : List ℕ) (x : List ℕ × List ℕ) → closed (run_of (is_not c) bs) ≡ Some x → Run (is_not c) bs x.0 (c ∷ x.1)
closing_is c bs x h =
    let k = closing c bs (run_of (is_not c) bs) x refl h in
    subst (λ d. Run (is_not c) bs x.0 (d ∷ x.1)) (is_it c k.0 (stopped k.1 k.0 x.1 refl)) k.1

brackets_sound : (grammar : Grammar) (bs : List ℕ) (o : Option Taken) (x : Lexeme × List ℕ) → closed (run_of (is_not 93) bs) ≡ o → name q.Brackets o ≡ Some x → BeginsAt grammar (91 ∷ bs) x
brackets_sound grammar bs None x i h = absurd cc
brackets_sound grammar bs (Some ([], after)) x i h = absurd cc
brackets_sound grammar bs (Some (c ∷ inside, after)) x i h =
    subst (BeginsAt grammar (91 ∷ bs)) (some_inj _ x h) (Begins.in_brackets (closing_is 93 bs (c ∷ inside, after) i))

backquotes_sound : (grammar : Grammar) (bs : List ℕ) (o : Option Taken) (x : Lexeme × List ℕ) → closed (run_of (is_not 96) bs) ≡ o → name q.Backquotes o ≡ Some x → BeginsAt grammar (96 ∷ bs) x
backquotes_sound grammar bs None x i h = absurd cc
backquotes_sound grammar bs (Some ([], after)) x i h = absurd cc
backquotes_sound grammar bs (Some (c ∷ inside, after)) x i h =
    subst (BeginsAt grammar (96 ∷ bs)) (some_inj _ x h) (Begins.in_backquotes (closing_is 96 bs (c ∷ inside, after) i))

word_sound : (grammar : Grammar) (b : ℕ) (bs : List ℕ) (o : Option Keyword) (x : Lexeme × List ℕ) → begins_word b ≡ true → begins_blob (b ∷ bs) ≡ false
    → (let r = run_of is_in_word (b ∷ bs) in keyword_of grammar r.0 ≡ o → Some (let p : Lexeme × List ℕ = (named r.0 o, r.1) in p) ≡ Some x → BeginsAt grammar (b ∷ bs) x)
word_sound grammar b bs None x w n k h =
    subst (BeginsAt grammar (b ∷ bs)) (some_inj _ x h) (Begins.word w (record { run = run_sound is_in_word (b ∷ bs); no_blob = n }) k)
word_sound grammar b bs (Some keyword) x w n k h =
    subst (BeginsAt grammar (b ∷ bs)) (some_inj _ x h) (Begins.keyword w (record { run = run_sound is_in_word (b ∷ bs); no_blob = n }) k)

blob_closes : (grammar : Grammar) (b : ℕ) (bs : List ℕ) (r : Taken) (x : Lexeme × List ℕ) → is_x b ≡ true → run_of is_hex_digit bs ≡ r → blob r ≡ Some x → BeginsAt grammar (b ∷ 39 ∷ bs) x
blob_closes grammar b bs (digits, []) x w i h = absurd cc
blob_closes grammar b bs (digits, d ∷ after) x w i h =
    let k = held (nat_eq d 39 && (nat_eq (length digits % 2) 0 && stops (λ c. nat_eq c 39) after)) (Lexeme.Blob (unhex digits), after) x h in
    let quote = and_parts (nat_eq d 39) (nat_eq (length digits % 2) 0 && stops (λ c. nat_eq c 39) after) k.0 in
    let rest = and_parts (nat_eq (length digits % 2) 0) (stops (λ c. nat_eq c 39) after) quote.1 in
    let run = subst (λ (p : List ℕ × List ℕ). Run is_hex_digit bs p.0 p.1) i (run_sound is_hex_digit bs) in
    subst (BeginsAt grammar (b ∷ 39 ∷ bs)) k.1
    (Begins.blob w (hex_sound run after (ap (λ e. e ∷ after) (eqb-true d 39 quote.0)) (eqb-true _ _ rest.0) (true_stops (λ c. nat_eq c 39) after rest.1)))

blob_sound : (grammar : Grammar) (b : ℕ) (bs : List ℕ) (x : Lexeme × List ℕ) → begins_blob (b ∷ bs) ≡ true → blob (run_of is_hex_digit (tail bs)) ≡ Some x → BeginsAt grammar (b ∷ bs) x
blob_sound grammar b [] x n h = absurd (let k = (and_parts (is_x b) false n).1 in cc)
blob_sound grammar b (c ∷ cs) x n h =
    let k = and_parts (is_x b) (nat_eq c 39) n in
    subst (λ d. BeginsAt grammar (b ∷ d ∷ cs) x) (sym (eqb-true c 39 k.1)) (blob_closes grammar b cs (run_of is_hex_digit cs) x k.0 refl h)

sign_is : (grammar : Grammar) (b : ℕ) (bs : List ℕ) (o : Option Sign) (x : Lexeme × List ℕ) → sign_at b bs ≡ o → sign o bs ≡ Some x → BeginsAt grammar (b ∷ bs) x
sign_is grammar b bs None x i h = absurd cc
sign_is grammar b bs (Some s) x i h =
    let k = sign_sound b bs s i in
    subst (BeginsAt grammar (b ∷ bs)) (some_inj (Lexeme.Punctuation s, behind s bs) x h) (Begins.punctuation k.spelt k.apart)

-- the forms that begin with one byte of their own
try_byte : (grammar : Grammar) (c b : ℕ) (bs : List ℕ) (x : Lexeme × List ℕ) (here other : Found) → cond (nat_eq b c) here other ≡ Some x
    → (here ≡ Some x → BeginsAt grammar (c ∷ bs) x) → (other ≡ Some x → BeginsAt grammar (b ∷ bs) x) → BeginsAt grammar (b ∷ bs) x
try_byte grammar c b bs x here other h f g = elim (chosen (nat_eq b c) here other (Some x) h) [
  | inl k ↦ subst (λ a. BeginsAt grammar (a ∷ bs) x) (sym (eqb-true b c k.0)) (f k.1)
  | inr k ↦ g k.1
]

-- what is found stands at the front
pub sound : (grammar : Grammar) (from : List ℕ) (x : Lexeme × List ℕ) → token grammar from ≡ Some x → Begins grammar from x.0 x.1
unfolding token
sound grammar [] x h = absurd cc
sound grammar (b ∷ bs) x h = elim (chosen (begins_blob (b ∷ bs)) (blob (run_of is_hex_digit (tail bs))) _ (Some x) h) [
  | inl k ↦ blob_sound grammar b bs x k.0 k.1
  | inr n ↦ elim (chosen (begins_word b) (word grammar (run_of is_in_word (b ∷ bs))) _ (Some x) n.1) [
    | inl k ↦ word_sound grammar b bs (keyword_of grammar (run_of is_in_word (b ∷ bs)).0) x k.0 n.0 refl k.1
    | inr k ↦ elim (chosen (is_digit b) (number (run_of is_digit (b ∷ bs))) _ (Some x) k.1) [
      | inl j ↦ number_sound grammar b bs x j.0 j.1
      | inr j ↦
          try_byte grammar 39 b bs x _ _ j.1 (text_sound grammar bs (quoted 39 false bs) x refl) (λ h.
          try_byte grammar 34 b bs x _ _ h (double_quotes_sound grammar bs (quoted 34 false bs) x refl) (λ h.
          try_byte grammar 91 b bs x _ _ h (brackets_sound grammar bs (closed (run_of (is_not 93) bs)) x refl) (λ h.
          try_byte grammar 96 b bs x _ _ h (backquotes_sound grammar bs (closed (run_of (is_not 96) bs)) x refl) (λ h.
          sign_is grammar b bs (sign_at b bs) x refl h))))
    ]
  ]
]
