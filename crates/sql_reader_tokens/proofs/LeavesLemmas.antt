-- What is behind a token, a space or a comment is the end of what it began, and shorter; the text may be cut there.
use Rattle.std.proofs.Common.{◌≡◌, ℕ, Bool, true, ◌+◌, ◌-◌, ◌<◌, ◌≤◌, List, [], ◌∷◌, ◌++◌, length, take, drop, Some, refl, sym, ap, ◌∙◌, subst, arith, append_assoc, length-append, length-take-le, drop-drop, drop_at}
use Rattle.std.proofs.lemmas.Str.{IsCharBoundary-at_seam, IsCharBoundary-from_drop}
use Rattle.std.proofs.lemmas.Bool.{or_left}
use Rattle.std.specs.Str.{IsUtf8, IsCharBoundary}
use Rattle.sql_reader_tokens.proofs.BlankLemmas.{blank_sound}
use Rattle.sql_reader_tokens.proofs.LexemeLemmas.{sound}
use Rattle.sql_reader_tokens.specs.byte_runs.Bytes.{is_digit, begins_word, is_in_word}
use Rattle.sql_reader_tokens.specs.Lexeme.{Lexeme, Run, Quoted, Hex, Closes, Begins, Blank}
use Rattle.sql_reader_tokens.specs.Reading.{token, blank}
use Rattle.sql_reader_tokens.specs.Sign.{spelling}
use Rattle.sql_reader_tokens.specs.Tokens.{between, StandsIn}
use Rattle.sql_reader_tokens.specs.declared.keywords.keyword.Grammar.{Grammar}
use Rattle.sql_reader_tokens.specs.declared.sign.Sign.{Sign}
use Rattle.sql_reader_tokens.specs.declared.sign.Sign.TheVariants as s

-- after is an end of the bytes
record Ends (bs after : List ℕ) : Type 0 where
  front : List ℕ
  parts : bs ≡ front ++ after

ends_cons : {bs after : List ℕ} (b : ℕ) → Ends bs after → Ends (b ∷ bs) after
ends_cons b e = record { front = b ∷ e.front; parts = ap (λ xs. b ∷ xs) e.parts }

whole : (bs : List ℕ) → Ends bs bs
whole bs = record { front = []; parts = refl }

-- after is an end of the bytes without the first
pub record Leaves (from after : List ℕ) : Type 0 where
  pub first : ℕ
  pub front : List ℕ
  pub parts : from ≡ first ∷ (front ++ after)

leaves : {bs after : List ℕ} (b : ℕ) → Ends bs after → Leaves (b ∷ bs) after
leaves b e = record { first = b; front = e.front; parts = ap (λ xs. b ∷ xs) e.parts }

run_ends : {p : ℕ → Bool} {bs run after : List ℕ} → Run p bs run after → Ends bs after
run_ends Run.end = whole []
run_ends (Run.stop {b = b} {bs = bs} h) = whole (b ∷ bs)
run_ends (Run.more {b = b} h r) = ends_cons b (run_ends r)

run_leaves : {p : ℕ → Bool} {from run after : List ℕ} → Run p from run after → (b : ℕ) (bs : List ℕ) → from ≡ b ∷ bs → p b ≡ true → Leaves from after
run_leaves Run.end b bs e h = absurd cc
run_leaves {p = p} (Run.stop {b = c} k) b bs e h = absurd (let i : c ≡ b = cc in let j = ap p i in cc)
run_leaves (Run.more {b = c} k r) b bs e h = leaves c (run_ends r)

-- one byte more behind the run
past : {bs after : List ℕ} (b : ℕ) → Ends bs (b ∷ after) → Ends bs after
past {after = after} b e = record { front = e.front ++ b ∷ []; parts = e.parts ∙ sym (append_assoc e.front (b ∷ []) after) }

quoted_ends : {q : ℕ} {bs content after : List ℕ} → Quoted q bs content after → Ends bs after
quoted_ends {q = q} (Quoted.close {after = after} h) = ends_cons q (whole after)
quoted_ends {q = q} (Quoted.doubled r) = ends_cons q (ends_cons q (quoted_ends r))
quoted_ends (Quoted.plain {b = b} h r) = ends_cons b (quoted_ends r)

hex_ends : {bs bytes after : List ℕ} → Hex bs bytes after → Ends bs after
hex_ends (Hex.close {after = after} h) = ends_cons 39 (whole after)
hex_ends (Hex.pair {high = high} {low = low} h l r) = ends_cons high (ends_cons low (hex_ends r))

closes_ends : {bs after : List ℕ} → Closes bs after → Ends bs after
closes_ends (Closes.here {after = after}) = ends_cons 42 (ends_cons 47 (whole after))
closes_ends (Closes.later {b = b} h r) = ends_cons b (closes_ends r)

sign_leaves : (sign : Sign) (after : List ℕ) → Leaves (spelling sign ++ after) after
sign_leaves s.Open after = leaves 40 (whole after)
sign_leaves s.Close after = leaves 41 (whole after)
sign_leaves s.Comma after = leaves 44 (whole after)
sign_leaves s.Dot after = leaves 46 (whole after)
sign_leaves s.Semicolon after = leaves 59 (whole after)
sign_leaves s.Star after = leaves 42 (whole after)
sign_leaves s.Slash after = leaves 47 (whole after)
sign_leaves s.Percent after = leaves 37 (whole after)
sign_leaves s.Plus after = leaves 43 (whole after)
sign_leaves s.Minus after = leaves 45 (whole after)
sign_leaves s.Tilde after = leaves 126 (whole after)
sign_leaves s.Ampersand after = leaves 38 (whole after)
sign_leaves s.Bar after = leaves 124 (whole after)
sign_leaves s.DoubleBar after = leaves 124 (ends_cons 124 (whole after))
sign_leaves s.Equal after = leaves 61 (whole after)
sign_leaves s.DoubleEqual after = leaves 61 (ends_cons 61 (whole after))
sign_leaves s.NotEqual after = leaves 33 (ends_cons 61 (whole after))
sign_leaves s.LessGreater after = leaves 60 (ends_cons 62 (whole after))
sign_leaves s.Less after = leaves 60 (whole after)
sign_leaves s.LessEqual after = leaves 60 (ends_cons 61 (whole after))
sign_leaves s.Greater after = leaves 62 (whole after)
sign_leaves s.GreaterEqual after = leaves 62 (ends_cons 61 (whole after))

leaves_word : {run after : List ℕ} (b : ℕ) (bs : List ℕ) → begins_word b ≡ true → Run is_in_word (b ∷ bs) run after → Leaves (b ∷ bs) after
leaves_word b bs h r = run_leaves r b bs refl (or_left (begins_word b) (is_digit b) h)

pub begins_leaves : {grammar : Grammar} {from after : List ℕ} {t : Lexeme} → Begins grammar from t after → Leaves from after
begins_leaves (Begins.number {b = b} {bs = bs} h r st small) = run_leaves r b bs refl h
begins_leaves (Begins.text r) = leaves 39 (quoted_ends r)
begins_leaves (Begins.blob {b = b} h r) = leaves b (ends_cons 39 (hex_ends r))
begins_leaves (Begins.word {b = b} {bs = bs} h w none) = leaves_word b bs h w.run
begins_leaves (Begins.keyword {b = b} {bs = bs} h w some) = leaves_word b bs h w.run
begins_leaves (Begins.in_double_quotes r) = leaves 34 (quoted_ends r)
begins_leaves (Begins.in_brackets r) = leaves 91 (past 93 (run_ends r))
begins_leaves (Begins.in_backquotes r) = leaves 96 (past 96 (run_ends r))
begins_leaves (Begins.punctuation {after = after} {s = s} e st) = subst (λ xs. Leaves xs after) (sym e) (sign_leaves s after)

blank_leaves : {from after : List ℕ} → Blank from after → Leaves from after
blank_leaves (Blank.space {b = b} {bs = bs} h) = leaves b (whole bs)
blank_leaves (Blank.line_comment r) = leaves 45 (ends_cons 45 (run_ends r))
blank_leaves (Blank.block_comment r) = leaves 47 (ends_cons 42 (closes_ends r))

leaves_less : {from after : List ℕ} → Leaves from after → length after < length from
leaves_less {after = after} l = let e = ap length l.parts in omega (arith, length-append l.front after)

-- what a reader found
pub token_less : (grammar : Grammar) (from after : List ℕ) (t : Lexeme) → token grammar from ≡ Some (t, after) → length after < length from
token_less grammar from after t h = leaves_less (begins_leaves (sound grammar from (t, after) h))

pub blank_less : (from after : List ℕ) → blank from ≡ Some after → length after < length from
blank_less from after h = leaves_less (blank_leaves (blank_sound from after h))

-- the text may be cut behind a token
pub token_boundary : (grammar : Grammar) (from after : List ℕ) (t : Lexeme) → IsUtf8 after → token grammar from ≡ Some (t, after) → IsCharBoundary from (length from - length after)
token_boundary grammar from after t u h =
    let l = begins_leaves (sound grammar from (t, after) h) in
    let e = ap length l.parts in
    subst (IsCharBoundary from) (let i : length (l.first ∷ l.front) ≡ length from - length after = omega (arith, length-append l.front after) in i)
    (IsCharBoundary-at_seam from (l.first ∷ l.front) after l.parts u)

leaves_drop : {from after : List ℕ} → Leaves from after → after ≡ drop (length from - length after) from
leaves_drop {from = from} {after = after} l =
    let e = ap length l.parts in
    let n : length (l.first ∷ l.front) ≡ length from - length after = omega (arith, length-append l.front after) in
    sym (ap (drop (length from - length after)) l.parts ∙ drop_at (l.first ∷ l.front) after (length from - length after) n)

-- from is the rest of the text, and after what is behind its front: then after is the rest of the text too
leaves_further : (text from after : List ℕ) → length from ≤ length text → from ≡ drop (length text - length from) text → Leaves from after
    → after ≡ drop (length text - length after) text
leaves_further text from after within e l =
    let less = leaves_less l in
    let n : (length text - length from) + (length from - length after) ≡ length text - length after = omega arith in
    leaves_drop l ∙ (ap (drop (length from - length after)) e
    ∙ (drop-drop (length from - length after) (length text - length from) text ∙ ap (λ k. drop k text) n))

-- what is behind a space or a comment, or a token, is the rest of the text
pub blank_further : (text from after : List ℕ) → length from ≤ length text → from ≡ drop (length text - length from) text → blank from ≡ Some after
    → after ≡ drop (length text - length after) text
blank_further text from after within e h = leaves_further text from after within e (blank_leaves (blank_sound from after h))

pub token_further : (grammar : Grammar) (text from after : List ℕ) (t : Lexeme) → length from ≤ length text → from ≡ drop (length text - length from) text
    → token grammar from ≡ Some (t, after) → after ≡ drop (length text - length after) text
token_further grammar text from after t within e h = leaves_further text from after within e (begins_leaves (sound grammar from (t, after) h))

-- the text may be cut before its rest
rest_boundary : (text rest : List ℕ) → IsUtf8 rest → rest ≡ drop (length text - length rest) text → IsCharBoundary text (length text - length rest)
rest_boundary text rest u e = IsCharBoundary-from_drop text (length text - length rest) (omega arith) (subst IsUtf8 e u)

-- the text may be cut before a token that was read, and behind it
pub token_stands : (grammar : Grammar) (text from after : List ℕ) (t : Lexeme) → IsUtf8 from → IsUtf8 after → length from ≤ length text
    → from ≡ drop (length text - length from) text → token grammar from ≡ Some (t, after) → StandsIn text (between (length text) from t after)
token_stands grammar text from after t u v within e h =
    let less = token_less grammar from after t h in
    let wide = length-take-le (length from - length after) from (omega arith) in
    let n : length text - length after ≡ (length text - length from) + length (take (length from - length after) from) = omega arith in
    (rest_boundary text from u e, subst (IsCharBoundary text) n (rest_boundary text after v (token_further grammar text from after t within e h)))
