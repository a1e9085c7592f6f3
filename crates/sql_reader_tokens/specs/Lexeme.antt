-- Which bytes are a token, and which stand between tokens. Each rule says what may not follow, so that a token is as
-- long as can be.
use Rattle.std.specs.Prelude.{◌≡◌, ℕ, Bool, true, false, ◌&&◌, ◌<◌, ◌+◌, ◌*◌, ◌^◌, ℤ, pos, List, [], ◌∷◌, ◌++◌, nat_eq, Some, None}
use Rattle.sql_reader_tokens.specs.byte_runs.Bytes.{is_digit, begins_word, is_in_word, joins_number, decimal, is_hex_digit, hex_value, is_x, is_space, is_not, first_is}
use Rattle.sql_reader_tokens.specs.keywords.Keyword.{keyword_of}
use Rattle.sql_reader_tokens.specs.Sign as sign
use Rattle.sql_reader_tokens.specs.declared.keywords.keyword.Grammar.{Grammar}
use Rattle.sql_reader_tokens.specs.declared.keywords.keyword.Keyword.{Keyword}
use Rattle.sql_reader_tokens.specs.declared.sign.Sign.{Sign}
use Rattle.sql_reader_tokens.specs.declared.token.Quoting.{Quoting}
use Rattle.sql_reader_tokens.specs.declared.token.Quoting.TheVariants as q

-- what a token says, without where it stands
pub data Lexeme : Type 0 where
  Number : ℤ → Lexeme
  Text : List ℕ → Lexeme
  Blob : List ℕ → Lexeme
  Name : Quoting → List ℕ → Lexeme
  Reserved : Keyword → Lexeme
  Punctuation : Sign → Lexeme

-- Run p from run after: the longest run of bytes with p at the front of from, and what is behind it
pub data Run (p : ℕ → Bool) : List ℕ → List ℕ → List ℕ → Type 0 where
  end : Run p [] [] []
  stop : {b : ℕ} {bs : List ℕ} → p b ≡ false → Run p (b ∷ bs) [] (b ∷ bs)
  more : {b : ℕ} {bs run after : List ℕ} → p b ≡ true → Run p bs run after → Run p (b ∷ bs) (b ∷ run) after

-- no byte with p stands at the front
pub data Stops (p : ℕ → Bool) : List ℕ → Type 0 where
  at_end : Stops p []
  at_byte : {b : ℕ} {bs : List ℕ} → p b ≡ false → Stops p (b ∷ bs)

-- Quoted quote from content after: behind an opening quote, what stands up to the closing one, where a quote inside is
-- written twice, and what is behind
pub data Quoted (quote : ℕ) : List ℕ → List ℕ → List ℕ → Type 0 where
  close : {after : List ℕ} → Stops (λ b. nat_eq b quote) after → Quoted quote (quote ∷ after) [] after
  doubled : {bs content after : List ℕ} → Quoted quote bs content after → Quoted quote (quote ∷ quote ∷ bs) (quote ∷ content) after
  plain : {b : ℕ} {bs content after : List ℕ} → nat_eq b quote ≡ false → Quoted quote bs content after → Quoted quote (b ∷ bs) (b ∷ content) after

-- Hex from bytes after: behind an opening quote, pairs of hex digits up to the closing one, and what is behind
pub data Hex : List ℕ → List ℕ → List ℕ → Type 0 where
  close : {after : List ℕ} → Stops (λ b. nat_eq b 39) after → Hex (39 ∷ after) [] after
  pair : {high low : ℕ} {bs bytes after : List ℕ} → is_hex_digit high ≡ true → is_hex_digit low ≡ true → Hex bs bytes after
      → Hex (high ∷ low ∷ bs) ((16 * hex_value high + hex_value low) ∷ bytes) after

-- `x` before a quote begins a blob
abbrev pub begins_blob : List ℕ → Bool
begins_blob [] = false
begins_blob (b ∷ bs) = is_x b && first_is 39 bs

-- an unquoted word at the front of from, and what is behind it
pub record Word (from word after : List ℕ) : Type 0 where
  pub run : Run is_in_word from word after
  pub no_blob : begins_blob from ≡ false

-- Begins grammar from token after: the token at the front of from, and what is behind it
pub data Begins (grammar : Grammar) : List ℕ → Lexeme → List ℕ → Type 0 where
  -- Literal Values
  number : {b : ℕ} {bs run after : List ℕ} → is_digit b ≡ true → Run is_digit (b ∷ bs) run after → Stops joins_number after
      → decimal run < 2 ^ 63 → Begins grammar (b ∷ bs) (Number (pos (decimal run))) after
  text : {bs content after : List ℕ} → Quoted 39 bs content after → Begins grammar (39 ∷ bs) (Text content) after
  blob : {b : ℕ} {bs bytes after : List ℕ} → is_x b ≡ true → Hex bs bytes after → Begins grammar (b ∷ 39 ∷ bs) (Blob bytes) after
  -- SQLite Keywords
  word : {b : ℕ} {bs run after : List ℕ} → begins_word b ≡ true → Word (b ∷ bs) run after → keyword_of grammar run ≡ None
      → Begins grammar (b ∷ bs) (Name q.Bare run) after
  keyword : {b : ℕ} {bs run after : List ℕ} {k : Keyword} → begins_word b ≡ true → Word (b ∷ bs) run after
      → keyword_of grammar run ≡ Some k → Begins grammar (b ∷ bs) (Reserved k) after
  in_double_quotes : {c : ℕ} {bs content after : List ℕ} → Quoted 34 bs (c ∷ content) after
      → Begins grammar (34 ∷ bs) (Name q.DoubleQuotes (c ∷ content)) after
  in_brackets : {c : ℕ} {bs content after : List ℕ} → Run (is_not 93) bs (c ∷ content) (93 ∷ after)
      → Begins grammar (91 ∷ bs) (Name q.Brackets (c ∷ content)) after
  in_backquotes : {c : ℕ} {bs content after : List ℕ} → Run (is_not 96) bs (c ∷ content) (96 ∷ after)
      → Begins grammar (96 ∷ bs) (Name q.Backquotes (c ∷ content)) after
  -- operators and punctuation
  punctuation : {from after : List ℕ} {s : Sign} → from ≡ sign.spelling s ++ after → Stops (sign.joins s) after
      → Begins grammar from (Punctuation s) after

-- the bytes begin with `*/`
abbrev pub ends_comment : List ℕ → Bool
ends_comment [] = false
ends_comment (b ∷ bs) = nat_eq b 42 && first_is 47 bs

-- Closes from after: what is behind the first `*/`
pub data Closes : List ℕ → List ℕ → Type 0 where
  here : {after : List ℕ} → Closes (42 ∷ 47 ∷ after) after
  later : {b : ℕ} {bs after : List ℕ} → ends_comment (b ∷ bs) ≡ false → Closes bs after → Closes (b ∷ bs) after

-- Blank from after: one space or one comment at the front of from, and what is behind it (SQL Comment Syntax)
pub data Blank : List ℕ → List ℕ → Type 0 where
  space : {b : ℕ} {bs : List ℕ} → is_space b ≡ true → Blank (b ∷ bs) bs
  line_comment : {bs comment after : List ℕ} → Run (is_not 10) bs comment after → Blank (45 ∷ 45 ∷ bs) after
  block_comment : {bs after : List ℕ} → Closes bs after → Blank (47 ∷ 42 ∷ bs) after
