-- Which bytes are spelt as a list of tokens.
use Rattle.std.specs.Prelude.{◌≡◌, ℕ, ◌+◌, ◌-◌, ◌<◌, List, [], ◌∷◌, length, take}
use Rattle.std.specs.Str.{IsCharBoundary}
use Rattle.values.specs.declared.fault.Fault.{Fault}
use Rattle.values.specs.declared.fault.Fault.TheVariants.{NoMemory, Syntax}
use Rattle.sql_reader_tokens.specs.Lexeme.{Lexeme, Begins, Blank}
use Rattle.sql_reader_tokens.specs.declared.keywords.keyword.Grammar.{Grammar}

-- a token where it stands: how many bytes are before it, and its own bytes
pub record Placed : Type 0 where
  pub place : ℕ
  pub bytes : List ℕ
  pub lexeme : Lexeme

-- the token that stands between two ends of a source of so many bytes
abbrev pub between : ℕ → List ℕ → Lexeme → List ℕ → Placed
between len from lexeme after =
    record { place = len - length from; bytes = take (length from - length after) from; lexeme = lexeme }

-- the text may be cut before the token and behind it
abbrev pub StandsIn : List ℕ → Placed → Type 0
StandsIn text t = IsCharBoundary text t.place × IsCharBoundary text (t.place + length t.bytes)

-- Reads grammar len from tokens after: from, the rest of a source of so many bytes, is these tokens up to where after
-- begins, with spaces and comments anywhere between them
pub data Reads (grammar : Grammar) (len : ℕ) : List ℕ → List Placed → List ℕ → Type 0 where
  none : {from : List ℕ} → Reads grammar len from [] from
  blank : {from mid after : List ℕ} {ts : List Placed} → Blank from mid → Reads grammar len mid ts after
      → Reads grammar len from ts after
  token : {from mid after : List ℕ} {t : Lexeme} {ts : List Placed} → Begins grammar from t mid → Reads grammar len mid ts after
      → Reads grammar len from (between len from t mid ∷ ts) after

-- the text is spelt as these tokens
abbrev pub Tokens : Grammar → List ℕ → List Placed → Type 0
Tokens grammar text ts = Reads grammar (length text) text ts []

-- The text is spelt as tokens up to this place, which isn't its end, and there stand neither a token nor a space nor a
-- comment.
pub record StopsAt (grammar : Grammar) (text : List ℕ) (place : ℕ) : Type 0 where
  pub front : List Placed
  pub rest : List ℕ
  pub read : Reads grammar (length text) text front rest
  pub at : place ≡ length text - length rest
  pub more : 0 < length rest
  pub no_blank : (after : List ℕ) → ¬ (Blank rest after)
  pub no_token : (t : Lexeme) (after : List ℕ) → ¬ (Begins grammar rest t after)

-- why the tokens of a text weren't read: it stops at a place, or memory ran out
abbrev pub HasNoTokens : Grammar → List ℕ → Fault → Type 0
HasNoTokens grammar text (Syntax place) = StopsAt grammar text place
HasNoTokens grammar text NoMemory = Unit {0}
HasNoTokens grammar text _ = ⊥
