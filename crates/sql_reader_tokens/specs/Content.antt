-- What a token of the program says: its lexeme, and what stands between its quotes.
use Rattle.std.specs.Prelude.{ℕ, Bool, true, false, ◌+◌, ◌*◌, List, [], ◌∷◌, nat_eq, if◌then◌else◌}
use Rattle.std.specs.Str.{str_eq_ignore_ascii_case}
use Rattle.sql_reader_tokens.specs.byte_runs.Bytes.{hex_value}
use Rattle.sql_reader_tokens.specs.Lexeme.{Lexeme}
use Rattle.sql_reader_tokens.specs.Tokens.{Placed}
use Rattle.sql_reader_tokens.specs.declared.token.Quoting.{Quoting}
use Rattle.sql_reader_tokens.specs.declared.token.Quoting.TheVariants as q
use Rattle.sql_reader_tokens.specs.declared.token.Token.{Token}
use Rattle.sql_reader_tokens.specs.declared.token.TokenKind.{TokenKind}
use Rattle.sql_reader_tokens.specs.declared.token.TokenKind.TheVariants as t

-- what is written between quotes, without the second of two quotes; `passed` says whether a first one was just passed
abbrev pub undoubled : ℕ → Bool → List ℕ → List ℕ
undoubled quote passed [] = []
undoubled quote false (b ∷ bs) = b ∷ undoubled quote (nat_eq b quote) bs
undoubled quote true (b ∷ bs) = if nat_eq b quote then undoubled quote false bs else b ∷ undoubled quote (nat_eq b quote) bs

-- the bytes that pairs of hex digits are
abbrev pub unhex : List ℕ → List ℕ
unhex (high ∷ low ∷ bs) = (16 * hex_value high + hex_value low) ∷ unhex bs
unhex _ = []

-- the name that is written so
abbrev pub content_of : Quoting → List ℕ → List ℕ
content_of q.DoubleQuotes inside = undoubled 34 false inside
content_of _ inside = inside

abbrev pub lexeme_of : TokenKind → Lexeme
lexeme_of (t.Number n) = Lexeme.Number n
lexeme_of (t.Text inside) = Lexeme.Text (undoubled 39 false inside.now)
lexeme_of (t.Blob digits) = Lexeme.Blob (unhex digits.now)
lexeme_of (t.Name quoting inside) = Lexeme.Name quoting (content_of quoting inside.now)
lexeme_of (t.Keyword keyword) = Lexeme.Reserved keyword
lexeme_of (t.Sign sign) = Lexeme.Punctuation sign

-- an unquoted name that is this word, without ASCII case
abbrev pub is_bare_word : Lexeme → List ℕ → Bool
is_bare_word (Lexeme.Name q.Bare name) word = str_eq_ignore_ascii_case name word
is_bare_word _ word = false

abbrev pub placed_of : Token → Placed
placed_of t = record { place = t.place; bytes = t.text.now; lexeme = lexeme_of t.kind }
