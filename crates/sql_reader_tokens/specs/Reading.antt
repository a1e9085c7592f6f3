-- What a reader that goes from left to right makes of bytes. No public clause cites it: proofs show that it finds what
-- the definitions of `Lexeme` say, and nothing else.
use Rattle.std.specs.Prelude.{ℕ, Bool, true, false, not, ◌&&◌, ◌%◌, ◌^◌, pos, List, [], ◌∷◌, length, Option, Some, None, nat_eq, nat_lt, if◌then◌else◌}
use Rattle.sql_reader_tokens.specs.byte_runs.Bytes.{is_digit, begins_word, is_in_word, joins_number, decimal, is_hex_digit, is_space, is_not}
use Rattle.sql_reader_tokens.specs.byte_runs.Runs.{Taken, quoted, run_of}
use Rattle.sql_reader_tokens.specs.Content.{undoubled, unhex, content_of}
use Rattle.sql_reader_tokens.specs.keywords.Keyword.{keyword_of}
use Rattle.sql_reader_tokens.specs.Lexeme.{Lexeme, begins_blob, ends_comment}
use Rattle.sql_reader_tokens.specs.declared.keywords.keyword.Grammar.{Grammar}
use Rattle.sql_reader_tokens.specs.declared.keywords.keyword.Keyword.{Keyword}
use Rattle.sql_reader_tokens.specs.declared.sign.Sign.{Sign}
use Rattle.sql_reader_tokens.specs.declared.sign.Sign.TheVariants as s
use Rattle.sql_reader_tokens.specs.declared.token.Quoting.{Quoting}
use Rattle.sql_reader_tokens.specs.declared.token.Quoting.TheVariants as q

abbrev pub stops : (ℕ → Bool) → List ℕ → Bool
stops p [] = true
stops p (b ∷ bs) = not (p b)

-- what stands before a closing byte, if one comes
abbrev pub closed : Taken → Option Taken
closed (run, []) = None
closed (run, b ∷ bs) = Some (run, bs)

abbrev pub Found : Type 0
Found = Option (Lexeme × List ℕ)

abbrev pub text : Option Taken → Found
text None = None
text (Some r) = Some (Lexeme.Text (undoubled 39 false r.0), r.1)

-- a quoted name, which isn't empty
abbrev pub name : Quoting → Option Taken → Found
name quoting None = None
name quoting (Some ([], after)) = None
name quoting (Some (c ∷ inside, after)) = Some (Lexeme.Name quoting (content_of quoting (c ∷ inside)), after)

-- hex digits, and a closing quote that no quote follows
abbrev pub blob : Taken → Found
blob (digits, []) = None
blob (digits, b ∷ after) =
    if nat_eq b 39 && (nat_eq (length digits % 2) 0 && stops (λ c. nat_eq c 39) after) then Some (Lexeme.Blob (unhex digits), after) else None

abbrev pub number : Taken → Found
number r = if stops joins_number r.1 && nat_lt (decimal r.0) (2 ^ 63) then Some (Lexeme.Number (pos (decimal r.0)), r.1) else None

abbrev pub named : List ℕ → Option Keyword → Lexeme
named run None = Lexeme.Name q.Bare run
named run (Some k) = Lexeme.Reserved k

abbrev pub word : Grammar → Taken → Found
word grammar r = Some (named r.0 (keyword_of grammar r.0), r.1)

-- one sign or a longer one, by what follows
abbrev pub longer : ℕ → Option Sign → Option Sign → List ℕ → Option Sign
longer c two one [] = one
longer c two one (b ∷ bs) = if nat_eq b c then two else one

abbrev pub sign_at : ℕ → List ℕ → Option Sign
sign_at b bs =
    if nat_eq b 40 then Some s.Open
    else (if nat_eq b 41 then Some s.Close
    else (if nat_eq b 44 then Some s.Comma
    else (if nat_eq b 46 then Some s.Dot
    else (if nat_eq b 59 then Some s.Semicolon
    else (if nat_eq b 42 then Some s.Star
    else (if nat_eq b 47 then longer 42 None (Some s.Slash) bs
    else (if nat_eq b 37 then Some s.Percent
    else (if nat_eq b 43 then Some s.Plus
    else (if nat_eq b 45 then longer 45 None (Some s.Minus) bs
    else (if nat_eq b 126 then Some s.Tilde
    else (if nat_eq b 38 then Some s.Ampersand
    else (if nat_eq b 124 then longer 124 (Some s.DoubleBar) (Some s.Bar) bs
    else (if nat_eq b 61 then longer 61 (Some s.DoubleEqual) (Some s.Equal) bs
    else (if nat_eq b 33 then longer 61 (Some s.NotEqual) None bs
    else (if nat_eq b 60 then longer 62 (Some s.LessGreater) (longer 61 (Some s.LessEqual) (Some s.Less) bs) bs
    else (if nat_eq b 62 then longer 61 (Some s.GreaterEqual) (Some s.Greater) bs
    else None))))))))))))))))

-- whether a sign is longer than one byte
abbrev pub is_long : Sign → Bool
is_long s.DoubleBar = true
is_long s.DoubleEqual = true
is_long s.NotEqual = true
is_long s.LessGreater = true
is_long s.LessEqual = true
is_long s.GreaterEqual = true
is_long _ = false

abbrev pub tail : List ℕ → List ℕ
tail [] = []
tail (b ∷ bs) = bs

-- what is behind a sign, by what is behind its first byte
abbrev pub behind : Sign → List ℕ → List ℕ
behind s bs = if is_long s then tail bs else bs

-- the sign that the bytes begin with
abbrev pub sign_of : List ℕ → Option Sign
sign_of [] = None
sign_of (b ∷ bs) = sign_at b bs

abbrev pub sign : Option Sign → List ℕ → Found
sign None bs = None
sign (Some s) bs = Some (Lexeme.Punctuation s, behind s bs)

-- the token at the front, and what is behind it
unfoldable pub token : Grammar → List ℕ → Found
token grammar [] = None
token grammar (b ∷ bs) =
    if begins_blob (b ∷ bs) then blob (run_of is_hex_digit (tail bs))
    else (if begins_word b then word grammar (run_of is_in_word (b ∷ bs))
    else (if is_digit b then number (run_of is_digit (b ∷ bs))
    else (if nat_eq b 39 then text (quoted 39 false bs)
    else (if nat_eq b 34 then name q.DoubleQuotes (quoted 34 false bs)
    else (if nat_eq b 91 then name q.Brackets (closed (run_of (is_not 93) bs))
    else (if nat_eq b 96 then name q.Backquotes (closed (run_of (is_not 96) bs))
    else sign (sign_at b bs) bs))))))

-- what is behind the end of a comment
abbrev pub after_comment : List ℕ → Option (List ℕ)
after_comment [] = None
after_comment (b ∷ bs) = if ends_comment (b ∷ bs) then Some (tail bs) else after_comment bs

abbrev pub line_comment : List ℕ → Option (List ℕ)
line_comment [] = None
line_comment (b ∷ bs) = if nat_eq b 45 then Some (run_of (is_not 10) bs).1 else None

abbrev pub block_comment : List ℕ → Option (List ℕ)
block_comment [] = None
block_comment (b ∷ bs) = if nat_eq b 42 then after_comment bs else None

-- what is behind the space or the comment at the front
unfoldable pub blank : List ℕ → Option (List ℕ)
blank [] = None
blank (b ∷ bs) =
    if is_space b then Some bs
    else (if nat_eq b 45 then line_comment bs
    else (if nat_eq b 47 then block_comment bs
    else None))
