-- The source text of a phrase, and where a text may be cut.
use Rattle.std.specs.Prelude.{◌+◌, ◌-◌, ℕ, All, List, [], drop, length, map, slice_get, take, Option, Some}
use Rattle.sql_reader_tokens.specs.Content.{placed_of}
use Rattle.sql_reader_tokens.specs.Tokens.{Placed, StandsIn}
use Rattle.sql_reader_tokens.specs.declared.token.Token.{Token}

-- the bytes of a text from the beginning of one token to the end of another
abbrev pub reach : List ℕ → Option Placed → Option Placed → List ℕ
reach text (Some first) (Some last) = drop first.place (take (last.place + length last.bytes) text)
reach text _ _ = []

-- The source text of a phrase of a text that is spelt as these tokens: from its first token to its last. So many tokens are
-- left at its beginning, and so many behind it.
abbrev pub source_text : List ℕ → List Placed → ℕ → ℕ → List ℕ
source_text text tokens left behind =
    reach text (slice_get tokens (length tokens - left)) (slice_get tokens (length tokens - behind - 1))

-- the text may be cut before each of the tokens and behind it
abbrev pub AreCut : List ℕ → List Token → Type 0
AreCut text tokens = All (λ t. StandsIn text (placed_of t)) tokens

-- the same of tokens of the program
abbrev pub source_of : List ℕ → List Token → ℕ → ℕ → List ℕ
source_of text tokens = source_text text (map placed_of tokens)
