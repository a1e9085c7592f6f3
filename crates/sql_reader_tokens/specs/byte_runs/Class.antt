-- The kinds of bytes that make runs.
use Rattle.std.specs.Prelude.{ℕ, Bool}
use Rattle.sql_reader_tokens.specs.byte_runs.Bytes.{is_digit, is_in_word, is_hex_digit, is_not}
use Rattle.sql_reader_tokens.specs.declared.byte_runs.runs.Class.{Class}
use Rattle.sql_reader_tokens.specs.declared.byte_runs.runs.Class.TheVariants as c

abbrev pub test_of : Class → ℕ → Bool
test_of c.Word = is_in_word
test_of c.Digit = is_digit
test_of c.HexDigit = is_hex_digit
test_of (c.Not other) = is_not other
