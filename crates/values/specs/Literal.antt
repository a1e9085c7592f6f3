-- Values as SQL literals. (SQL Language Expressions, "Literal Values (Constants)")
use Rattle.std.specs.Prelude.{ℕ, ◌+◌, ◌/◌, ◌%◌, ◌==◌, nat_lt, List, [], ◌∷◌, ◌++◌, codes, if◌then◌else◌}
use Rattle.std.specs.List.{flat_map}
use Rattle.std.specs.Fmt.{signed_decimal}
use Rattle.values.specs.Datum.{Datum, null, int, text, blob}

-- a quote is doubled
abbrev pub quoted : ℕ → List ℕ
quoted byte = if byte == 39 then 39 ∷ 39 ∷ [] else byte ∷ []

abbrev pub quoted_all : List ℕ → List ℕ
quoted_all bytes = flat_map quoted bytes

-- 0 to 9, then A to F
abbrev pub hex_digit : ℕ → ℕ
hex_digit n = if nat_lt n 10 then n + 48 else n + 55

abbrev pub hex : ℕ → List ℕ
hex byte = hex_digit (byte / 16) ∷ hex_digit (byte % 16) ∷ []

abbrev pub hex_all : List ℕ → List ℕ
hex_all bytes = flat_map hex bytes

-- `NULL`, a decimal number, a text in single quotes, a blob as X'0AFF'
abbrev pub literal : Datum → List ℕ
literal null = codes "NULL"
literal (int n) = signed_decimal n
literal (text bytes) = codes "'" ++ quoted_all bytes ++ codes "'"
literal (blob bytes) = codes "X'" ++ hex_all bytes ++ codes "'"
