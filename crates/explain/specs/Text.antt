-- Rows as text: a line for each, of its values as quote(X) of SQLite writes them, with commas between.
-- (Built-In Scalar SQL Functions, "quote(X)")
use Rattle.std.specs.Prelude.{ℕ, List, [], ◌∷◌, ◌++◌, map, FitsSigned, ⊤}
use Rattle.std.specs.Int.{w64}
use Rattle.std.specs.List.{flat_map, join_with_byte}
use Rattle.values.specs.Datum.{Datum, null, int, text, blob}
use Rattle.values.specs.Literal.{literal}
use Rattle.values.specs.Row.{Row}

-- the literals of a row with commas between them, and a line feed
abbrev pub row_text : Row → List ℕ
row_text row = join_with_byte 44 (map literal row) ++ 10 ∷ []

abbrev pub rows_text : List Row → List ℕ
rows_text rows = flat_map row_text rows

-- a value behind a comma
abbrev pub after_comma : Datum → List ℕ
after_comma value = 44 ∷ literal value

-- a whole number has 64 bits
abbrev pub IsInRange : Datum → Type 0
IsInRange null = ⊤
IsInRange (int number) = FitsSigned w64 number
IsInRange (text _) = ⊤
IsInRange (blob _) = ⊤
