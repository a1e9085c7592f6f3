-- The code of values: bytes, of which two rows of values have the same only where they are the same.
use Rattle.std.specs.Prelude.{◌≡◌, ◌<◌, ◌+◌, ◌++◌, ◌∷◌, [], ◌^◌, ℕ, zero, suc, List, flat_map, length}
use Rattle.std.specs.Int.{cast_signed, cast_unsigned, to_le_bytes, w64}
use Rattle.values.specs.Datum.{Datum, blob, int, null, text}
use Rattle.values.specs.Row.{Row}

-- a byte in front of others, unless all are 0
abbrev pub in_front : List ℕ → ℕ → List ℕ
in_front [] zero = []
in_front [] (suc byte) = suc byte ∷ []
in_front (other ∷ bytes) byte = byte ∷ other ∷ bytes

-- bytes up to the last that isn't 0
abbrev pub trimmed : List ℕ → List ℕ
trimmed [] = []
trimmed (byte ∷ bytes) = in_front (trimmed bytes) byte

-- its kind and how many bytes it needs, and behind that these, the least first
abbrev pub number_code : ℕ → ℕ → List ℕ
number_code kind n = (kind + length (trimmed (to_le_bytes w64 n))) ∷ trimmed (to_le_bytes w64 n)

-- a whole number; or of a text or a blob its length and its bytes
abbrev pub code_of : Datum → List ℕ
code_of null = 0 ∷ []
code_of (int n) = number_code 1 (cast_unsigned w64 n)
code_of (text bytes) = number_code 10 (length bytes) ++ bytes
code_of (blob bytes) = number_code 19 (length bytes) ++ bytes

abbrev pub codes_of : Row → List ℕ
codes_of values = flat_map code_of values

-- a value that memory holds: a number of 64 bits, or bytes that 64 bits count
abbrev pub IsHeld : Datum → Type 0
IsHeld null = Unit {0}
IsHeld (int n) = (cast_unsigned w64 n < 2 ^ 64) × (cast_signed w64 (cast_unsigned w64 n) ≡ n)
IsHeld (text bytes) = length bytes < 2 ^ 64
IsHeld (blob bytes) = length bytes < 2 ^ 64
