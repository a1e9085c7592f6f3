-- Serial types, and the values that bodies of them are. (Database File Format, section 2.1)
use Rattle.std.specs.Prelude.{◌≡◌, ◌⊎◌, ◌<◌, ◌≤ℤ◌, ◌<ℤ◌, ℕ, ◌+◌, ◌-◌, ◌*◌, ◌/◌, ℤ, pos, negsuc, List, [], ◌∷◌, ◌++◌, length, slice_index, nat_lt, if◌then◌else◌, IsUtf8}
use Rattle.byteorder.specs.Endian.{big_number, twos_complement}
use Rattle.values.specs.Datum.{Datum, null, int, text, blob}
use Rattle.records.specs.declared.fault.RecordFault.{RecordFault}
use Rattle.records.specs.declared.fault.RecordFault.TheVariants.{Bad, Float, Text, NoMemory}

-- how many bytes the body of each type takes; none where the type is reserved
abbrev pub body_len : ℤ → ℕ
body_len (pos n) =
    if nat_lt n 12 then slice_index (0 ∷ 1 ∷ 2 ∷ 3 ∷ 4 ∷ 6 ∷ 8 ∷ 8 ∷ 0 ∷ 0 ∷ 0 ∷ 0 ∷ []) n else (n - 12) / 2
body_len (negsuc n) = 0

-- the number that the bytes are, the most significant first, in two's complement
abbrev pub big_endian : List ℕ → ℤ
big_endian body = twos_complement (length body) (big_number (length body) body)

-- A body of this type is this value: one rule for each row of the table. Type 7, a float, has no value
-- here; types 10, 11 and those below 0 have none at all.
pub data IsField (serial : ℤ) (body : List ℕ) (value : Datum) : Type 0 where
  is_null : serial ≡ pos 0 → body ≡ [] → value ≡ null → IsField serial body value
  is_int : pos 1 ≤ℤ serial → serial ≤ℤ pos 6 → length body ≡ body_len serial → value ≡ int (big_endian body)
      → IsField serial body value
  is_zero : serial ≡ pos 8 → body ≡ [] → value ≡ int (pos 0) → IsField serial body value
  is_one : serial ≡ pos 9 → body ≡ [] → value ≡ int (pos 1) → IsField serial body value
  is_blob : serial ≡ pos (12 + 2 * length body) → value ≡ blob body → IsField serial body value
  is_text : serial ≡ pos (13 + 2 * length body) → IsUtf8 body → value ≡ text body → IsField serial body value

-- types that stand for nothing
pub data IsReserved (serial : ℤ) : Type 0 where
  is_ten : serial ≡ pos 10 → IsReserved serial
  is_eleven : serial ≡ pos 11 → IsReserved serial
  is_below : serial <ℤ pos 0 → IsReserved serial

-- the body of a value stands at the front of the bytes
pub record BeginsField (serial : ℤ) (bytes : List ℕ) (value : Datum) (rest : List ℕ) : Type 0 where
  pub body : List ℕ
  pub parts : bytes ≡ body ++ rest
  pub is : IsField serial body value

-- why none of this type does
abbrev pub BreaksFront : RecordFault → ℤ → List ℕ → Type 0
BreaksFront Bad serial bytes = IsReserved serial ⊎ (length bytes < body_len serial)
BreaksFront Float serial bytes = serial ≡ pos 7
BreaksFront Text serial bytes =
    (body : List ℕ) × (rest : List ℕ) × (bytes ≡ body ++ rest) × (serial ≡ pos (13 + 2 * length body)) × ¬ (IsUtf8 body)
BreaksFront NoMemory serial bytes = ⊥
