-- Varints: one to nine bytes, the most significant bits first. (Database File Format, section 1.6)
use Rattle.std.specs.Prelude.{◌≡◌, ◌⊎◌, ◌<◌, ◌≤◌, ℕ, ◌+◌, ◌*◌, ◌%◌, ℤ, List, [], ◌∷◌, ◌++◌, length, take, fold, All}
use Rattle.std.specs.Int.{w64, cast_signed}

-- the number that the low seven bits of each byte make
abbrev pub seven_bits : List ℕ → ℕ
seven_bits bytes = fold (λ high byte. high * 128 + byte % 128) 0 bytes

-- the high bit is set
abbrev pub GoesOn : ℕ → Type 0
GoesOn byte = 128 ≤ byte

-- at most eight bytes, of which only the last has its high bit clear
pub record IsShort (bytes : List ℕ) (bits : ℕ) : Type 0 where
  pub front : List ℕ
  pub last : ℕ
  pub parts : bytes ≡ front ++ last ∷ []
  pub at_most_eight : length front < 8
  pub go_on : All GoesOn front
  pub ends : last < 128
  pub number : bits ≡ seven_bits bytes

-- eight bytes with the high bit set, and a ninth that is taken whole
pub record IsLong (bytes : List ℕ) (bits : ℕ) : Type 0 where
  pub front : List ℕ
  pub last : ℕ
  pub parts : bytes ≡ front ++ last ∷ []
  pub eight : length front ≡ 8
  pub go_on : All GoesOn front
  pub number : bits ≡ seven_bits front * 256 + last

-- the bytes are one whole varint of this value, which is the two's complement of its 64 bits
pub record IsVarint (bytes : List ℕ) (value : ℤ) : Type 0 where
  pub bits : ℕ
  pub spelt : IsShort bytes bits ⊎ IsLong bytes bits
  pub signed : value ≡ cast_signed w64 bits

-- the bytes begin with a varint of this value and length
pub record BeginsVarint (bytes : List ℕ) (value : ℤ) (len : ℕ) : Type 0 where
  pub within : len ≤ length bytes
  pub is : IsVarint (take len bytes) value

-- the bytes end before a varint does
pub record EndsInside (bytes : List ℕ) : Type 0 where
  pub go_on : All GoesOn bytes
  pub short : length bytes < 9
