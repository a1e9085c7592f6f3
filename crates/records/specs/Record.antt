-- Records, and why bytes are none. (Database File Format, section 2.1)
use Rattle.std.specs.Prelude.{◌≡◌, ◌≢◌, ◌⊎◌, ℕ, ◌+◌, ◌*◌, ℤ, pos, List, [], ◌∷◌, ◌++◌, length, sum_by, Any, Contains, IsUtf8}
use Rattle.values.specs.Datum.{Datum}
use Rattle.records.specs.declared.fault.RecordFault.{RecordFault}
use Rattle.records.specs.declared.fault.RecordFault.TheVariants.{Bad, Float, Text, NoMemory}
use Rattle.records.specs.Varint.{IsVarint}
use Rattle.records.specs.Serial.{IsField, IsReserved, body_len}

-- the bytes are the varints of these types, one after the other
abbrev pub AreTypes : List ℕ → List ℤ → Type 0
AreTypes bytes [] = bytes ≡ []
AreTypes bytes (serial ∷ types) =
    (first : List ℕ) × (rest : List ℕ) × (bytes ≡ first ++ rest) × IsVarint first serial × AreTypes rest types

-- the bytes are the bodies of these values, of these types, one after the other
abbrev pub AreBodies : List ℤ → List ℕ → List Datum → Type 0
AreBodies [] bytes [] = bytes ≡ []
AreBodies (serial ∷ types) bytes (value ∷ values) =
    (first : List ℕ) × (rest : List ℕ) × (bytes ≡ first ++ rest) × IsField serial first value × AreBodies types rest values
AreBodies [] bytes (value ∷ values) = ⊥
AreBodies (serial ∷ types) bytes [] = ⊥

-- The bytes are a header and the bodies behind it. The header begins with a varint, which is the length of the whole
-- header, its own bytes included; its types are spelt behind that.
pub record SplitsHeader (bytes spelt bodies : List ℕ) : Type 0 where
  pub size : List ℕ
  pub parts : bytes ≡ size ++ (spelt ++ bodies)
  pub counts : IsVarint size (pos (length size + length spelt))

-- the bytes begin with a header of these types, and the bodies follow it
pub record IsHeader (bytes : List ℕ) (types : List ℤ) (bodies : List ℕ) : Type 0 where
  pub spelt : List ℕ
  pub split : SplitsHeader bytes spelt bodies
  pub are_types : AreTypes spelt types

-- there is a header, and this holds of its types and of the bytes after it
pub record WithHeader (P : List ℤ → List ℕ → Type 0) (bytes : List ℕ) : Type 0 where
  pub types : List ℤ
  pub bodies : List ℕ
  pub header : IsHeader bytes types bodies
  pub holds : P types bodies

abbrev pub HasNoHeader : List ℕ → Type 0
HasNoHeader bytes = (types : List ℤ) (bodies : List ℕ) → ¬ (IsHeader bytes types bodies)

-- the bytes are a record of these values
abbrev pub IsRecord : List ℕ → List Datum → Type 0
IsRecord bytes values = WithHeader (λ types bodies. AreBodies types bodies values) bytes

-- a text, behind the bodies of the types before it, isn't UTF-8
pub record IsBadText (types : List ℤ) (bodies : List ℕ) : Type 0 where
  pub before : List ℤ
  pub after : List ℤ
  pub front : List ℕ
  pub text : List ℕ
  pub more : List ℕ
  pub serial_at : types ≡ before ++ pos (13 + 2 * length text) ∷ after
  pub text_at : bodies ≡ front ++ (text ++ more)
  pub place : length front ≡ sum_by body_len before
  pub not_utf8 : ¬ (IsUtf8 text)

-- what each fault says of types and bodies; of memory they say nothing
abbrev pub BreaksBodies : RecordFault → List ℤ → List ℕ → Type 0
BreaksBodies Bad types bodies = Any IsReserved types ⊎ (sum_by body_len types ≢ length bodies)
BreaksBodies Float types bodies = Contains types (pos 7)
BreaksBodies Text types bodies = IsBadText types bodies
BreaksBodies NoMemory types bodies = Unit {0}

-- the fault's condition stands in the bytes
abbrev pub Breaks : RecordFault → List ℕ → Type 0
Breaks Bad bytes = HasNoHeader bytes ⊎ WithHeader (BreaksBodies Bad) bytes
Breaks Float bytes = WithHeader (BreaksBodies Float) bytes
Breaks Text bytes = WithHeader (BreaksBodies Text) bytes
Breaks NoMemory bytes = Unit {0}

-- the fault is want of memory, or Bad where so much holds
abbrev pub IsBadWhere : Type 0 → RecordFault → Type 0
IsBadWhere P Bad = P
IsBadWhere P Float = ⊥
IsBadWhere P Text = ⊥
IsBadWhere P NoMemory = Unit {0}
