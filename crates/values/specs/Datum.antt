-- What a value is, whatever memory it lies in: one of SQLite's storage classes without floats.
-- (Datatypes In SQLite, "Storage Classes and Datatypes")
use Rattle.std.specs.Prelude.{ℕ, ℤ, List, string_bytes}
use Rattle.values.specs.declared.value.Value.{Value}
use Rattle.values.specs.declared.value.Value.TheVariants.{Null, Int, Text, Blob}
use Rattle.values.specs.declared.value.ValueRef.{ValueRef}
use Rattle.values.specs.declared.value.ValueRef.TheVariants as lent
use Rattle.values.specs.declared.value.Ty.{Ty}
use Rattle.values.specs.declared.value.Ty.TheVariants as class

-- a text is its bytes, which are UTF-8
pub data Datum : Type 0 where
  null : Datum
  int : ℤ → Datum
  text : List ℕ → Datum
  blob : List ℕ → Datum

abbrev pub datum_of : Value → Datum
datum_of Null = null
datum_of (Int n) = int n
datum_of (Text s) = text (string_bytes s)
datum_of (Blob v) = blob v.items

-- the same of a value whose bytes are borrowed
abbrev pub datum_of_ref : ValueRef → Datum
datum_of_ref lent.Null = null
datum_of_ref (lent.Int n) = int n
datum_of_ref (lent.Text s) = text s.now
datum_of_ref (lent.Blob v) = blob v.now

abbrev pub type_of : Datum → Ty
type_of null = class.Null
type_of (int _) = class.Int
type_of (text _) = class.Text
type_of (blob _) = class.Blob
