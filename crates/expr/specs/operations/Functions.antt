-- The functions of one value. (Built-In Scalar SQL Functions)
use Rattle.std.specs.Prelude.{ℕ, ℤ, pos, ◌-ℤ◌, neg_ℤ, unsigned_abs, ◌==◌, not, List, [], length, map, take_while, Option, Some, option_map, codes}
use Rattle.std.specs.Char.{to_ascii_uppercase, to_ascii_lowercase}
use Rattle.std.specs.Str.{chars}
use Rattle.hex.specs.Hex.{encode_upper}
use Rattle.expr.specs.declared.operations.kinds.Function.{Function}
use Rattle.expr.specs.declared.operations.kinds.Function.TheVariants.{Neg, BitNot, Not, Abs, Length, Lower, Upper, Hex, TypeOf}
use Rattle.values.specs.Datum.{Datum, null, int, text, blob}
use Rattle.expr.specs.operations.Operations.{settle, truth, condition}

-- an integer function; of all else it is NULL
abbrev pub of_int : (ℤ → Option Datum) → Datum → Option Datum
of_int f (int x) = f x
of_int f _ = Some null

abbrev pub of_text : (List ℕ → List ℕ) → Datum → Datum
of_text f (text s) = text (f s)
of_text f _ = null

-- the characters before the first U+0000
abbrev pub text_length : List ℕ → ℕ
text_length s = length (take_while (λ c. not (c == 0)) (chars s))

unfoldable pub length_of : Option Datum → Datum → Option Datum
length_of o (text s) = settle o (pos (text_length s))
length_of o (blob b) = settle o (pos (length b))
length_of o _ = Some null

-- of NULL the empty text
unfoldable pub hex_of : Datum → Datum
hex_of (text s) = text (encode_upper s)
hex_of (blob b) = text (encode_upper b)
hex_of _ = text []

unfoldable pub type_name : Datum → List ℕ
type_name null = codes "null"
type_name (int _) = codes "integer"
type_name (text _) = codes "text"
type_name (blob _) = codes "blob"

unfoldable pub call_of : Option Datum → Function → Datum → Option Datum
call_of o Neg a = of_int (λ x. settle o (neg_ℤ x)) a
call_of o BitNot a = of_int (λ x. settle o (neg_ℤ x -ℤ pos 1)) a
call_of o Not a = Some (condition (option_map not (truth a)))
call_of o Abs a = of_int (λ x. settle o (pos (unsigned_abs x))) a
call_of o Length a = length_of o a
call_of o Lower a = Some (of_text (map to_ascii_lowercase) a)
call_of o Upper a = Some (of_text (map to_ascii_uppercase) a)
call_of o Hex a = Some (hex_of a)
call_of o TypeOf a = Some (text (type_name a))
