-- The operations on values. (SQL Language Expressions, "Operators, and Parse-Affecting Attributes")
use Rattle.std.specs.Prelude.{ℤ, pos, negsuc, zero, ◌^◌, ◌+ℤ◌, ◌-ℤ◌, ◌*ℤ◌, nat_lt, Bool, true, false, not, ◌||◌, if◌then◌else◌, List, [], ◌∷◌, ◌++◌, Option, Some, None, option_map, int_div, int_rem}
use Rattle.std.specs.Int.{w64, int_bit_and, int_bit_or}
use Rattle.std.specs.Ordering.{is_eq, is_lt, is_le, is_gt, is_ge}
use Rattle.std.specs.declared.cmp.Ordering.{Ordering}
use Rattle.expr.specs.declared.operations.kinds.Arithmetic.{Arithmetic}
use Rattle.expr.specs.declared.operations.kinds.Arithmetic.TheVariants.{Add, Sub, Mul, Div, Rem, BitAnd, BitOr}
use Rattle.expr.specs.declared.operations.kinds.Comparison.{Comparison}
use Rattle.expr.specs.declared.operations.kinds.Comparison.TheVariants.{Eq, Ne, Lt, Le, Gt, Ge}
use Rattle.values.specs.Datum.{Datum, null, int, text}
use Rattle.values.specs.Order.{datum_cmp}

-- ---- numbers of 64 bits

abbrev pub fits_64 : ℤ → Bool
fits_64 (pos n) = nat_lt n (2 ^ 63)
fits_64 (negsuc n) = nat_lt n (2 ^ 63)

-- an integer result; one that is out of range is replaced by what stands for it, if anything does
unfoldable pub settle : Option Datum → ℤ → Option Datum
settle o z = if fits_64 z then Some (int z) else o

abbrev pub is_zero : ℤ → Bool
is_zero (pos zero) = true
is_zero _ = false

unfoldable pub of_integers : Option Datum → Arithmetic → ℤ → ℤ → Option Datum
of_integers o Add x y = settle o (x +ℤ y)
of_integers o Sub x y = settle o (x -ℤ y)
of_integers o Mul x y = settle o (x *ℤ y)
of_integers o Div x y = if is_zero y then Some null else settle o (int_div x y)
of_integers o Rem x y = if is_zero y then Some null else settle o (int_rem x y)
of_integers o BitAnd x y = Some (int (int_bit_and w64 x y))
of_integers o BitOr x y = Some (int (int_bit_or w64 x y))

-- of two integers; NULL of all else
unfoldable pub arithmetic_of : Option Datum → Arithmetic → Datum → Datum → Option Datum
arithmetic_of o op (int x) (int y) = of_integers o op x y
arithmetic_of o op a b = Some null

-- ---- order

unfoldable pub same : Datum → Datum → Bool
same a b = is_eq (datum_cmp a b)

unfoldable pub is_null : Datum → Bool
is_null null = true
is_null _ = false

-- ---- conditions: 0 is false, another integer true, and all else is unknown

unfoldable pub truth : Datum → Option Bool
truth (int z) = Some (not (is_zero z))
truth _ = None

abbrev pub bit : Bool → Datum
bit b = int (pos (if b then 1 else 0))

unfoldable pub condition : Option Bool → Datum
condition (Some b) = bit b
condition None = null

abbrev pub and3 : Option Bool → Option Bool → Option Bool
and3 (Some false) b = Some false
and3 (Some true) b = b
and3 None (Some false) = Some false
and3 None _ = None

abbrev pub not3 : Option Bool → Option Bool
not3 = option_map not

abbrev pub or3 : Option Bool → Option Bool → Option Bool
or3 (Some true) b = Some true
or3 (Some false) b = b
or3 None (Some true) = Some true
or3 None _ = None

unfoldable pub test_of : Comparison → Ordering → Bool
test_of Eq = is_eq
test_of Ne = λ r. not (is_eq r)
test_of Lt = is_lt
test_of Le = is_le
test_of Gt = is_gt
test_of Ge = is_ge

unfoldable pub comparison : Comparison → Datum → Datum → Option Bool
comparison op a b = if is_null a || is_null b then None else Some (test_of op (datum_cmp a b))

-- x IN (y, ..)
abbrev pub any_equal : Datum → List Datum → Option Bool
any_equal x [] = Some false
any_equal x (y ∷ ys) = or3 (comparison Eq x y) (any_equal x ys)

-- ---- texts

unfoldable pub concat_of : Datum → Datum → Datum
concat_of (text s) (text t) = text (s ++ t)
concat_of a b = null

abbrev pub unless_true : Option Bool → Datum → Datum
unless_true (Some true) x = null
unless_true _ x = x

-- nullif(x, y): NULL where `x = y` is true, and else x
unfoldable pub null_if_equal : Datum → Datum → Datum
null_if_equal x y = unless_true (comparison Eq x y) x
