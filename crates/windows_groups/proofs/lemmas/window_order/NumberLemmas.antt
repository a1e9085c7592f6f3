-- Ranks tell the whole order of numbers and NULL.
use Rattle.std.proofs.Common.{◌≡◌, ◌∙◌, ◌+◌, ◌-◌, ◌%◌, ◌^◌, ◌<◌, Bool, true, false, ℕ, ℤ, pos, negsuc, FitsSigned, refl, arith, w64}
use Rattle.std.proofs.lemmas.Int.{ints}
use Rattle.std.proofs.lemmas.Bool.Decides.{nat_tests}
use Rattle.std.specs.Int.{cast_unsigned}
use Rattle.std.specs.Ordering.{int_cmp, nat_cmp}
use Rattle.values.specs.Datum.{Datum, null, int, text, blob}
use Rattle.expr.specs.operations.Operations.{is_null}
use Rattle.semantics.specs.Query.{Direction}
use Rattle.semantics.specs.Sequence.{directed_cmp}
use Rattle.windows_groups.specs.contracts.window_order.ranks.RankOrd.TheImpl.{ghosts}
use Rattle.windows_groups.specs.window_order.Ranks.{IsNumber, rank_of}

-- a number counted from the least one
abbrev counted : ℤ → ℕ
counted n = (cast_unsigned w64 n + 2 ^ 63) % 2 ^ 64

counted_pos : (k : ℕ) → k < 2 ^ 63 → counted (pos k) ≡ k + 2 ^ 63
counted_pos k fits = omega (arith, ints)

counted_neg : (k : ℕ) → k < 2 ^ 63 → counted (negsuc k) + k + 1 ≡ 2 ^ 63
counted_neg k fits = omega (arith, ints)

counted_cmp : (m n : ℤ) → FitsSigned w64 m → FitsSigned w64 n → nat_cmp (counted m) (counted n) ≡ int_cmp m n
counted_cmp (pos j) (pos k) fits too =
    let a = counted_pos j (omega (arith, ints, fits)) in
    let b = counted_pos k (omega (arith, ints, too)) in
    grind (arith, ints, nat_tests, a, b)
counted_cmp (pos j) (negsuc k) fits too =
    let a = counted_pos j (omega (arith, ints, fits)) in
    let b = counted_neg k (omega (arith, ints, too)) in
    grind (arith, ints, nat_tests, a, b)
counted_cmp (negsuc j) (pos k) fits too =
    let a = counted_neg j (omega (arith, ints, fits)) in
    let b = counted_pos k (omega (arith, ints, too)) in
    grind (arith, ints, nat_tests, a, b)
counted_cmp (negsuc j) (negsuc k) fits too =
    let a = counted_neg j (omega (arith, ints, fits)) in
    let b = counted_neg k (omega (arith, ints, too)) in
    grind (arith, ints, nat_tests, a, b)

turned_cmp : (a b : ℕ) → a < 2 ^ 64 → b < 2 ^ 64 → nat_cmp (2 ^ 64 - 1 - a) (2 ^ 64 - 1 - b) ≡ nat_cmp b a
turned_cmp a b fits too = grind (arith, nat_tests)

counted_fits : (n : ℤ) → counted n < 2 ^ 64
counted_fits n = omega arith

-- by the parts of a direction
abbrev by : Bool → Bool → Datum → Datum → Type 0
by descending nulls_first x y =
    let d : Direction = record { descending = descending; nulls_first = nulls_first } in
    ghosts.cmp (rank_of d x) (rank_of d y) ≡ directed_cmp d x y

null_null : (descending nulls_first : Bool) → by descending nulls_first null null
unfolding is_null
null_null true true = refl
null_null true false = refl
null_null false true = refl
null_null false false = refl

null_int : (descending nulls_first : Bool) (n : ℤ) → by descending nulls_first null (int n)
unfolding is_null
null_int true true n = refl
null_int true false n = refl
null_int false true n = refl
null_int false false n = refl

int_null : (descending nulls_first : Bool) (n : ℤ) → by descending nulls_first (int n) null
unfolding is_null
int_null true true n = refl
int_null true false n = refl
int_null false true n = refl
int_null false false n = refl

int_int : (descending nulls_first : Bool) (m n : ℤ) → FitsSigned w64 m → FitsSigned w64 n → by descending nulls_first (int m) (int n)
unfolding is_null
int_int true first m n fits too = turned_cmp (counted m) (counted n) (counted_fits m) (counted_fits n) ∙ counted_cmp n m too fits
int_int false first m n fits too = counted_cmp m n fits too

pub number_ranks : (d : Direction) (x y : Datum) → IsNumber x → IsNumber y → ghosts.cmp (rank_of d x) (rank_of d y) ≡ directed_cmp d x y
number_ranks d null null p q = null_null d.descending d.nulls_first
number_ranks d null (int n) p q = null_int d.descending d.nulls_first n
number_ranks d (int m) null p q = int_null d.descending d.nulls_first m
number_ranks d (int m) (int n) p q = int_int d.descending d.nulls_first m n p q
number_ranks d (text s) y p q = absurd p
number_ranks d (blob s) y p q = absurd p
number_ranks d null (text s) p q = absurd q
number_ranks d null (blob s) p q = absurd q
number_ranks d (int n) (text s) p q = absurd q
number_ranks d (int n) (blob s) p q = absurd q
