-- The order of values and that of rows are total, and only equal ones tie.
use Rattle.std.specs.Prelude.{◌≡◌, ℕ, ℤ, pos, List, [], refl, IsTrue}
use Rattle.std.proofs.Common.{ap, sym, subst}
use Rattle.std.specs.Cmp.{IsTotalOrder, IsEquivalence, eq_by_cmp_equiv, Equal-is}
use Rattle.std.specs.Cmp.Lexicographic.{slice_cmp, lists_total}
use Rattle.std.specs.FinMap.{IsAntisymmetric, nat_cmp-IsAntisymmetric, int_cmp-IsAntisymmetric, slice_cmp-IsAntisymmetric}
use Rattle.std.specs.Ordering.{nat_cmp, int_cmp, on, then_cmp, ordering_then, eq_by_cmp}
use Rattle.std.specs.declared.cmp.Ordering.{Ordering}
use Rattle.std.specs.declared.cmp.Ordering.TheVariants.{Less, Equal, Greater}
use Rattle.std.proofs.lemmas.Cmp.{nat_cmp_total, int_cmp_total, nat_list_cmp_total, then_total, on_total}
use Rattle.values.specs.Datum.{Datum, null, int, text, blob}
use Rattle.values.specs.Order.{datum_cmp, row_cmp}
use Rattle.values.specs.Hashed.{row_hash}

-- A value's place in the order as a class, a number and some bytes, of which the first that differ decide.
abbrev class_of : Datum → ℕ
class_of null = 0
class_of (int _) = 1
class_of (text _) = 2
class_of (blob _) = 3

abbrev number_of : Datum → ℤ
number_of null = pos 0
number_of (int n) = n
number_of (text _) = pos 0
number_of (blob _) = pos 0

abbrev bytes_of : Datum → List ℕ
bytes_of null = []
bytes_of (int _) = []
bytes_of (text s) = s
bytes_of (blob s) = s

abbrev parts_cmp : Datum → Datum → Ordering
parts_cmp = then_cmp (on class_of nat_cmp) (then_cmp (on number_of int_cmp) (on bytes_of (slice_cmp nat_cmp)))

then-Equal : (o : Ordering) → o ≡ ordering_then o Equal
then-Equal Less = refl
then-Equal Equal = refl
then-Equal Greater = refl

datum_cmp-parts : (a b : Datum) → datum_cmp a b ≡ parts_cmp a b
datum_cmp-parts null null = refl
datum_cmp-parts null (int n) = refl
datum_cmp-parts null (text t) = refl
datum_cmp-parts null (blob t) = refl
datum_cmp-parts (int m) null = refl
datum_cmp-parts (int m) (int n) = then-Equal (int_cmp m n)
datum_cmp-parts (int m) (text t) = refl
datum_cmp-parts (int m) (blob t) = refl
datum_cmp-parts (text s) null = refl
datum_cmp-parts (text s) (int n) = refl
datum_cmp-parts (text s) (text t) = refl
datum_cmp-parts (text s) (blob t) = refl
datum_cmp-parts (blob s) null = refl
datum_cmp-parts (blob s) (int n) = refl
datum_cmp-parts (blob s) (text t) = refl
datum_cmp-parts (blob s) (blob t) = refl

pub datum_cmp_total : IsTotalOrder datum_cmp
datum_cmp_total =
    subst IsTotalOrder (λ i a b. sym (datum_cmp-parts a b) i)
    (then_total (on_total class_of nat_cmp_total) (then_total (on_total number_of int_cmp_total) (on_total bytes_of nat_list_cmp_total)))

abbrev IsTie : Ordering → Type 0
IsTie Less = ⊥
IsTie Equal = Unit {0}
IsTie Greater = ⊥

pub datum_cmp-IsAntisymmetric : IsAntisymmetric datum_cmp
datum_cmp-IsAntisymmetric null null h = refl
datum_cmp-IsAntisymmetric (int m) (int n) h = ap int (int_cmp-IsAntisymmetric m n h)
datum_cmp-IsAntisymmetric (text s) (text t) h = ap text (slice_cmp-IsAntisymmetric nat_cmp-IsAntisymmetric s t h)
datum_cmp-IsAntisymmetric (blob s) (blob t) h = ap blob (slice_cmp-IsAntisymmetric nat_cmp-IsAntisymmetric s t h)
datum_cmp-IsAntisymmetric null (int n) h = absurd (subst IsTie (sym h) tt)
datum_cmp-IsAntisymmetric null (text t) h = absurd (subst IsTie (sym h) tt)
datum_cmp-IsAntisymmetric null (blob t) h = absurd (subst IsTie (sym h) tt)
datum_cmp-IsAntisymmetric (int m) null h = absurd (subst IsTie (sym h) tt)
datum_cmp-IsAntisymmetric (int m) (text t) h = absurd (subst IsTie (sym h) tt)
datum_cmp-IsAntisymmetric (int m) (blob t) h = absurd (subst IsTie (sym h) tt)
datum_cmp-IsAntisymmetric (text s) null h = absurd (subst IsTie (sym h) tt)
datum_cmp-IsAntisymmetric (text s) (int n) h = absurd (subst IsTie (sym h) tt)
datum_cmp-IsAntisymmetric (text s) (blob t) h = absurd (subst IsTie (sym h) tt)
datum_cmp-IsAntisymmetric (blob s) null h = absurd (subst IsTie (sym h) tt)
datum_cmp-IsAntisymmetric (blob s) (int n) h = absurd (subst IsTie (sym h) tt)
datum_cmp-IsAntisymmetric (blob s) (text t) h = absurd (subst IsTie (sym h) tt)

pub row_cmp_total : IsTotalOrder row_cmp
row_cmp_total = lists_total datum_cmp_total

pub row_cmp-IsAntisymmetric : IsAntisymmetric row_cmp
row_cmp-IsAntisymmetric = slice_cmp-IsAntisymmetric datum_cmp-IsAntisymmetric

pub row_eq-IsEquivalence : IsEquivalence (eq_by_cmp row_cmp)
row_eq-IsEquivalence = eq_by_cmp_equiv row_cmp_total

-- equal rows are one row
pub row_eq-same : (x y : List Datum) → IsTrue (eq_by_cmp row_cmp x y) → x ≡ y
row_eq-same x y h = row_cmp-IsAntisymmetric x y ((Equal-is (row_cmp x y)).0 h)

pub row_hash-row_eq : (x y : List Datum) → IsTrue (eq_by_cmp row_cmp x y) → row_hash x ≡ row_hash y
row_hash-row_eq x y h = ap row_hash (row_eq-same x y h)
