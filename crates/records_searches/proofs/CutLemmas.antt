-- A position among the rows of a table, as a key of one column is.
use Rattle.std.proofs.Common.{◌≡◌, ◌∙◌, ◌≤◌, ℕ, ℤ, negsuc, ◌<ℤ◌, Bool, true, false, List, [], ◌∷◌, ◌++◌, get_or, length, map, Option, None, Some, refl, sym, ap, subst, arith, length-append}
use Rattle.std.specs.Ordering.{MatchOrdering, int_cmp, ordering_reverse, ordering_then}
use Rattle.std.specs.declared.cmp.Ordering.{Ordering}
use Rattle.std.specs.declared.cmp.Ordering.TheVariants.{Less, Equal, Greater}
use Rattle.std.proofs.lemmas.Cmp.{int_cmp_total, int_ranked}
use Rattle.std.proofs.lemmas.Int.{ints}
use Rattle.values.specs.Datum.{Datum, datum_of, null, int, text, blob}
use Rattle.values.specs.Order.{datum_cmp}
use Rattle.values.specs.declared.value.Value.{Value}
use Rattle.btree.specs.image.Search.{comes_before, row_before}
use Rattle.records_searches.specs.RowCuts.{IsRowid}
use Rattle.btree_cursor.specs.key_ranges.Ranges.{Edge, Range, bounded_columns, direction, first_cut, from_cut, is_before, stands_before, width}

then_nothing : (o : Ordering) → ordering_then o Equal ≡ o
then_nothing Less = refl
then_nothing Equal = refl
then_nothing Greater = refl

before_turned : (behind : Bool) (o : Ordering) → stands_before behind (ordering_reverse o) ≡ comes_before behind o
before_turned true Less = refl
before_turned true Equal = refl
before_turned true Greater = refl
before_turned false Less = refl
before_turned false Equal = refl
before_turned false Greater = refl

-- a rowid beside the key of a cut that is one value
pub one_value : (behind : Bool) (value : Datum) (rowid : ℤ)
    → is_before [] (record { key = value ∷ []; behind = behind }) (int rowid ∷ []) ≡ stands_before behind (datum_cmp value (int rowid))
one_value behind value rowid = ap (stands_before behind) (then_nothing (datum_cmp value (int rowid)))

pub at_rowid : (behind : Bool) (key rowid : ℤ) → is_before [] (record { key = int key ∷ []; behind = behind }) (int rowid ∷ []) ≡ row_before behind key rowid
at_rowid behind key rowid =
    one_value behind (int key) rowid ∙ ap (stands_before behind) (int_cmp_total.antisymm key rowid) ∙ before_turned behind (int_cmp rowid key)

least_first : (o : Ordering) (rowid : ℤ) → IsRowid rowid → MatchOrdering o (rowid <ℤ negsuc 9223372036854775807) (rowid ≡ negsuc 9223372036854775807) (negsuc 9223372036854775807 <ℤ rowid)
    → comes_before false o ≡ false
least_first Less rowid is less = absurd (omega (arith, ints, is, less))
least_first Equal rowid is less = refl
least_first Greater rowid is less = refl

-- no row comes before that with the least rowid
pub at_least : (rowid : ℤ) → IsRowid rowid → row_before false (negsuc 9223372036854775807) rowid ≡ false
at_least rowid is =
    least_first (int_cmp rowid (negsuc 9223372036854775807)) rowid is (int_ranked rowid (negsuc 9223372036854775807) (int_cmp rowid (negsuc 9223372036854775807)) refl)

pub at_null : (behind : Bool) (rowid : ℤ) → is_before [] (record { key = null ∷ []; behind = behind }) (int rowid ∷ []) ≡ false
at_null true rowid = one_value true null rowid
at_null false rowid = one_value false null rowid

-- a key that is greater than all rowids comes after them
pub before_all : (behind : Bool) → stands_before behind Greater ≡ true
before_all true = refl
before_all false = refl

pub at_text : (behind : Bool) (bytes : List ℕ) (rowid : ℤ) → is_before [] (record { key = text bytes ∷ []; behind = behind }) (int rowid ∷ []) ≡ true
at_text true bytes rowid = one_value true (text bytes) rowid
at_text false bytes rowid = one_value false (text bytes) rowid

pub at_blob : (behind : Bool) (bytes : List ℕ) (rowid : ℤ) → is_before [] (record { key = blob bytes ∷ []; behind = behind }) (int rowid ∷ []) ≡ true
at_blob true bytes rowid = one_value true (blob bytes) rowid
at_blob false bytes rowid = one_value false (blob bytes) rowid

-- a cut without a key is before all entries, or after them
pub at_edge : (behind : Bool) (rowid : ℤ) → is_before [] (record { key = []; behind = behind }) (int rowid ∷ []) ≡ behind
at_edge true rowid = refl
at_edge false rowid = refl

-- ---- a key of values that are to be equal, and what comes after these

nothing : (l : List Datum) (value : Datum) → length (value ∷ l) ≤ 1 → l ≡ []
nothing [] value short = refl
nothing (x ∷ l) value short = absurd (omega (arith, short))

module _ (behind answer : Bool) (rowid : ℤ) (tail : List Datum) where
  abbrev IsAnswer : List Datum → Type 0
  IsAnswer key = is_before [] (record { key = key; behind = behind }) (int rowid ∷ []) ≡ answer

  -- where the key has one column at most, the first value alone
  pub first_alone : (values : List Value) (value : Value) → 1 ≤ length values → value ≡ get_or values 0 value → length (map datum_of values ++ tail) ≤ 1
      → IsAnswer (datum_of value ∷ []) → IsAnswer (map datum_of values ++ tail)
  first_alone [] value some is short alone = absurd (omega (arith, some))
  first_alone (first ∷ values) value some is short alone =
      let same : datum_of value ≡ datum_of first = ap datum_of is in
      let back : [] ≡ map datum_of values ++ tail = sym (nothing (map datum_of values ++ tail) (datum_of first) short) in
      subst IsAnswer (λ i. same i ∷ back i) alone

  -- where there is none, what comes after them
  pub tail_alone : (values : List Value) → length values ≡ 0 → IsAnswer tail → IsAnswer (map datum_of values ++ tail)
  tail_alone [] none alone = alone
  tail_alone (first ∷ values) none alone = absurd (omega (arith, none))

-- the first of the values
pub first_value : (values : List Value) (value : Value) (rowid : ℤ) (others : List Datum) → 1 ≤ length values → value ≡ get_or values 0 value
    → map datum_of values ≡ int rowid ∷ others → datum_of value ≡ int rowid
first_value [] value rowid others some is are = absurd (omega (arith, some))
first_value (first ∷ values) value rowid others some is are =
    let e : datum_of first ∷ map datum_of values ≡ int rowid ∷ others = are in
    let same : datum_of first ≡ int rowid = cc in
    ap datum_of is ∙ same

pub no_value : (values : List Value) (rowid : ℤ) (others : List Datum) → length values ≡ 0 → map datum_of values ≡ int rowid ∷ others → ⊥
no_value [] rowid others none are = let e : [] ≡ int rowid ∷ others = are in cc
no_value (first ∷ values) rowid others none are = omega (arith, none)

-- ---- no cut looks at more columns than its range

first_short : (descends : Bool) (lower upper : Option Edge) → length (first_cut descends lower upper).key ≤ bounded_columns lower upper
first_short false None None = omega arith
first_short false None (Some upper) = omega arith
first_short false (Some lower) None = omega arith
first_short false (Some lower) (Some upper) = omega arith
first_short true None None = omega arith
first_short true None (Some upper) = omega arith
first_short true (Some lower) None = omega arith
first_short true (Some lower) (Some upper) = omega arith

pub from_short : (descends : List Bool) (range : Range) → length (from_cut descends range).key ≤ width range
from_short descends range =
    let own = first_short (direction descends (length range.equal)) range.lower range.upper in
    let long = length-append range.equal (first_cut (direction descends (length range.equal)) range.lower range.upper).key in
    omega (arith, own, long)
