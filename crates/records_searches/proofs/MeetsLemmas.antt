-- Whether an entry meets a range, column by column.
use Rattle.std.proofs.Common.{◌≡◌, ◌∙◌, ◌<◌, ◌≤◌, ℕ, zero, suc, Bool, true, false, not, cond, ◌&&◌, ◌||◌, List, [], ◌∷◌, drop, get_or, length, map, Option, None, Some, refl, sym, ap, arith}
use Rattle.std.specs.Prelude.{IfNone, IfSome}
use Rattle.std.specs.Ordering.{is_eq}
use Rattle.std.specs.declared.cmp.Ordering.{Ordering}
use Rattle.std.specs.declared.cmp.Ordering.TheVariants.{Less, Equal, Greater}
use Rattle.values.specs.Datum.{Datum, datum_of, null}
use Rattle.values.specs.Order.{datum_cmp}
use Rattle.values.specs.declared.value.Value.{Value}
use Rattle.records.specs.Fields.{AreUnread, Unread}
use Rattle.btree_cursor.specs.key_ranges.Ranges.{Edge, Range, above, below, holds, is_above, is_below, is_null, meets}
use Rattle.records_searches.specs.Meets.{compared, meets_range}

and_all : (a b : Bool) → (a && b) ≡ ((a && true) && b)
and_all true b = refl
and_all false b = refl

-- the first of the values that are asked for decides, or else the others
pub next_value : (value : Datum) (more : List Datum) (lower upper : Option Edge) (fields : List Datum)
    → meets (value ∷ more) lower upper fields ≡ (meets (value ∷ []) None None fields && meets more lower upper (drop 1 fields))
next_value value more lower upper [] = refl
next_value value more lower upper (first ∷ rest) = and_all (holds is_eq first value) (meets more lower upper rest)

-- ---- fields that are read

-- a reader that gives no field has none
pub only_done : (P : List Datum → Type 0) (unread : Unread) → ((first : Datum) (others : List Datum) → ¬ AreUnread unread (first ∷ others)) → P []
    → (fields : List Datum) → AreUnread unread fields → P fields
only_done P unread none done [] is = done
only_done P unread none done (first ∷ others) is = absurd (none first others is)

pub no_record : (unread : Unread) → ((first : Datum) (others : List Datum) → ¬ AreUnread unread (first ∷ others)) → (¬ AreUnread unread [])
    → (fields : List Datum) → AreUnread unread fields → ⊥
no_record unread none more [] is = more is
no_record unread none more (first ∷ others) is = none first others is

-- of fields that are there the first is read
pub first_read : (P : List Datum → Type 0) (old : Unread) (value : Datum) → (¬ AreUnread old [])
    → ((first : Datum) (others : List Datum) → AreUnread old (first ∷ others) → P (first ∷ others))
    → (fields : List Datum) → AreUnread old fields → P fields
first_read P old value more gives [] is = absurd (more is)
first_read P old value more gives (first ∷ others) is = gives first others is

-- what a reader of a record's fields tells, told of the record
pub met_in : (P Q : List Datum → Type 0) (range : Range) (result : Option Bool) → ((values : List Datum) → Q values → P values)
    → IfSome result (λ met. (fields : List Datum) → P fields → met ≡ meets_range range fields)
    → IfSome result (λ met. (values : List Datum) → Q values → met ≡ meets_range range values)
met_in P Q range None reads found = tt
met_in P Q range (Some met) reads found = λ values is. found values (reads values is)

pub none_in : (P Q : List Datum → Type 0) (result : Option Bool) → ((values : List Datum) → Q values → P values)
    → IfNone result ((fields : List Datum) → ¬ P fields) → IfNone result ((values : List Datum) → ¬ Q values)
none_in P Q None reads none = λ values is. none values (reads values is)
none_in P Q (Some met) reads none = tt

-- ---- the loop over the values that are asked for

-- the first of them agree with the entry: whether it meets the range is whether the rest of it meets the other bounds
pub record IsPassed (equal : List Datum) (lower upper : Option Edge) (at : ℕ) (old now : Unread) (fields : List Datum) : Type 0 where
  pub rest : List Datum
  pub unread : AreUnread now rest
  pub is : meets equal lower upper fields ≡ meets (drop at equal) lower upper rest

abbrev pub ArePassed : List Datum → Option Edge → Option Edge → ℕ → Unread → Unread → Type 0
ArePassed equal lower upper at old now = (fields : List Datum) → AreUnread old fields → IsPassed equal lower upper at old now fields

dropped : (values : List Value) (at : ℕ) (value : Value) → at < length values → value ≡ get_or values at value
    → drop at (map datum_of values) ≡ datum_of value ∷ drop (suc at) (map datum_of values)
dropped [] at value within is = absurd (omega (arith, within))
dropped (first ∷ others) zero value within is = ap (λ (v : Value). datum_of v ∷ map datum_of others) (sym is)
dropped (first ∷ others) (suc at) value within is = dropped others at value (omega (arith, within)) is

all_dropped : (values : List Value) (at : ℕ) → at ≡ length values → drop at (map datum_of values) ≡ []
all_dropped [] zero is = refl
all_dropped [] (suc at) is = refl
all_dropped (first ∷ others) zero is = absurd (omega (arith, is))
all_dropped (first ∷ others) (suc at) is = all_dropped others at (omega (arith, is))

module _ (values : List Value) (lower upper : Option Edge) (old : Unread) where
  pub none_passed : ArePassed (map datum_of values) lower upper 0 old old
  none_passed fields unread = record { rest = fields; unread = unread; is = refl }

  module _ (at : ℕ) (now : Unread) (passed : ArePassed (map datum_of values) lower upper at old now) where
    -- where it is no record from there on, it is none at all
    pub none_at_all : ((fields : List Datum) → ¬ AreUnread now fields) → (fields : List Datum) → ¬ AreUnread old fields
    none_at_all none fields unread = let p = passed fields unread in none p.rest p.unread

    module _ (value : Value) (within : at < length values) (here : value ≡ get_or values at value) where
      split : (fields : List Datum) (unread : AreUnread old fields)
          → meets (map datum_of values) lower upper fields
          ≡ (meets (datum_of value ∷ []) None None (passed fields unread).rest && meets (drop (suc at) (map datum_of values)) lower upper (drop 1 (passed fields unread).rest))
      split fields unread =
          let p = passed fields unread in
          p.is ∙ ap (λ (k : List Datum). meets k lower upper p.rest) (dropped values at value within here)
          ∙ next_value (datum_of value) (drop (suc at) (map datum_of values)) lower upper p.rest

      -- a value that differs decides
      pub decided : (same : Bool) → same ≡ false → ((fields : List Datum) → AreUnread now fields → same ≡ meets (datum_of value ∷ []) None None fields)
          → (fields : List Datum) → AreUnread old fields → false ≡ meets (map datum_of values) lower upper fields
      decided same other found fields unread =
          let p = passed fields unread in
          let e : meets (datum_of value ∷ []) None None p.rest ≡ false = sym (found p.rest p.unread) ∙ other in
          sym (split fields unread ∙ ap (λ (b : Bool). b && meets (drop (suc at) (map datum_of values)) lower upper (drop 1 p.rest)) e)

      -- one that agrees is passed
      pub one_passed : (then : Unread) (next : ℕ) (same : Bool) → next ≡ suc at → same ≡ true
          → ((fields : List Datum) → AreUnread now fields → same ≡ meets (datum_of value ∷ []) None None fields)
          → ((fields : List Datum) → AreUnread now fields → same ≡ true → AreUnread then (drop 1 fields))
          → ArePassed (map datum_of values) lower upper next old then
      one_passed then next same next_is agrees found goes fields unread =
          let p = passed fields unread in
          let e : meets (datum_of value ∷ []) None None p.rest ≡ true = sym (found p.rest p.unread) ∙ agrees in
          record {
            rest = drop 1 p.rest;
            unread = goes p.rest p.unread agrees;
            is = split fields unread ∙ ap (λ (b : Bool). b && meets (drop (suc at) (map datum_of values)) lower upper (drop 1 p.rest)) e
                ∙ ap (λ (i : ℕ). meets (drop i (map datum_of values)) lower upper (drop 1 p.rest)) (sym next_is);
          }

    -- past the last of them the bounds of the next column decide
    module _ (all : at ≡ length values) where
      pub rest_decides : (met : Bool) → ((fields : List Datum) → AreUnread now fields → met ≡ meets [] lower upper fields)
          → (fields : List Datum) → AreUnread old fields → met ≡ meets (map datum_of values) lower upper fields
      rest_decides met found fields unread =
          let p = passed fields unread in
          found p.rest p.unread ∙ ap (λ (k : List Datum). meets k lower upper p.rest) (sym (all_dropped values at all)) ∙ sym p.is

      pub rest_decides_if : (met : Option Bool) → IfSome met (λ m. (fields : List Datum) → AreUnread now fields → m ≡ meets [] lower upper fields)
          → IfSome met (λ m. (fields : List Datum) → AreUnread old fields → m ≡ meets (map datum_of values) lower upper fields)
      rest_decides_if None found = tt
      rest_decides_if (Some met) found = rest_decides met found

    pub none_at_all_if : (met : Option Bool) → IfNone met ((fields : List Datum) → ¬ AreUnread now fields) → IfNone met ((fields : List Datum) → ¬ AreUnread old fields)
    none_at_all_if None none = none_at_all none
    none_at_all_if (Some met) none = tt

-- ---- one value beside a bound

some_same : (o p : Ordering) → Some o ≡ Some p → o ≡ p
some_same o p e = cc

known : (t : Bool) (test : Ordering → Bool) (o p : Ordering) → Some o ≡ cond t None (Some p) → cond t false (test p) ≡ test o
known true test o p e = absurd (let f : Some o ≡ None = e in cc)
known false test o p e = ap test (sym (some_same o p e))

-- a comparison of two values, none of which is NULL
pub holds_by : (test : Ordering → Bool) (value other : Datum) (o : Ordering) → Some o ≡ compared value other → holds test value other ≡ test o
holds_by test value other o is = known (is_null value || is_null other) test o (datum_cmp value other) is

pub above_less : (strict : Bool) → above strict Less ≡ false
above_less true = refl
above_less false = refl

pub above_equal : (strict : Bool) → above strict Equal ≡ not strict
above_equal true = refl
above_equal false = refl

pub above_greater : (strict : Bool) → above strict Greater ≡ true
above_greater true = refl
above_greater false = refl

pub below_less : (strict : Bool) → below strict Less ≡ true
below_less true = refl
below_less false = refl

pub below_equal : (strict : Bool) → below strict Equal ≡ not strict
below_equal true = refl
below_equal false = refl

pub below_greater : (strict : Bool) → below strict Greater ≡ false
below_greater true = refl
below_greater false = refl

-- ---- a key of one value

module _ (lower upper : Option Edge) (key : Datum) where
  pub alone_free : (values : List Value) → length values ≡ 0 → (is_above lower key && is_below upper key) ≡ meets (map datum_of values) lower upper (key ∷ [])
  alone_free [] long = refl
  alone_free (first ∷ others) long = absurd (omega (arith, long))

  pub alone_equal : (values : List Value) (value : Value) → length values ≡ 1 → value ≡ get_or values 0 value
      → (meets (datum_of value ∷ []) None None (key ∷ []) && (is_above lower null && is_below upper null)) ≡ meets (map datum_of values) lower upper (key ∷ [])
  alone_equal [] value long is = absurd (omega (arith, long))
  alone_equal (first ∷ []) value long is =
      ap (λ (v : Value). meets (datum_of v ∷ []) None None (key ∷ []) && (is_above lower null && is_below upper null)) is
      ∙ sym (next_value (datum_of first) [] lower upper (key ∷ []))
  alone_equal (first ∷ (second ∷ others)) value long is = absurd (omega (arith, long))

  -- no key of one value has several
  pub alone_wide : (values : List Value) → 2 ≤ length values → false ≡ meets (map datum_of values) lower upper (key ∷ [])
  alone_wide [] long = absurd (omega (arith, long))
  alone_wide (first ∷ []) long = absurd (omega (arith, long))
  alone_wide (first ∷ (second ∷ others)) long = none_of (holds is_eq key (datum_of first))
    where
      none_of : (a : Bool) → false ≡ (a && false)
      none_of true = refl
      none_of false = refl
