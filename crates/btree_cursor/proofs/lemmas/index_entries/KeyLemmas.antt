-- How a key stands to the fields of an entry, column by column.
use Rattle.std.proofs.Common.{◌≡◌, ◌≢◌, ◌<◌, ℕ, zero, suc, Bool, List, [], ◌∷◌, ◌++◌, drop, get_or, length, map, Option, None, Some, refl, sym, ◌∙◌, ap, subst, arith}
use Rattle.std.specs.Prelude.{IfNone, IfSome}
use Rattle.std.specs.Ordering.{ordering_then}
use Rattle.std.specs.declared.cmp.Ordering.{Ordering}
use Rattle.std.specs.declared.cmp.Ordering.TheVariants.{Less, Equal, Greater}
use Rattle.values.specs.Datum.{Datum, datum_of, datum_of_ref}
use Rattle.values.specs.Order.{datum_cmp}
use Rattle.values.specs.declared.value.Value.{Value}
use Rattle.values.specs.declared.value.ValueRef.{ValueRef}
use Rattle.records.specs.Fields.{AreUnread, Unread}
use Rattle.btree_cursor.specs.key_ranges.Ranges.{directed, direction, key_cmp}
use Rattle.btree_cursor.specs.key_ranges.View.{value_list}

-- a reader that gives no field has none
pub no_fields : (unread : Unread) (descends : Bool) (value : Datum) → ((first : Datum) (others : List Datum) → ¬ AreUnread unread (first ∷ others))
    → (fields : List Datum) → AreUnread unread fields → Greater ≡ key_cmp (descends ∷ []) (value ∷ []) fields
no_fields unread descends value none [] is = refl
no_fields unread descends value none (first ∷ others) is = absurd (none first others is)

pub no_record : (unread : Unread) → ((first : Datum) (others : List Datum) → ¬ AreUnread unread (first ∷ others)) → (¬ AreUnread unread [])
    → (fields : List Datum) → AreUnread unread fields → ⊥
no_record unread none more [] is = more is
no_record unread none more (first ∷ others) is = none first others is

then_end : (o rest : Ordering) → ordering_then o rest ≡ ordering_then (ordering_then o Equal) rest
then_end Less rest = refl
then_end Equal rest = refl
then_end Greater rest = refl

then_equal : (o : Ordering) → ordering_then o Equal ≡ o
then_equal Less = refl
then_equal Equal = refl
then_equal Greater = refl

then_other : (o rest : Ordering) → o ≢ Equal → ordering_then o rest ≡ o
then_other Less rest other = refl
then_other Equal rest other = absurd (other refl)
then_other Greater rest other = refl

-- the first of the columns that are left decides, or else those behind it
next_column : (descends : List Bool) (at : ℕ) (value : Datum) (more rest : List Datum)
    → key_cmp (drop at descends) (value ∷ more) rest
    ≡ ordering_then (key_cmp (direction descends at ∷ []) (value ∷ []) rest) (key_cmp (drop (suc at) descends) more (drop 1 rest))
next_column descends at value more [] = refl
next_column [] zero value more (first ∷ others) = then_end (datum_cmp value first) (key_cmp [] more others)
next_column [] (suc at) value more (first ∷ others) = then_end (datum_cmp value first) (key_cmp [] more others)
next_column (d ∷ descends) zero value more (first ∷ others) = then_end (directed d (datum_cmp value first)) (key_cmp descends more others)
next_column (d ∷ descends) (suc at) value more (first ∷ others) = next_column descends at value more (first ∷ others)

abbrev pub data_of : List Value → List Datum
data_of = map datum_of

dropped : (values : List Value) (at : ℕ) (value : Value) (tail : List Datum) → at < length values → value ≡ get_or values at value
    → drop at (data_of values) ++ tail ≡ datum_of value ∷ (drop (suc at) (data_of values) ++ tail)
dropped [] at value tail within is = absurd (omega (arith, within))
dropped (first ∷ others) zero value tail within is = ap (λ (v : Value). datum_of v ∷ (data_of others ++ tail)) (sym is)
dropped (first ∷ others) (suc at) value tail within is = dropped others at value tail (omega (arith, within)) is

none_left : (values : List Value) (at : ℕ) → at ≡ length values → drop at (data_of values) ≡ []
none_left [] zero is = refl
none_left [] (suc at) is = refl
none_left (first ∷ others) zero is = absurd (omega (arith, is))
none_left (first ∷ others) (suc at) is = none_left others at (omega (arith, is))

-- a key whose first columns agree with the entry's: how it stands to the entry is how its other columns stand to the rest
pub record IsPassed (descends : List Bool) (values : List Value) (tail : List Datum) (at : ℕ) (old now : Unread) (fields : List Datum) : Type 0 where
  pub rest : List Datum
  pub unread : AreUnread now rest
  pub is : key_cmp descends (data_of values ++ tail) fields ≡ key_cmp (drop at descends) (drop at (data_of values) ++ tail) rest

-- of each list of fields that the entry may have
abbrev pub ArePassed : List Bool → List Value → List Datum → ℕ → Unread → Unread → Type 0
ArePassed descends values tail at old now = (fields : List Datum) → AreUnread old fields → IsPassed descends values tail at old now fields

module _ (descends : List Bool) (values : List Value) (tail : List Datum) (old : Unread) where
  pub none_passed : ArePassed descends values tail 0 old old
  none_passed fields unread = record { rest = fields; unread = unread; is = refl }

  module _ (at : ℕ) (now : Unread) (passed : ArePassed descends values tail at old now) where
    module _ (value : Value) (within : at < length values) (is : value ≡ get_or values at value) where
      here : (fields : List Datum) (unread : AreUnread old fields)
          → key_cmp descends (data_of values ++ tail) fields
          ≡ ordering_then (key_cmp (direction descends at ∷ []) (datum_of value ∷ []) (passed fields unread).rest)
          (key_cmp (drop (suc at) descends) (drop (suc at) (data_of values) ++ tail) (drop 1 (passed fields unread).rest))
      here fields unread =
          let p = passed fields unread in
          p.is ∙ ap (λ (k : List Datum). key_cmp (drop at descends) k p.rest) (dropped values at value tail within is)
          ∙ next_column descends at (datum_of value) (drop (suc at) (data_of values) ++ tail) p.rest

      -- a column in which they differ decides
      pub decided : (order : Ordering) → order ≢ Equal
          → ((fields : List Datum) → AreUnread now fields → order ≡ key_cmp (direction descends at ∷ []) (datum_of value ∷ []) fields)
          → (fields : List Datum) → AreUnread old fields → order ≡ key_cmp descends (data_of values ++ tail) fields
      decided order other found fields unread =
          let p = passed fields unread in
          let e : order ≡ key_cmp (direction descends at ∷ []) (datum_of value ∷ []) p.rest = found p.rest p.unread in
          let k = key_cmp (drop (suc at) descends) (drop (suc at) (data_of values) ++ tail) (drop 1 p.rest) in
          sym (then_other order k other) ∙ ap (λ (o : Ordering). ordering_then o k) e ∙ sym (here fields unread)

      -- one in which they agree is passed
      pub one_passed : (then : Unread) (next : ℕ) (order : Ordering) → next ≡ suc at → order ≡ Equal
          → ((fields : List Datum) → AreUnread now fields → order ≡ key_cmp (direction descends at ∷ []) (datum_of value ∷ []) fields)
          → ((fields : List Datum) → AreUnread now fields → order ≡ Equal → AreUnread then (drop 1 fields))
          → ArePassed descends values tail next old then
      one_passed then next order next_is equal found goes fields unread =
          let p = passed fields unread in
          let e : key_cmp (direction descends at ∷ []) (datum_of value ∷ []) p.rest ≡ Equal = sym (found p.rest p.unread) ∙ equal in
          let k = key_cmp (drop (suc at) descends) (drop (suc at) (data_of values) ++ tail) (drop 1 p.rest) in
          record {
            rest = drop 1 p.rest;
            unread = goes p.rest p.unread equal;
            is = here fields unread ∙ ap (λ (o : Ordering). ordering_then o k) e
                ∙ ap (λ (i : ℕ). key_cmp (drop i descends) (drop i (data_of values) ++ tail) (drop 1 p.rest)) (sym next_is);
          }

    module _ (all : at ≡ length values) where
      all_here : (fields : List Datum) (unread : AreUnread old fields)
          → key_cmp descends (data_of values ++ tail) fields ≡ key_cmp (drop at descends) tail (passed fields unread).rest
      all_here fields unread =
          let p = passed fields unread in
          p.is ∙ ap (λ (k : List Datum). key_cmp (drop at descends) (k ++ tail) p.rest) (none_left values at all)

    -- where it is no record from there on, it is none at all
    pub no_order : ((fields : List Datum) → ¬ AreUnread now fields) → (fields : List Datum) → ¬ AreUnread old fields
    no_order none fields unread = let p = passed fields unread in none p.rest p.unread

    pub last_none : (order : Option Ordering) → IfNone order ((fields : List Datum) → ¬ AreUnread now fields)
        → IfNone order ((fields : List Datum) → ¬ AreUnread old fields)
    last_none None none = no_order none
    last_none (Some order) none = tt

module _ (descends : List Bool) (values : List Value) (at : ℕ) (old now : Unread) (all : at ≡ length values) where
  all_agree : ArePassed descends values [] at old now → (fields : List Datum) → AreUnread old fields → Equal ≡ key_cmp descends (data_of values ++ []) fields
  all_agree passed fields unread = sym (all_here descends values [] old at now passed all fields unread)

  -- the key ends with its first values
  pub no_more : (end : Option ValueRef) → end ≡ None → ArePassed descends values (value_list end) at old now
      → (fields : List Datum) → AreUnread old fields → Equal ≡ key_cmp descends (data_of values ++ value_list end) fields
  no_more end none passed =
      subst (λ (e : Option ValueRef). ArePassed descends values (value_list e) at old now
      → (fields : List Datum) → AreUnread old fields → Equal ≡ key_cmp descends (data_of values ++ value_list e) fields)
      (sym none) all_agree passed

  one_order : (value : Datum) → ArePassed descends values (value ∷ []) at old now → (order : Option Ordering)
      → IfSome order (λ o. (fields : List Datum) → AreUnread now fields → o ≡ key_cmp (direction descends (length values) ∷ []) (value ∷ []) fields)
      → IfSome order (λ o. (fields : List Datum) → AreUnread old fields → o ≡ key_cmp descends (data_of values ++ value ∷ []) fields)
  one_order value passed None found = tt
  one_order value passed (Some order) found = λ fields unread.
      let p = passed fields unread in
      let e : order ≡ key_cmp (direction descends at ∷ []) (value ∷ []) p.rest =
      subst (λ (i : ℕ). order ≡ key_cmp (direction descends i ∷ []) (value ∷ []) p.rest) (sym all) (found p.rest p.unread) in
      e ∙ sym (then_equal (key_cmp (direction descends at ∷ []) (value ∷ []) p.rest)) ∙ sym (next_column descends at value [] p.rest)
      ∙ sym (all_here descends values (value ∷ []) old at now passed all fields unread)

  -- or with one more column
  pub one_more : (end : Option ValueRef) (value : ValueRef) → end ≡ Some value → ArePassed descends values (value_list end) at old now → (order : Option Ordering)
      → IfSome order (λ o. (fields : List Datum) → AreUnread now fields → o ≡ key_cmp (direction descends (length values) ∷ []) (datum_of_ref value ∷ []) fields)
      → IfSome order (λ o. (fields : List Datum) → AreUnread old fields → o ≡ key_cmp descends (data_of values ++ value_list end) fields)
  one_more end value some passed order found =
      subst (λ (e : Option ValueRef). ArePassed descends values (value_list e) at old now
      → IfSome order (λ o. (fields : List Datum) → AreUnread old fields → o ≡ key_cmp descends (data_of values ++ value_list e) fields))
      (sym some) (λ p. one_order (datum_of_ref value) p order found) passed

pub IfNone-always : {T : Type 0} {P : Type 0} (r : Option T) → P → IfNone r P
IfNone-always None p = p
IfNone-always (Some v) p = tt
