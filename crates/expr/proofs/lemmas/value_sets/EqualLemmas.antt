-- A value against each of a list, by whether it is one of them and whether NULL is.
use Rattle.std.proofs.Common.{◌≡◌, ◌≢◌, ◌∙◌, ◌==◌, ◌||◌, Bool, true, false, None, Option, Some, List, [], ◌∷◌, if◌then◌else◌, is_eq, length, map, refl, sym, ap}
use Rattle.std.specs.List.{list_any}
use Rattle.values.specs.Datum.{Datum, datum_of, null, int, text, blob}
use Rattle.values.specs.declared.value.Value.{Value}
use Rattle.values.specs.Order.{datum_cmp}
use Rattle.expr.specs.declared.operations.kinds.Comparison.TheVariants.{Eq}
use Rattle.expr.specs.operations.Operations.{any_equal, comparison, is_null, or3, test_of}
use Rattle.expr.specs.value_sets.Order.{is_among}
use Rattle.expr.proofs.lemmas.value_sets.AmongLemmas.{is_same, true_false}

null_test : (v : Datum) → comparison Eq null v ≡ None
unfolding comparison is_null
null_test v = refl

-- NULL against any value is unknown
unknown_all : (vs : List Datum) → or3 None (any_equal null vs) ≡ None
unknown_all [] = refl
unknown_all (v ∷ vs) = ap (λ a. or3 None (or3 a (any_equal null vs))) (null_test v) ∙ ap (or3 None) (unknown_all vs)

pub unknown_itself : (v : Datum) (vs : List Datum) → any_equal null (v ∷ vs) ≡ None
unknown_itself v vs = ap (λ a. or3 a (any_equal null vs)) (null_test v) ∙ unknown_all vs

or3_true : (a : Option Bool) → or3 a (Some true) ≡ Some true
or3_true (Some true) = refl
or3_true (Some false) = refl
or3_true None = refl

missing_more : (unknown same any : Bool) → same ≡ false
    → or3 (if unknown then None else Some same) (if any then None else Some false) ≡ (if unknown || any then None else Some false)
missing_more true same true e = refl
missing_more true same false e = refl
missing_more false same any e = ap (λ b. or3 (Some b) (if any then None else Some false)) e

module _ (x : Datum) (known : is_null x ≡ false) where
  known_test : (v : Datum) → comparison Eq x v ≡ (if is_null v then None else Some (is_eq (datum_cmp x v)))
  unfolding comparison test_of
  known_test v = ap (λ b. if (b || is_null v) then None else Some (is_eq (datum_cmp x v))) known

  abbrev test : Datum → Option Bool
  test v = if is_null v then None else Some (is_eq (datum_cmp x v))

  step : (v : Datum) (vs : List Datum) → any_equal x (v ∷ vs) ≡ or3 (test v) (any_equal x vs)
  step v vs = ap (λ a. or3 a (any_equal x vs)) (known_test v)

  test_same : (v : Datum) → is_eq (datum_cmp x v) ≡ true → test v ≡ Some true
  test_same v same =
      ap (λ n. if n then None else Some (is_eq (datum_cmp x v))) (ap is_null (sym (is_same x v same)) ∙ known) ∙ ap (λ b. Some b) same

  found_step : (v : Datum) (vs : List Datum) (same : Bool) → is_eq (datum_cmp x v) ≡ same → (same || is_among x vs) ≡ true
      → (is_among x vs ≡ true → any_equal x vs ≡ Some true) → any_equal x (v ∷ vs) ≡ Some true
  found_step v vs true here h later = step v vs ∙ ap (λ a. or3 a (any_equal x vs)) (test_same v here)
  found_step v vs false here h later = step v vs ∙ ap (or3 (test v)) (later h) ∙ or3_true (test v)

  -- true where it is one of them
  pub found : (vs : List Datum) → is_among x vs ≡ true → any_equal x vs ≡ Some true
  found [] h = absurd (true_false (sym h))
  found (v ∷ vs) h = found_step v vs (is_eq (datum_cmp x v)) refl h (found vs)

  abbrev otherwise : List Datum → Option Bool
  otherwise vs = if list_any is_null vs then None else Some false

  missing_step : (v : Datum) (vs : List Datum) (same : Bool) → is_eq (datum_cmp x v) ≡ same → (same || is_among x vs) ≡ false
      → (is_among x vs ≡ false → any_equal x vs ≡ otherwise vs) → any_equal x (v ∷ vs) ≡ otherwise (v ∷ vs)
  missing_step v vs true here h later = absurd (true_false h)
  missing_step v vs false here h later =
      step v vs ∙ ap (or3 (test v)) (later h) ∙ missing_more (is_null v) (is_eq (datum_cmp x v)) (list_any is_null vs) here

  -- and else unknown where NULL is
  pub missing : (vs : List Datum) → is_among x vs ≡ false → any_equal x vs ≡ otherwise vs
  missing [] h = refl
  missing (v ∷ vs) h = missing_step v vs (is_eq (datum_cmp x v)) refl h (missing vs)

  pub missing_null : (vs : List Datum) → is_among x vs ≡ false → list_any is_null vs ≡ true → any_equal x vs ≡ None
  missing_null vs other unknown = missing vs other ∙ ap (λ b. if b then None else Some false) unknown

  pub missing_known : (vs : List Datum) → is_among x vs ≡ false → list_any is_null vs ≡ false → any_equal x vs ≡ Some false
  missing_known vs other whole = missing vs other ∙ ap (λ b. if b then None else Some false) whole

-- ---- what is asked first

pub known_is : (x : Datum) → is_null x ≡ false → x ≢ null
unfolding is_null
known_is x e = λ same. true_false (sym (ap is_null same) ∙ e)

null_is : (x : Datum) → is_null x ≡ true → x ≡ null
unfolding is_null
null_is null e = refl
null_is (int z) e = absurd (true_false (sym e))
null_is (text s) e = absurd (true_false (sym e))
null_is (blob s) e = absurd (true_false (sym e))

pub null_against : (x : Datum) (values : List Value) (r : Bool) → r ≡ (length values == 0) → r ≡ false → is_null x ≡ true
    → any_equal x (map datum_of values) ≡ None
null_against x [] r e some unknown = absurd (true_false (sym e ∙ some))
null_against x (v ∷ values) r e some unknown =
    ap (λ y. any_equal y (map datum_of (v ∷ values))) (null_is x unknown) ∙ unknown_itself (datum_of v) (map datum_of values)
