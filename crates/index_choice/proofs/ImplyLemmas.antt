-- The steps of a search for the conjuncts that imply a condition, and that a condition is true where one is.
use Rattle.std.proofs.Common.{◌≡◌, ◌<◌, ℕ, zero, suc, ◌+◌, Bool, true, false, List, [], ◌∷◌, ◌++◌, append_assoc, append-nil, drop, length, get_or, refl, sym, ap, ◌∙◌, arith, subst, inl, inr, Option, Some, None, option_map}
use Rattle.std.specs.Prelude.{◌⊎◌, ◌↔◌, IsTrue, ◌||◌, if◌then◌else◌, nat_lt, slice_index_or}
use Rattle.std.specs.List.{Contains, HoldsAt}
use Rattle.std.proofs.lemmas.List.Elements.{Contains-append_left, Contains-push, Contains-push_cases, at_read}
use Rattle.std.proofs.lemmas.Bool.{eqb-true, ltb-false, ltb-true}
use Rattle.std.specs.declared.cmp.Ordering.{Ordering}
use Rattle.values.specs.Datum.{Datum, null, int, text, blob}
use Rattle.values.specs.Order.{datum_cmp}
use Rattle.expr.specs.declared.operations.kinds.Comparison.{Comparison}
use Rattle.expr.specs.declared.operations.kinds.Function.TheVariants.{Not}
use Rattle.expr.specs.Conjuncts.{is_true}
use Rattle.expr.specs.operations.Functions.{call_of}
use Rattle.expr.specs.Meaning.{compared, run}
use Rattle.expr.specs.operations.Operations.{condition, same, test_of, truth}
use Rattle.expr.specs.Term.{Term, call, column, compare, is, literal}
use Rattle.btree_cursor.specs.key_ranges.Ranges.{holds, is_null}
use Rattle.index_choice.specs.ColumnBounds.{column_of}
use Rattle.index_choice.specs.Conditions.{AreImplying, ImpliedIsTrue, Implies, ImplyingAreImplying, implies, implying, implying_from, compares, compares_some, is_column, is_null_literal, not_null_column, null_column}
use Rattle.index_choice.proofs.BoundLemmas.{compare_holds}
use Rattle.semantics_names.specs.Same.{is_same_term}
use Rattle.std.proofs.Math.Seq.{drop-cons}
use Rattle.std.proofs.lemmas.List.{drop_all, get_or_default}

abbrev pub AreImplyingBelow : ℕ → List Term → Term → List ℕ → Type 0
AreImplyingBelow n conjuncts condition places =
    (at : ℕ) → Contains places at ↔ ((at < n) × HoldsAt (λ conjunct. Implies conjunct condition) conjuncts at)

module _ (conjuncts : List Term) (condition : Term) (places : List ℕ) (i : ℕ) (x : Term) (lt : i < length conjuncts) (is : x ≡ get_or conjuncts i x)
    (so-far : AreImplyingBelow i conjuncts condition places) where
  abbrev IsImplying : ℕ → Type 0
  IsImplying at = HoldsAt (λ conjunct. Implies conjunct condition) conjuncts at

  here : IsImplying i → Implies x condition
  here h = let P : Term → Type 0 = λ t. Implies t condition in subst P (sym is) (h x)

  last_or_below : (k : ℕ) → k < i + 1 → (k < i) ⊎ (k ≡ i)
  last_or_below k h = by-test (nat_lt k i) refl
    where
      by-test : (t : Bool) → nat_lt k i ≡ t → (k < i) ⊎ (k ≡ i)
      by-test true e = inl (ltb-true k i e)
      by-test false e = inr (omega (arith, h, ltb-false k i e))

  pub passes : (Implies x condition → ⊥) → AreImplyingBelow (i + 1) conjuncts condition places
  passes none k = (
    λ c. let h = (so-far k).0 c in (omega (arith, h.0), h.1),
    λ h. elim (last_or_below k h.0) [ inl b ↦ (so-far k).1 (b, h.1) | inr e ↦ absurd (none (here (subst IsImplying e h.1))) ],
  )

  pub grows : Implies x condition → AreImplyingBelow (i + 1) conjuncts condition (places ++ i ∷ [])
  grows some k = (
    λ c. elim (Contains-push_cases places i k c) [
      | inl b ↦ let h = (so-far k).0 b in (omega (arith, h.0), h.1)
      | inr e ↦ (omega (arith, e), subst IsImplying e (at_read conjuncts (λ conjunct. Implies conjunct condition) i x lt is some))
    ],
    λ h. elim (last_or_below k h.0) [
      | inl b ↦ Contains-append_left places (i ∷ []) k ((so-far k).1 (b, h.1))
      | inr e ↦ subst (Contains (places ++ i ∷ [])) (sym e) (Contains-push places i)
    ],
  )

-- ---- the test

-- a test that answers whether two terms are one
tested_same : ((x y : Term) → (is_same_term x y ≡ true) ↔ (x ≡ y)) → (found : Bool) (t u : Term) → IsTrue found ↔ (t ≡ u) → found ≡ is_same_term t u
tested_same law found t u both = by-test found (is_same_term t u) refl refl
  where
    by-test : (r s : Bool) → found ≡ r → is_same_term t u ≡ s → r ≡ s
    by-test true true d e = refl
    by-test false false d e = refl
    by-test false true d e = let differ : false ≡ true = sym d ∙ both.1 ((law t u).0 e) in absurd cc
    by-test true false d e = let differ : false ≡ true = sym e ∙ (law t u).1 (both.0 d) in absurd cc

-- so is one that answers whether a conjunct implies a condition
pub tested : ((x y : Term) → (is_same_term x y ≡ true) ↔ (x ≡ y)) → (conjunct condition : Term) (same compared : Bool) → IsTrue same ↔ (conjunct ≡ condition)
    → compared ≡ compares_some (not_null_column condition) conjunct → (same || compared) ≡ implies conjunct condition
tested law conjunct condition found compared both e = rw (tested_same law found conjunct condition both, e) refl

module _ (law : (x y : Term) → (is_same_term x y ≡ true) ↔ (x ≡ y)) where
  implies_true : (conjunct condition : Term) → implies conjunct condition ≡ true → Implies conjunct condition
  implies_true conjunct condition e = by-test (is_same_term conjunct condition) refl e
    where
      by-test : (s : Bool) → is_same_term conjunct condition ≡ s → (s || compares_some (not_null_column condition) conjunct) ≡ true → Implies conjunct condition
      by-test true same e = inl ((law conjunct condition).0 same)
      by-test false same e = inr e

  implies_false : (conjunct condition : Term) → implies conjunct condition ≡ false → Implies conjunct condition → ⊥
  implies_false conjunct condition e (inl same) = by-test (is_same_term conjunct condition) ((law conjunct condition).1 same) e
    where
      by-test : (s : Bool) → s ≡ true → (s || compares_some (not_null_column condition) conjunct) ≡ false → ⊥
      by-test true same e = cc
      by-test false same e = cc
  implies_false conjunct condition e (inr compared) = by-test (is_same_term conjunct condition) (compares_some (not_null_column condition) conjunct) compared e
    where
      by-test : (s t : Bool) → t ≡ true → (s || t) ≡ false → ⊥
      by-test true t compared e = cc
      by-test false true compared e = cc
      by-test false false compared e = cc

-- one conjunct more
module _ (conjuncts : List Term) (condition : Term) (places : List ℕ) (i : ℕ) (x : Term) (lt : i < length conjuncts) (is : x ≡ get_or conjuncts i x)
    (so-far : implying conjuncts condition ≡ places ++ implying_from i condition (drop i conjuncts)) where
  next : implying conjuncts condition ≡ places ++ ((if implies x condition then i ∷ [] else []) ++ implying_from (i + 1) condition (drop (i + 1) conjuncts))
  next =
      let more : suc i ≡ i + 1 = omega arith in
      let here : get_or conjuncts i x ∷ drop (suc i) conjuncts ≡ x ∷ drop (i + 1) conjuncts = ap (λ t. t ∷ drop (suc i) conjuncts) (sym is) ∙ ap (λ (k : ℕ). x ∷ drop k conjuncts) more in
      so-far ∙ ap (λ ts. places ++ implying_from i condition ts) (drop-cons conjuncts i x lt ∙ here)

  pub listed : implies x condition ≡ true → implying conjuncts condition ≡ (places ++ i ∷ []) ++ implying_from (i + 1) condition (drop (i + 1) conjuncts)
  listed e =
      let rest = implying_from (i + 1) condition (drop (i + 1) conjuncts) in
      next ∙ ap (λ (b : Bool). places ++ ((if b then i ∷ [] else []) ++ rest)) e ∙ sym (append_assoc places (i ∷ []) rest)

  pub left_out : implies x condition ≡ false → implying conjuncts condition ≡ places ++ implying_from (i + 1) condition (drop (i + 1) conjuncts)
  left_out e = next ∙ ap (λ (b : Bool). places ++ ((if b then i ∷ [] else []) ++ implying_from (i + 1) condition (drop (i + 1) conjuncts))) e

-- from a place on, after those that were found
rest_implying : ((x y : Term) → (is_same_term x y ≡ true) ↔ (x ≡ y)) → (conjuncts : List Term) (condition d : Term) (left i : ℕ) (places : List ℕ) → i + left ≡ length conjuncts
    → AreImplyingBelow i conjuncts condition places → AreImplying conjuncts condition (places ++ implying_from i condition (drop i conjuncts))
rest_implying law conjuncts condition d zero i places whole below =
    let all : i ≡ length conjuncts = omega (arith, whole) in
    let none : drop i conjuncts ≡ [] = ap (λ (k : ℕ). drop k conjuncts) all ∙ drop_all (length conjuncts) conjuncts (omega arith) in
    rw (none, append-nil places) (subst (λ (n : ℕ). AreImplyingBelow n conjuncts condition places) all below)
rest_implying law conjuncts condition d (suc left) i places whole below =
    let lt : i < length conjuncts = omega (arith, whole) in
    let x = get_or conjuncts i d in
    let is : x ≡ get_or conjuncts i x = get_or_default conjuncts i d x lt in
    let more : suc i ≡ i + 1 = omega arith in
    let next : (i + 1) + left ≡ length conjuncts = omega (arith, whole) in
    let here : drop i conjuncts ≡ x ∷ drop (i + 1) conjuncts = drop-cons conjuncts i d lt ∙ ap (λ (k : ℕ). x ∷ drop k conjuncts) more in
    subst (λ ts. AreImplying conjuncts condition (places ++ implying_from i condition ts)) (sym here)
    (by-test x (implies x condition) refl
    (λ e. rest_implying law conjuncts condition d left (i + 1) (places ++ i ∷ []) next (grows conjuncts condition places i x lt is below (implies_true law x condition e)))
    (λ e. rest_implying law conjuncts condition d left (i + 1) places next (passes conjuncts condition places i x lt is below (implies_false law x condition e))))
  where
    by-test : (x : Term) (b : Bool) → implies x condition ≡ b
        → (implies x condition ≡ true → AreImplying conjuncts condition ((places ++ i ∷ []) ++ implying_from (i + 1) condition (drop (i + 1) conjuncts)))
        → (implies x condition ≡ false → AreImplying conjuncts condition (places ++ implying_from (i + 1) condition (drop (i + 1) conjuncts)))
        → AreImplying conjuncts condition (places ++ ((if b then i ∷ [] else []) ++ implying_from (i + 1) condition (drop (i + 1) conjuncts)))
    by-test x true e taken passed =
        subst (λ (ps : List ℕ). AreImplying conjuncts condition ps) (append_assoc places (i ∷ []) (implying_from (i + 1) condition (drop (i + 1) conjuncts))) (taken e)
    by-test x false e taken passed = passed e

none_below : (conjuncts : List Term) (condition : Term) → AreImplyingBelow 0 conjuncts condition []
none_below conjuncts condition at = (λ c. absurd (omega (arith, c.1)), λ h. absurd (omega (arith, h.0)))

pub implying_are_implying : ((x y : Term) → (is_same_term x y ≡ true) ↔ (x ≡ y)) → ImplyingAreImplying
implying_are_implying law conjuncts condition = rest_implying law conjuncts condition condition (length conjuncts) 0 [] (omega arith) (none_below conjuncts condition)

-- ---- what is implied is true

holds_left : (test : Ordering → Bool) (x v : Datum) → holds test x v ≡ true → is_null x ≡ false
holds_left test x v h = by-null (is_null x) (is_null v) h
  where
    by-null : (s t : Bool) → (if s || t then false else test (datum_cmp x v)) ≡ true → s ≡ false
    by-null true t h = cc
    by-null false t h = refl

holds_right : (test : Ordering → Bool) (x v : Datum) → holds test x v ≡ true → is_null v ≡ false
holds_right test x v h = by-null (is_null x) (is_null v) h
  where
    by-null : (s t : Bool) → (if s || t then false else test (datum_cmp x v)) ≡ true → t ≡ false
    by-null true t h = cc
    by-null false true h = cc
    by-null false false h = refl

left_not_null : (op : Comparison) (x : Datum) (m : Option Datum) → is_true (option_map condition (compared op (Some x) m)) ≡ true → is_null x ≡ false
left_not_null op x None h = cc
left_not_null op x (Some v) h = holds_left (test_of op) x v (sym (compare_holds op x v) ∙ h)

right_not_null : (op : Comparison) (m : Option Datum) (x : Datum) → is_true (option_map condition (compared op m (Some x))) ≡ true → is_null x ≡ false
right_not_null op None x h = cc
right_not_null op (Some v) x h = holds_right (test_of op) v x (sym (compare_holds op v x) ∙ h)

-- a comparison that is true compares no NULL
module _ (o : Option Datum) (row : List Datum) (c : ℕ) where
  abbrev IsThere : Type 0
  IsThere = is_null (slice_index_or row c null) ≡ false

  left_there : (op : Comparison) (a b : Term) → is_column c (column_of a) ≡ true → is_true (run o row (compare op a b)) ≡ true → IsThere
  left_there op (column i) b e h = let same : i ≡ c = eqb-true i c e in subst (λ k. is_null (slice_index_or row k null) ≡ false) same (left_not_null op (slice_index_or row i null) (run o row b) h)
  left_there op a b e h = cc

  right_there : (op : Comparison) (a b : Term) → is_column c (column_of b) ≡ true → is_true (run o row (compare op a b)) ≡ true → IsThere
  right_there op a (column i) e h = let same : i ≡ c = eqb-true i c e in subst (λ k. is_null (slice_index_or row k null) ≡ false) same (right_not_null op (run o row a) (slice_index_or row i null) h)
  right_there op a b e h = cc

  compared_there : (t : Term) → compares c t ≡ true → is_true (run o row t) ≡ true → IsThere
  compared_there (compare op a b) e h = by-side (is_column c (column_of a)) refl e
    where
      by-side : (s : Bool) → is_column c (column_of a) ≡ s → (s || is_column c (column_of b)) ≡ true → IsThere
      by-side true l e = left_there op a b l h
      by-side false l e = right_there op a b e h
  compared_there t e h = cc

  null_parts : (b a : Term) → (if is_null_literal b then column_of a else None) ≡ Some c → (a ≡ column c) × (b ≡ literal null)
  null_parts (literal null) (column i) e = (cc, refl)
  null_parts (literal null) a e = cc
  null_parts b a e = cc

  null_value : (t : Term) → null_column t ≡ Some c → run o row t ≡ Some (condition (Some (same (slice_index_or row c null) null)))
  null_value (is a b) e = let parts = null_parts b a e in rw (parts.0, parts.1) refl
  null_value t e = cc

  not_null_holds : IsThere → is_true (call_of o Not (condition (Some (same (slice_index_or row c null) null)))) ≡ true
  unfolding call_of same truth condition
  not_null_holds there = by-value (slice_index_or row c null) there
    where
      by-value : (x : Datum) → is_null x ≡ false → is_true (call_of o Not (condition (Some (same x null)))) ≡ true
      by-value null h = cc
      by-value (int n) h = refl
      by-value (text s) h = refl
      by-value (blob s) h = refl

  not_null_is_true : (t : Term) → not_null_column t ≡ Some c → IsThere → is_true (run o row t) ≡ true
  not_null_is_true (call Not t) e there = rw (null_value t e) (not_null_holds there)
  not_null_is_true t e there = cc

pub implied_is_true : ImpliedIsTrue
implied_is_true conjunct implied (inl e) o row h = subst (λ t. is_true (run o row t) ≡ true) e h
implied_is_true conjunct implied (inr e) o row h = by-column (not_null_column implied) refl e
  where
    by-column : (found : Option ℕ) → not_null_column implied ≡ found → compares_some found conjunct ≡ true → is_true (run o row implied) ≡ true
    by-column None found e = cc
    by-column (Some c) found e = not_null_is_true o row c implied found (compared_there o row c conjunct e h)
